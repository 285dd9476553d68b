-- Why no image is made.
use Rattle.std.specs.Prelude.{ℕ, cond, Some, None, Ok, Err, Option, Result, Vec}
use Rattle.std.specs.declared.alloc.Global.{Global}
use Rattle.block.specs.declared.refusal.Refusal.{Refusal}
use Rattle.block.specs.declared.refusal.Refusal.TheVariants.{Shape}
use Rattle.image.specs.declared.failures.MakeError.{MakeError}
use Rattle.image.specs.declared.failures.MakeError.TheVariants.{Refused, NoMemory}
use Rattle.block.specs.declared.refusal.HandedBack.{HandedBack}
use Rattle.image.specs.Extents.{shape_fits}

-- the refused bytes with the refusal
abbrev pub handed_back : Vec ℕ Global → Refusal → HandedBack (Vec ℕ Global)
handed_back bytes refusal = record { refusal = refusal; value = bytes }

-- why no new image of n cards with s blocks is made, but for want of memory
abbrev pub make_refusal : ℕ → ℕ → Option Refusal
make_refusal n s = cond (shape_fits n s) None (Some Shape)

-- the refusal that was answered
abbrev pub refusal_of : {T : Type 0} → Result T MakeError → Option Refusal
refusal_of (Ok x) = None
refusal_of (Err (Refused refusal)) = Some refusal
refusal_of (Err NoMemory) = None
