-- How a read obtains a block from a stripe.
use Rattle.std.specs.Prelude.{ℕ, ◌+◌, Bool, false, cond, List, [], ◌∷◌, Some, None, Option, ◌==◌, Ok, Err}
use Rattle.block.specs.declared.shapes.Role.TheVariants.{Parity, Data}
use Rattle.block.specs.Shapes.{Verdict}
use Rattle.block.specs.Judging.{Setup}
use Rattle.block.specs.Layout.{version_of}
use Rattle.block.specs.Places.{slot_of}
use Rattle.shelf.specs.Model.{Write, write_of}
use Rattle.stripe.specs.declared.shapes.Decision.{Decision}
use Rattle.stripe.specs.declared.shapes.Decision.TheVariants.{Clean, Only, Lost as TwoBad}
use Rattle.stripe.specs.Judge.{bad_role, decision}
use Rattle.stripe.specs.Mend.{mended}
use Rattle.stripe.specs.View.{Slots, View, takes_at}
use Rattle.runs.specs.declared.shapes.Gathered.{Gathered}
use Rattle.runs.specs.declared.shapes.Obtained.{Obtained}
use Rattle.runs.specs.declared.shapes.Obtained.TheVariants.{Lost, Found, Rebuilt}
use Rattle.runs.specs.declared.shapes.Patch.{Patch}

-- data block j and parity are both readable, and the lead is 0
abbrev pub quick : Verdict → Verdict → ℕ → Bool
quick (Err c) q j = false
quick (Ok b) (Err c) j = false
quick (Ok b) (Ok p) j = version_of b 0 == version_of p j

abbrev pub patch_by : Setup → ℕ → View → Decision → Option Patch
patch_by E s V Clean = None
patch_by E s V (Only r) = Some (record { slot = slot_of E.D s r; bytes = mended E s V r })
patch_by E s V TwoBad = None

-- the write that mends the mask's only block, if there is one
unfoldable pub patch_of : Setup → ℕ → View → Option Patch
patch_of E s V = patch_by E s V (decision E.D s V)

-- a patch is handed down unless its place takes no writes
abbrev pub patch_writes : Slots → ℕ → Option Patch → List Write
patch_writes σ s None = []
patch_writes σ s (Some p) = cond (takes_at (σ p.slot) s) (write_of p.slot s p.bytes ∷ []) []

-- the slot to which a patch is handed down, if any
abbrev pub patched_slot : Slots → ℕ → Option Patch → Option ℕ
patched_slot σ s None = None
patched_slot σ s (Some p) = cond (takes_at (σ p.slot) s) (Some p.slot) None

abbrev pub as_found : Verdict → Obtained
as_found (Err c) = Lost
as_found (Ok b) = Found b

abbrev pub as_rebuilt : Option Patch → Obtained
as_rebuilt None = Lost
as_rebuilt (Some p) = Rebuilt p.bytes

-- all places looked at: a block outside the mask as found, the mask's only block rebuilt, else lost
unfoldable pub gathered_all : Setup → ℕ → View → ℕ → Gathered
gathered_all E s V j = record {
  obtained = cond (bad_role E.D V (Data j)) (as_rebuilt (patch_of E s V)) (as_found (V (Data j)));
  looks = E.D + 1;
  patch = patch_of E s V;
}

abbrev pub gathered_quick : Verdict → Gathered
gathered_quick v = record { obtained = as_found v; looks = 2; patch = None }

-- the block and its parity are looked at first; then, if need be, all places
unfoldable pub gathered : Setup → ℕ → View → ℕ → Gathered
gathered E s V j = cond (quick (V (Data j)) (V Parity) j) (gathered_quick (V (Data j))) (gathered_all E s V j)
