-- What is found at each place of a stripe.
use Rattle.std.specs.Prelude.{ℕ, zero, suc, Bool, false, cond, ◌||◌, List, ℤ, pos, ◌-ℤ◌, Some, None, Option, ◌==◌, int_lt, nat_le, Ok, Err}
use Rattle.block.specs.declared.shapes.Defect.{Defect}
use Rattle.block.specs.declared.shapes.Defect.TheVariants.{Blind, Broken, Foreign}
use Rattle.block.specs.declared.shapes.Role.{Role}
use Rattle.block.specs.declared.shapes.Role.TheVariants.{Parity, Data}
use Rattle.block.specs.Shapes.{Verdict}
use Rattle.block.specs.Layout.{table, version_of}
use Rattle.block.specs.Places.{role_at, slot_of}
use Rattle.stripe.specs.declared.shapes.Cause.{Cause}
use Rattle.stripe.specs.declared.shapes.Cause.TheVariants.{Blind as IsBlind, Broken as IsBroken, Foreign as IsForeign, Behind}
use Rattle.stripe.specs.declared.shapes.Condition.{Condition}
use Rattle.stripe.specs.declared.shapes.Condition.TheVariants.{NotLooked, Readable as IsReadable, Bad}
use Rattle.stripe.specs.declared.shapes.Finding.{Finding}
use Rattle.stripe.specs.declared.shapes.Layer.{Layer}
use Rattle.stripe.specs.declared.shapes.Layer.TheVariants.{Card, Checksum, Identity, Version}
use Rattle.stripe.specs.Judge.{bad_role}
use Rattle.stripe.specs.View.{View}

abbrev pub cause_of : Defect → Cause
cause_of Blind = IsBlind
cause_of Broken = IsBroken
cause_of Foreign = IsForeign

-- the layer that shows a cause
abbrev pub layer_of : Cause → Layer
layer_of IsBlind = Card
layer_of IsBroken = Checksum
layer_of IsForeign = Identity
layer_of Behind = Version

abbrev pub layer_in : Condition → Option Layer
layer_in NotLooked = None
layer_in IsReadable = None
layer_in (Bad c) = Some (layer_of c)

-- a block by its verdict, and whether it is in the mask
abbrev pub condition_of : Verdict → Bool → Condition
condition_of (Err c) b = Bad (cause_of c)
condition_of (Ok x) b = cond b (Bad Behind) IsReadable

-- the version of data block j minus the mirrored one, if both blocks are readable
abbrev pub lead_at : Verdict → Verdict → ℕ → Option ℤ
lead_at (Err c) q j = None
lead_at (Ok b) (Err c) j = None
lead_at (Ok b) (Ok p) j = Some (pos (version_of b 0) -ℤ pos (version_of p j))

-- the greater of two leads, if any
abbrev pub greater : Option ℤ → Option ℤ → Option ℤ
greater None y = y
greater (Some x) None = Some x
greater (Some x) (Some y) = Some (cond (int_lt x y) y x)

-- the greatest lead of the first n data blocks
unfoldable pub greatest_lead : View → ℕ → Option ℤ
greatest_lead V zero = None
greatest_lead V (suc n) = greater (lead_at (V (Data n)) (V Parity) n) (greatest_lead V n)

-- the lead that is shown for a block
abbrev pub lead_shown : ℕ → View → Role → Option ℤ
lead_shown d V Parity = greatest_lead V d
lead_shown d V (Data j) = lead_at (V (Data j)) (V Parity) j

abbrev pub finding_of : ℕ → ℕ → Condition → Option ℤ → Bool → Finding
finding_of c s x l m = record { slot = c; block = s; condition = x; layer = layer_in x; lead = l; mended = m }

abbrev pub not_looked : ℕ → ℕ → Finding
not_looked s c = finding_of c s NotLooked None false

-- whether the slot is the one that was mended
abbrev pub is_mended : Option ℕ → ℕ → Bool
is_mended None c = false
is_mended (Some m) c = c == m

-- slot c after all places of stripe s were looked at, with the slot that was mended, if any
abbrev pub found_at : ℕ → ℕ → View → Option ℕ → ℕ → Finding
found_at d s V m c =
    cond (nat_le c d)
    (finding_of c s (condition_of (V (role_at d s c)) (bad_role d V (role_at d s c))) (lead_shown d V (role_at d s c)) (is_mended m c))
    (not_looked s c)

-- the eight findings of a stripe all of whose places were looked at
unfoldable pub findings_all : ℕ → ℕ → View → Option ℕ → List Finding
findings_all d s V m = table 8 (found_at d s V m)

-- slot c after only data block j and parity were looked at, both readable and level
abbrev pub found_quick : ℕ → ℕ → ℕ → ℕ → Finding
found_quick d s j c =
    cond (c == slot_of d s (Data j) || c == slot_of d s Parity) (finding_of c s IsReadable (Some (pos 0)) false) (not_looked s c)

unfoldable pub findings_quick : ℕ → ℕ → ℕ → List Finding
findings_quick d s j = table 8 (found_quick d s j)
