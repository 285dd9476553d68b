-- The masks of all stripes of a shelf.
use Rattle.std.specs.Prelude.{ℕ, ◌-◌, cond, not, ◌&&◌, List, length, Ok, Err, Result, ◌==◌}
use Rattle.block.specs.declared.refusal.Refusal.{Refusal}
use Rattle.block.specs.declared.refusal.Refusal.TheVariants.{Length, Shape}
use Rattle.block.specs.Judging.{Setup}
use Rattle.block.specs.Layout.{table}
use Rattle.shelf.specs.Model.{Content}
use Rattle.stripe.specs.Judge.{mask_number}
use Rattle.stripe.specs.View.{view_of, all_in}

-- what stays fixed of an array on a shelf of so many cards and blocks, under a tag and a checksum
abbrev pub setup_on : ℕ → ℕ → ℕ → ℕ → (List ℕ → ℕ) → Setup
setup_on cards blocks tag mark sum = record { D = cards - 1; S = blocks; tag = tag; mark = mark; sum = sum }

-- the mask of stripe s with all slots in
abbrev pub mask_at : Setup → Content → ℕ → ℕ
mask_at E k s = mask_number E.D s (view_of E k all_in s)

-- the mask of each stripe
unfoldable pub stripe_masks : Setup → Content → List ℕ
stripe_masks E k = table E.S (mask_at E k)

-- a wrong length is refused first, then a tag of 0
abbrev pub survey_answer : {T : Type 0} → T → Setup → ℕ → Result T Refusal
survey_answer t E len = cond (len == E.S) (cond (E.tag == 0) (Err Shape) (Ok t)) (Err Length)

-- the masks; as they were where the survey is refused
abbrev pub survey_masks : Setup → Content → List ℕ → List ℕ
survey_masks E k was = cond (length was == E.S && not (E.tag == 0)) (stripe_masks E k) was
