-- A slot's new state, written into the states that code holds. Assumes nothing.
use Rattle.std.proofs.Common.{◌≡◌, ℕ, ◌<◌, cond, eqb, List, length, get_or, set, arith}
use mathlib.Core.Path.{fun_ext}
use Rattle.std.proofs.lemmas.Grind.{common_steps}
use Rattle.stripe.specs.declared.shapes.SlotState.{SlotState}
use Rattle.stripe.specs.declared.shapes.SlotState.TheVariants.{In}
use Rattle.stripe.specs.View.{slots_in}
use Rattle.runs.specs.Slots.{put_slot}

at : (xs : List SlotState) (c k : ℕ) (x : SlotState) → c < length xs → get_or (set xs c x) k In ≡ cond (eqb k c) x (get_or xs k In)
at xs c k x h = grind (arith, common_steps)

pub put_slot_lem : (xs : List SlotState) (c : ℕ) (x : SlotState) → c < length xs → slots_in (set xs c x) ≡ put_slot (slots_in xs) c x
put_slot_lem xs c x h = fun_ext (λ k. at xs c k x h)
