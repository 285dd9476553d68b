-- What an array tells of itself.
use Rattle.std.specs.Prelude.{ℕ, cond, Ok, Err, Result, nat_lt}
use Rattle.block.specs.declared.refusal.Refusal.{Refusal}
use Rattle.block.specs.declared.refusal.Refusal.TheVariants.{Place}
use Rattle.stripe.specs.declared.shapes.SlotState.{SlotState}
use Rattle.stripe.specs.View.{Slots}

-- the state of slot c, of a shelf of n cards
abbrev pub state_answer : ℕ → Slots → ℕ → Result SlotState Refusal
state_answer n σ c = cond (nat_lt c n) (Ok (σ c)) (Err Place)
