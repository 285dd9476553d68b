-- What is seen of a stripe.
use Rattle.std.specs.Prelude.{ℕ, Bool, true, false, cond, List, replicate, nat_lt, slice_index_or, None, Err}
use Rattle.block.specs.Shapes.{Cell, Verdict}
use Rattle.block.specs.declared.shapes.Defect.TheVariants.{Blind}
use Rattle.block.specs.declared.shapes.Role.{Role}
use Rattle.block.specs.declared.shapes.Role.TheVariants.{Parity, Data}
use Rattle.block.specs.Judging.{Setup, alone}
use Rattle.block.specs.Layout.{table}
use Rattle.block.specs.Places.{slot_of}
use Rattle.shelf.specs.Model.{Content}
use Rattle.stripe.specs.declared.shapes.SlotState.{SlotState}
use Rattle.stripe.specs.declared.shapes.SlotState.TheVariants.{In, Out, Filling}
use Rattle.stripe.specs.declared.shapes.Stripe.{Stripe}

-- the state of each slot
abbrev pub Slots : Type 0
Slots = ℕ → SlotState

-- the slots that code holds
abbrev pub slots_in : List SlotState → Slots
slots_in states c = slice_index_or states c In

abbrev pub all_in : Slots
all_in c = In

-- whether block s of a slot in such a state is read and written
abbrev pub takes_at : SlotState → ℕ → Bool
takes_at In s = true
takes_at Out s = false
takes_at (Filling n) s = nat_lt s n

-- what is seen of a place; a place that its slot's state hides counts as blind
abbrev pub seen_at : Cell → SlotState → ℕ → Cell
seen_at x t s = cond (takes_at t s) x None

-- the blocks of a stripe by role, each judged alone
abbrev pub View : Type 0
View = Role → Verdict

-- the stripe has such a block, of d data blocks
abbrev pub has_role : ℕ → Role → Bool
has_role d Parity = true
has_role d (Data j) = nat_lt j d

-- a block that the stripe has not counts as blind
unfoldable pub view_of : Setup → Content → Slots → ℕ → View
view_of E k σ s r =
    cond (has_role E.D r) (alone E s r (seen_at (k (slot_of E.D s r) s) (σ (slot_of E.D s r)) s)) (Err Blind)

unfoldable pub row_of : View → List Verdict
row_of V = table 7 (λ j. V (Data j))

-- the stripe that code holds
abbrev pub stripe_of : View → Stripe
stripe_of V = record { parity = V Parity; «data» = row_of V }

-- a stripe of which nothing is seen
abbrev pub unseen_stripe : Stripe
unseen_stripe = record { parity = Err Blind; «data» = replicate 7 (Err Blind) }

-- the view of the stripe that code holds
abbrev pub as_view : Verdict → List Verdict → View
as_view q vs Parity = q
as_view q vs (Data j) = slice_index_or vs j (Err Blind)

abbrev pub seen_in : Stripe → View
seen_in t = as_view t.parity t.«data»
