-- Slot events, and a rebuild stripe by stripe.
use Rattle.std.specs.Prelude.{ℕ, zero, suc, ◌+◌, Bool, true, false, cond, ◌&&◌, List, [], ◌∷◌, Some, None, Ok, Err, Option, Result, ◌==◌, nat_le, nat_lt}
use Rattle.block.specs.declared.refusal.Refusal.{Refusal}
use Rattle.block.specs.declared.refusal.Refusal.TheVariants.{Place, SlotState as NotAllowed}
use Rattle.block.specs.Judging.{Setup}
use Rattle.block.specs.Places.{slot_of}
use Rattle.shelf.specs.Model.{Conduct, Content, Write, after_all, write_of}
use Rattle.stripe.specs.declared.shapes.Decision.{Decision}
use Rattle.stripe.specs.declared.shapes.Decision.TheVariants.{Clean, Only, Lost}
use Rattle.stripe.specs.declared.shapes.SlotState.{SlotState}
use Rattle.stripe.specs.declared.shapes.SlotState.TheVariants.{In, Out, Filling}
use Rattle.stripe.specs.Judge.{decision}
use Rattle.stripe.specs.Mend.{mended}
use Rattle.stripe.specs.View.{Slots, View, view_of}
use Rattle.runs.specs.declared.shapes.Event.{Event}
use Rattle.runs.specs.declared.shapes.Event.TheVariants.{Pull, Fit, Finish, GiveUp}
use Rattle.runs.specs.declared.shapes.RebuildCounts.{RebuildCounts}

abbrev pub put_slot : Slots → ℕ → SlotState → Slots
put_slot σ c x k = cond (k == c) x (σ k)

abbrev pub is_in : SlotState → Bool
is_in In = true
is_in Out = false
is_in (Filling n) = false

-- each of the first n slots is in
abbrev pub all_in_below : ℕ → Slots → Bool
all_in_below zero σ = true
all_in_below (suc n) σ = is_in (σ n) && all_in_below n σ

-- the state that an event leads to, if the state allows it; all tells whether every slot is in, n is the number of stripes
abbrev pub next_state : Bool → ℕ → SlotState → Event → Option SlotState
next_state all n In Pull = cond all (Some Out) None
next_state all n In Fit = None
next_state all n In Finish = None
next_state all n In GiveUp = None
next_state all n Out Pull = None
next_state all n Out Fit = Some (Filling 0)
next_state all n Out Finish = None
next_state all n Out GiveUp = None
next_state all n (Filling m) Pull = None
next_state all n (Filling m) Fit = None
next_state all n (Filling m) Finish = cond (m == n) (Some In) None
next_state all n (Filling m) GiveUp = Some Out

abbrev pub allowed : Option SlotState → Result SlotState Refusal
allowed None = Err NotAllowed
allowed (Some x) = Ok x

-- the slot's next state; a slot out of range is refused first
unfoldable pub event_state : Setup → Slots → ℕ → Event → Result SlotState Refusal
event_state E σ c e = cond (nat_le c E.D) (allowed (next_state (all_in_below (E.D + 1) σ) E.S (σ c) e)) (Err Place)

abbrev pub slots_by : Slots → ℕ → Result SlotState Refusal → Slots
slots_by σ c (Ok x) = put_slot σ c x
slots_by σ c (Err e) = σ

-- the slots after an event
abbrev pub event_slots : Setup → Slots → ℕ → Event → Slots
event_slots E σ c e = slots_by σ c (event_state E σ c e)

abbrev pub answered : {T : Type 0} → T → Result SlotState Refusal → Result T Refusal
answered t (Ok x) = Ok t
answered t (Err e) = Err e

-- the write of a rebuild of slot c at stripe s: the slot's block, if it is the mask's only one
abbrev pub rebuild_by : Setup → ℕ → View → ℕ → Decision → List Write
rebuild_by E s V c Clean = []
rebuild_by E s V c (Only r) = cond (slot_of E.D s r == c) (write_of c s (mended E s V r) ∷ []) []
rebuild_by E s V c Lost = []

unfoldable pub rebuild_writes : Setup → Content → Slots → ℕ → ℕ → List Write
rebuild_writes E k σ s c = rebuild_by E s (view_of E k σ s) c (decision E.D s (view_of E k σ s))

abbrev pub recounted : RebuildCounts → List Write → RebuildCounts
recounted n [] = record { moved = n.moved + 1; mended = n.mended; lost = n.lost + 1 }
recounted n (w ∷ ws) = record { moved = n.moved + 1; mended = n.mended + 1; lost = n.lost }

-- a rebuild under way
pub record Rebuilding : Type 0 where
  pub conduct : Conduct
  pub slots : Slots
  pub counts : RebuildCounts

-- one stripe of slot c, which is being filled at block n
unfoldable pub refill : Setup → ℕ → ℕ → Rebuilding → Rebuilding
refill E c n x = record {
  conduct = after_all x.conduct (rebuild_writes E (x.conduct []) x.slots n c);
  slots = put_slot x.slots c (Filling (suc n));
  counts = recounted x.counts (rebuild_writes E (x.conduct []) x.slots n c);
}

abbrev pub refill_by : Setup → ℕ → SlotState → Rebuilding → Rebuilding
refill_by E c In x = x
refill_by E c Out x = x
refill_by E c (Filling n) x = cond (nat_lt n E.S) (refill E c n x) x

-- the next stripe, if one is left
abbrev pub refill_next : Setup → ℕ → Rebuilding → Rebuilding
refill_next E c x = refill_by E c (x.slots c) x

-- the one-stripe step, repeated
unfoldable pub refills : Setup → ℕ → ℕ → Rebuilding → Rebuilding
refills E c zero x = x
refills E c (suc n) x = refill_next E c (refills E c n x)

abbrev pub rebuild_start : Conduct → Slots → Rebuilding
rebuild_start k σ = record { conduct = k; slots = σ; counts = record { moved = 0; mended = 0; lost = 0 } }

abbrev pub is_filling : SlotState → Bool
is_filling In = false
is_filling Out = false
is_filling (Filling n) = true

-- a slot or a count out of range is refused first, then a slot that is not being filled
unfoldable pub rebuild_refused : Setup → Slots → ℕ → ℕ → Option Refusal
rebuild_refused E σ c n =
    cond (nat_le c E.D && nat_le n 65536) (cond (is_filling (σ c)) None (Some NotAllowed)) (Some Place)

abbrev pub unless : {A : Type 0} → Option Refusal → A → A → A
unless None x y = x
unless (Some e) x y = y

-- a rebuild of at most n stripes of slot c
unfoldable pub rebuild_end : Setup → Conduct → Slots → ℕ → ℕ → Rebuilding
rebuild_end E k σ c n = unless (rebuild_refused E σ c n) (refills E c n (rebuild_start k σ)) (rebuild_start k σ)

abbrev pub ok_unless : {T : Type 0} → Option Refusal → T → Result T Refusal
ok_unless None t = Ok t
ok_unless (Some e) t = Err e

unfoldable pub rebuild_answer : Setup → Conduct → Slots → ℕ → ℕ → Result RebuildCounts Refusal
rebuild_answer E k σ c n = ok_unless (rebuild_refused E σ c n) (rebuild_end E k σ c n).counts
