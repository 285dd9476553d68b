-- One more stripe of a rebuild, and its end. Assumes nothing.
use Rattle.std.proofs.Common.{◌≡◌, ℕ, suc, ◌+◌, Bool, List, [], ◌∷◌, Some, None, Ok, Err, Option, refl, ap, add-one}
use Rattle.block.specs.declared.refusal.Refusal.{Refusal}
use Rattle.block.specs.Judging.{Setup}
use Rattle.shelf.specs.Model.{Conduct, Write, after_all}
use Rattle.stripe.specs.declared.shapes.Decision.{Decision}
use Rattle.stripe.specs.declared.shapes.Decision.TheVariants.{Clean, Only, Lost}
use Rattle.stripe.specs.declared.shapes.SlotState.TheVariants.{Filling}
use Rattle.stripe.specs.View.{Slots, View}
use Rattle.stripe.specs.Judge.{decision}
use Rattle.runs.specs.declared.shapes.RebuildCounts.{RebuildCounts}
use Rattle.runs.specs.Done.{RebuildDone}
use Rattle.runs.specs.Gather.{patch_by, patch_of}
use Rattle.runs.specs.Slots.{
  put_slot,
  rebuild_by,
  rebuild_writes,
  recounted,
  Rebuilding,
  refill,
  refill_next,
  refills,
  rebuild_start,
  rebuild_refused,
  rebuild_end,
  ok_unless,
  rebuild_answer,
}
use Rattle.scrubbing.specs.Counts.{rebuilding, any_write, recounted_by, refill_from}

from_by : (E : Setup) (s : ℕ) (V : View) (c : ℕ) (d : Decision) → refill_from c s (patch_by E s V d) ≡ rebuild_by E s V c d
from_by E s V c Clean = refl
from_by E s V c (Only r) = refl
from_by E s V c Lost = refl

-- a stripe's patch makes the writes of a rebuild
pub from_patch : (E : Setup) (s : ℕ) (V : View) (c : ℕ) → refill_from c s (patch_of E s V) ≡ rebuild_by E s V c (decision E.D s V)
unfolding patch_of
from_patch E s V c = from_by E s V c (decision E.D s V)

by_any : (n : RebuildCounts) (ws : List Write) → recounted_by n (any_write ws) ≡ recounted n ws
by_any n [] = refl
by_any n (w ∷ ws) = refl

-- the state after the slot's stripe
pub refill_is : (E : Setup) (c s : ℕ) (k k' : Conduct) (σ σ' : Slots) (n n' : RebuildCounts) (b : Bool) → b ≡ any_write (rebuild_writes E (k []) σ s c)
    → k' ≡ after_all k (rebuild_writes E (k []) σ s c) → σ' ≡ put_slot σ c (Filling (s + 1)) → n' ≡ recounted_by n b
    → rebuilding k' σ' n' ≡ refill E c s (rebuilding k σ n)
unfolding refill
refill_is E c s k k' σ σ' n n' b eb ek eσ en =
    rw (ek, eσ, add-one s, en, eb) (ap (rebuilding (after_all k (rebuild_writes E (k []) σ s c)) (put_slot σ c (Filling (suc s)))) (by_any n (rebuild_writes E (k []) σ s c)))

pub refills_none : (E : Setup) (c : ℕ) (x : Rebuilding) → x ≡ refills E c 0 x
unfolding refills
refills_none E c x = refl

pub refills_more : (E : Setup) (c i : ℕ) (x₀ x y : Rebuilding) → x ≡ refills E c i x₀ → y ≡ refill_next E c x → y ≡ refills E c (i + 1) x₀
unfolding refills
refills_more E c i x₀ x y inv e = rw (add-one i, ← inv) e

stopped : (o : Option Refusal) (x : Refusal) → Err x ≡ ok_unless {T = Unit {0}} o tt → o ≡ Some x
stopped None x h = cc
stopped (Some y) x h = cc

module _ (E : Setup) (k : Conduct) (σ : Slots) (c n : ℕ) where
  -- the end of an accepted rebuild
  pub rebuild_done : (i : ℕ) (k' : Conduct) (σ' : Slots) (m : RebuildCounts) → rebuild_refused E σ c n ≡ None → i ≡ n
      → rebuilding k' σ' m ≡ refills E c i (rebuild_start k σ) → RebuildDone (rebuild_end E k σ c n) k' σ'
  unfolding rebuild_end
  rebuild_done i k' σ' m h q e = rw (h, ← q, ← e) record { conduct = refl; slots = refl }

  pub rebuild_ok : (i : ℕ) (k' : Conduct) (σ' : Slots) (m : RebuildCounts) → rebuild_refused E σ c n ≡ None → i ≡ n
      → rebuilding k' σ' m ≡ refills E c i (rebuild_start k σ) → Ok m ≡ rebuild_answer E k σ c n
  unfolding rebuild_answer rebuild_end
  rebuild_ok i k' σ' m h q e = rw (h, ← q, ← e) refl

  -- a refused rebuild changes nothing
  pub rebuild_still : (x : Refusal) → Err x ≡ ok_unless {T = Unit {0}} (rebuild_refused E σ c n) tt → RebuildDone (rebuild_end E k σ c n) k σ
  unfolding rebuild_end
  rebuild_still x h = rw (stopped _ x h) record { conduct = refl; slots = refl }

  pub rebuild_refused_lem : (x : Refusal) → Err x ≡ ok_unless {T = Unit {0}} (rebuild_refused E σ c n) tt → Err x ≡ rebuild_answer E k σ c n
  unfolding rebuild_answer
  rebuild_refused_lem x h = rw (stopped _ x h) refl
