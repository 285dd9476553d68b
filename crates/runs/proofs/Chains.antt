-- The calls of many stripes are chains of one-stripe steps.
use Rattle.std.proofs.Common.{◌≡◌, ℕ, zero, suc, Bool, true, false, cond, ◌&&◌, ltb, leb, List, [], Some, None, Option, sym, refl, ap, ◌∙◌, subst, ap₂}
use mathlib.Core.Path.{fun_ext}
use Rattle.std.proofs.lemmas.Bool.{le-leb, cond-true}
use Rattle.block.specs.declared.refusal.Refusal.{Refusal}
use Rattle.block.specs.declared.refusal.Refusal.TheVariants.{Place, SlotState as NotAllowed}
use Rattle.block.specs.Judging.{Setup}
use Rattle.shelf.specs.Model.{after_all}
use Rattle.stripe.specs.declared.shapes.Finding.{Finding}
use Rattle.stripe.specs.declared.shapes.SlotState.{SlotState}
use Rattle.stripe.specs.declared.shapes.SlotState.TheVariants.{In, Out, Filling}
use Rattle.stripe.specs.View.{Slots}
use Rattle.runs.specs.Book.{refilled}
use Rattle.runs.specs.Companions.{scrubs, rebuilds, ScrubbedBySteps, ScrubIsSteps, RebuiltBySteps, RebuildIsSteps}
use Rattle.runs.specs.Runs.{World, refill_writes}
use Rattle.runs.specs.Scrubs.{cursor_at, cursor_next, sweep_writes, sweep, sweeps, scrub_start, scrub_end}
use Rattle.runs.specs.Slots.{
  put_slot,
  rebuild_writes,
  Rebuilding,
  refill,
  refill_by,
  refill_next,
  refills,
  rebuild_start,
  is_filling,
  rebuild_refused,
  unless,
  rebuild_end,
}
use Rattle.runs.proofs.Events.{put_idle}

-- a scrub under way and a world agree
scrub_steps : (E : Setup) (w : World) (n : ℕ) (fs : List Finding)
    → ScrubbedBySteps E w n (sweeps E w.array.slots n (scrub_start w.shelf w.array.cursor fs))
unfolding sweeps sweep
scrub_steps E w zero fs = record { conduct = refl; cursor = refl; slots = refl; book = refl }
scrub_steps E w (suc n) fs =
    let h = scrub_steps E w n fs in
    record {
      conduct =
          ap₂ (λ m c. after_all m (sweep_writes E (m []) w.array.slots (cursor_at E.S c))) h.conduct h.cursor
          ∙ ap
          (λ σ.
          after_all (scrubs E n w).shelf
          (sweep_writes E ((scrubs E n w).shelf []) σ (cursor_at E.S (scrubs E n w).array.cursor)))
          (sym h.slots);
      cursor = ap (λ c. cursor_next E.S (cursor_at E.S c)) h.cursor;
      slots = h.slots;
      book = h.book;
    }

pub scrub_is_steps : ScrubIsSteps
unfolding scrub_end
scrub_is_steps E w n fs l =
    subst (ScrubbedBySteps E w n)
    (sym
    (cond-true (leb n 65536) (sweeps E w.array.slots n (scrub_start w.shelf w.array.cursor fs))
    (scrub_start w.shelf w.array.cursor fs) (le-leb n 65536 l)))
    (scrub_steps E w n fs)

-- one stripe of a rebuild
module _ (E : Setup) (c : ℕ) where
  -- the next stripe of a rebuild under way is such a step
  refill_step : (x : Rebuilding)
      → ((refill_next E c x).conduct ≡ after_all x.conduct (refill_writes E (x.conduct []) x.slots c (x.slots c)))
      × ((refill_next E c x).slots ≡ put_slot x.slots c (refilled E.S (x.slots c)))
  unfolding refill
  refill_step x = go (x.slots c) refl
    where
      go : (t : SlotState) → x.slots c ≡ t
          → ((refill_by E c t x).conduct ≡ after_all x.conduct (refill_writes E (x.conduct []) x.slots c t))
          × ((refill_by E c t x).slots ≡ put_slot x.slots c (refilled E.S t))
      go In e = (refl, sym (fun_ext (put_idle x.slots c In e)))
      go Out e = (refl, sym (fun_ext (put_idle x.slots c Out e)))
      go (Filling n) e = one (ltb n E.S)
        where
          one : (b : Bool)
              → ((cond b (refill E c n x) x).conduct ≡ after_all x.conduct (cond b (rebuild_writes E (x.conduct []) x.slots n c) []))
              × ((cond b (refill E c n x) x).slots ≡ put_slot x.slots c (cond b (Filling (suc n)) (Filling n)))
          one true = (refl, refl)
          one false = (refl, sym (fun_ext (put_idle x.slots c (Filling n) e)))

  module _ (w : World) (l : leb c E.D ≡ true) where
    rebuild_steps : (n : ℕ) → RebuiltBySteps E w c n (refills E c n (rebuild_start w.shelf w.array.slots))
    unfolding refills
    rebuild_steps zero = record { conduct = refl; slots = refl }
    rebuild_steps (suc n) =
        let x : Rebuilding = refills E c n (rebuild_start w.shelf w.array.slots) in
        let v : World = rebuilds E c n w in
        let h : RebuiltBySteps E w c n x = rebuild_steps n in
        let s = refill_step x in
        record {
          conduct =
              s.0
              ∙ (ap₂ (λ m σ. after_all m (refill_writes E (m []) σ c (σ c))) h.conduct h.slots
              ∙ ap (λ us. after_all v.shelf us)
              (sym (cond-true (leb c E.D) (refill_writes E (v.shelf []) v.array.slots c (v.array.slots c)) [] l)));
          slots =
              s.1
              ∙ (ap (λ σ. put_slot σ c (refilled E.S (σ c))) h.slots
              ∙ sym (cond-true (leb c E.D) (put_slot v.array.slots c (refilled E.S (v.array.slots c))) v.array.slots l));
        }

in_range_lem : (E : Setup) (σ : Slots) (c n : ℕ) → rebuild_refused E σ c n ≡ None → leb c E.D ≡ true
unfolding rebuild_refused
in_range_lem E σ c n e = go (leb c E.D) e
  where
    go : (b : Bool) → ◌≡◌ {A = Option Refusal} (cond (b && leb n 65536) (cond (is_filling (σ c)) None (Some NotAllowed)) (Some Place)) None
        → b ≡ true
    go true h = refl
    go false h = cc

pub rebuild_is_steps : RebuildIsSteps
unfolding rebuild_end
rebuild_is_steps E w c n e =
    subst (RebuiltBySteps E w c n)
    (sym
    (ap (λ z. unless z (refills E c n (rebuild_start w.shelf w.array.slots)) (rebuild_start w.shelf w.array.slots)) e))
    (rebuild_steps E c w (in_range_lem E w.array.slots c n e) n)
