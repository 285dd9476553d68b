-- No step spoils a good block, and what a run starts with lasts.
use Rattle.std.proofs.Common.{◌≡◌, ℕ, ◌+◌, ◌<◌, Bool, true, false, cond, ◌⊎◌, [], sym, refl, ap, ◌∙◌, ap₂, inl, inr}
use Rattle.std.proofs.lemmas.Bool.{cases_eq, cases_Bool, both_ways}
use Rattle.block.specs.declared.shapes.Role.{Role}
use Rattle.block.specs.Judging.{Setup}
use Rattle.block.specs.Places.{slot_of}
use Rattle.shelf.specs.Model.{Conduct}
use Rattle.stripe.specs.declared.shapes.SlotState.{SlotState}
use Rattle.stripe.specs.View.{takes_at}
use Rattle.runs.specs.declared.shapes.Event.{Event}
use Rattle.runs.specs.declared.shapes.Event.TheVariants.{Pull, Fit, Finish, GiveUp}
use Rattle.runs.specs.Book.{Book, Fits, note_slot, event_to, refilled, block_of}
use Rattle.runs.specs.Law.{InRange, FailedWrite, Damaged, TakenOut, SpoilsNone}
use Rattle.runs.specs.Runs.{
  Step,
  read,
  write,
  look,
  scrub,
  rebuild,
  event,
  damage,
  World,
  next,
  handed,
  accepted,
  next_shelf,
  InStripe,
  Good,
  Orderly,
  Proper,
  Starts,
}
use Rattle.runs.proofs.CodecLaws.{CodecLaws}
use Rattle.runs.proofs.Events.{accepted_fit, event_same, rebuild_same, refilled_takes, noted_stays}
use Rattle.runs.proofs.Goods.{good_takes, good_takes_in, good_content}
use Rattle.runs.proofs.Mending.{read_stays, scrub_stays, rebuild_content}
use Rattle.runs.proofs.Puts.{Did, lawful_after, bytes_seen}
use Rattle.runs.proofs.Told.{cases_cell, did_or_failed}
use Rattle.runs.proofs.Writing.{write_stays, write_fits, write_same}

module _ (E : Setup) (G : InRange E) (C : CodecLaws E) (w : World) (I : Starts E w) (O : Orderly E w) where
  abbrev B : Book
  B = w.book

  abbrev slot : ℕ → Role → ℕ
  slot s r = slot_of E.D s r

  -- an accepted event or rebuild changes the slots only
  noted_fits : (t : Bool) (d : ℕ) (x : SlotState) (K : ℕ) → Fits ((cond {A = Book} t (note_slot B d x) B).records K)
  noted_fits true d x K = I.fits K
  noted_fits false d x K = I.fits K

  -- what a run starts with lasts
  pub starts_next : (k : Step) → Proper E k → Starts E (next E w k)
  starts_next (read L o on f b fs) h = record {
    lawful = lawful_after (E.D + 1) E.S w.shelf (handed E w.shelf w.array (read L o on f b fs)) I.lawful;
    same = I.same;
    fits = I.fits;
  }
  starts_next (write L p o y fs) h = record {
    lawful = lawful_after (E.D + 1) E.S w.shelf (handed E w.shelf w.array (write L p o y fs)) I.lawful;
    same = write_same E G C w I O L p o y fs;
    fits = write_fits E G C w I O L p o y fs h.0 h.1;
  }
  starts_next (look L n o out) h = record { lawful = I.lawful; same = I.same; fits = I.fits }
  starts_next scrub h = record {
    lawful = lawful_after (E.D + 1) E.S w.shelf (handed E w.shelf w.array scrub) I.lawful;
    same = I.same;
    fits = I.fits;
  }
  starts_next (rebuild d) h = record {
    lawful = lawful_after (E.D + 1) E.S w.shelf (handed E w.shelf w.array (rebuild d)) I.lawful;
    same = rebuild_same E w.array.slots B I.same d;
    fits = noted_fits (accepted E w.shelf w.array (rebuild d)) d (refilled E.S (B.slots d));
  }
  starts_next (event d e) h = record {
    lawful = I.lawful;
    same = event_same E w.array.slots B I.same d e;
    fits = noted_fits (accepted E w.shelf w.array (event d e)) d (event_to e);
  }
  starts_next (damage m) h = record { lawful = h; same = I.same; fits = I.fits }

  -- a step whose writes keep good blocks good spoils none
  by_writes : (k : Step) (s : ℕ) (r : Role) → (Good E (next E w k) s r → ⊥)
      → (Did (E.D + 1) E.S w.shelf (handed E w.shelf w.array k) (slot s r) → Good E (next E w k) s r)
      → FailedWrite E w.shelf (handed E w.shelf w.array k) (slot s r)
  by_writes k s r n h = go (did_or_failed E (handed E w.shelf w.array k) w.shelf (slot s r))
    where
      go : Did (E.D + 1) E.S w.shelf (handed E w.shelf w.array k) (slot s r)
          ⊎ FailedWrite E w.shelf (handed E w.shelf w.array k) (slot s r)
          → FailedWrite E w.shelf (handed E w.shelf w.array k) (slot s r)
      go (inl d) = absurd (n (h d))
      go (inr x) = x

  rebuild_stays : (d s : ℕ) (r : Role) → s < E.S → InStripe E r → Good E w s r
      → Did (E.D + 1) E.S w.shelf (handed E w.shelf w.array (rebuild d)) (slot s r) → Good E (next E w (rebuild d)) s r
  rebuild_stays d s r a i g did =
      noted_stays E w I (accepted E w.shelf w.array (rebuild d)) d (refilled E.S (B.slots d))
      (next_shelf E w.shelf w.array (rebuild d)) s r g (rebuild_content E G C w I O d s r a i g did)
      (λ t e. refilled_takes E.S (B.slots d) s (ap (λ c. takes_at (B.slots c) s) (sym e) ∙ good_takes E w I s r g))

  event_stays : (d : ℕ) (e : Event) (s : ℕ) (r : Role) → Good E w s r
      → (accepted E w.shelf w.array (event d e) ≡ true → slot s r ≡ d → takes_at (event_to e) s ≡ true) → Good E (next E w (event d e)) s r
  event_stays d e s r g h =
      noted_stays E w I (accepted E w.shelf w.array (event d e)) d (event_to e) w.shelf s r g (good_content E w I s r g) h

  -- a block that an event spoils was in the slot, and the event was accepted
  spoilt : (d : ℕ) (e : Event) (s : ℕ) (r : Role) → Good E w s r → (Good E (next E w (event d e)) s r → ⊥)
      → (accepted E w.shelf w.array (event d e) ≡ true) × (d ≡ slot s r)
  spoilt d e s r g n = go (cases_Bool (accepted E w.shelf w.array (event d e))) (cases_eq (slot s r) d)
    where
      go : (accepted E w.shelf w.array (event d e) ≡ true) ⊎ (accepted E w.shelf w.array (event d e) ≡ false)
          → (slot s r ≡ d) ⊎ (slot s r ≡ d → ⊥) → (accepted E w.shelf w.array (event d e) ≡ true) × (d ≡ slot s r)
      go (inl t) (inl c) = (t, sym c)
      go (inl t) (inr c) = absurd (n (event_stays d e s r g (λ _ x. absurd (c x))))
      go (inr t) c = absurd (n (event_stays d e s r g (λ x _. absurd (both_ways _ t x))))

  pulled : (e : Event) → (e ≡ Pull) ⊎ (e ≡ GiveUp) → (d s : ℕ) (r : Role) → Good E w s r → (Good E (next E w (event d e)) s r → ⊥)
      → TakenOut E w (event d e) (slot s r)
  pulled e x d s r g n = ((spoilt d e s r g n).0, go x)
    where
      go : (e ≡ Pull) ⊎ (e ≡ GiveUp) → (event d e ≡ event (slot s r) Pull) ⊎ (event d e ≡ event (slot s r) GiveUp)
      go (inl z) = inl (ap₂ event (spoilt d e s r g n).1 z)
      go (inr z) = inr (ap₂ event (spoilt d e s r g n).1 z)

  taken_out : (e : Event) (d s : ℕ) (r : Role) → Good E w s r → (Good E (next E w (event d e)) s r → ⊥) → TakenOut E w (event d e) (slot s r)
  taken_out Pull d s r g n = pulled Pull (inl refl) d s r g n
  taken_out GiveUp d s r g n = pulled GiveUp (inr refl) d s r g n
  taken_out Finish d s r g n = absurd (n (event_stays d Finish s r g (λ _ _. refl)))
  taken_out Fit d s r g n =
      absurd
      (n
      (event_stays d Fit s r g
      (λ t c.
      absurd
      (both_ways (takes_at (w.array.slots d) s) (ap (λ z. takes_at z s) (accepted_fit E w.array.slots d t))
      (ap (λ z. takes_at (w.array.slots z) s) (sym c) ∙ good_takes_in E w I s r g)))))

  damaged : (m : Conduct) (s : ℕ) (r : Role) → s < E.S → Good E w s r → (Good E (next E w (damage m)) s r → ⊥)
      → Damaged E w (damage m) (slot s r)
  damaged m s r a g n = go (cases_cell (m [] (slot s r) s) (w.shelf [] (slot s r) s))
    where
      go : (m [] (slot s r) s ≡ w.shelf [] (slot s r) s) ⊎ (m [] (slot s r) s ≡ w.shelf [] (slot s r) s → ⊥) → Damaged E w (damage m) (slot s r)
      go (inl e) =
          absurd
          (n
          (bytes_seen (m [] (slot s r) s) (B.slots (slot s r)) s (block_of E B.records s r) (good_takes E w I s r g)
          (e ∙ good_content E w I s r g)))
      go (inr d) = record { place = s; within = a; changed = d }

  -- no step spoils a good block
  pub spoils_none : (k : Step) → SpoilsNone E w k
  spoils_none (read L o on f b fs) s r a i g n =
      inl (by_writes (read L o on f b fs) s r n (read_stays E G C w I O L o on f b fs s r a i g))
  spoils_none (write L p o y fs) s r a i g n = inl (by_writes (write L p o y fs) s r n (write_stays E G C w I O L p o y fs s r a i g))
  spoils_none (look L m o out) s r a i g n = absurd (n g)
  spoils_none scrub s r a i g n = inl (by_writes scrub s r n (scrub_stays E G C w I O s r a i g))
  spoils_none (rebuild d) s r a i g n = inl (by_writes (rebuild d) s r n (rebuild_stays d s r a i g))
  spoils_none (event d e) s r a i g n = inr (inr (taken_out e d s r g n))
  spoils_none (damage m) s r a i g n = inr (inl (damaged m s r a g n))
