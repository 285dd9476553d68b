-- Slot events and rebuilds: the array's slots stay the book's, and what was seen is still seen unless a card is taken out.
use Rattle.std.proofs.Common.{◌≡◌, ℕ, suc, ◌+◌, ◌<◌, Bool, true, false, cond, ◌&&◌, eqb, ltb, leb, ◌⊎◌, [], Some, None, Ok, Err, Option, Result, sym, refl, ap, ◌∙◌, ap₂, inl, inr, arith}
use Rattle.std.proofs.lemmas.Bool.{eq-eqb, ne_eqb, lt-ltb, ltb-true, cases_eq, cond-true, cond-false}
use Rattle.std.proofs.lemmas.Option.{cond_some}
use Rattle.block.specs.declared.refusal.Refusal.{Refusal}
use Rattle.block.specs.declared.refusal.Refusal.TheVariants.{Place, SlotState as NotAllowed}
use Rattle.block.specs.declared.shapes.Role.{Role}
use Rattle.block.specs.Judging.{Setup}
use Rattle.block.specs.Places.{slot_of}
use Rattle.shelf.specs.Model.{Conduct}
use Rattle.stripe.specs.declared.shapes.SlotState.{SlotState}
use Rattle.stripe.specs.declared.shapes.SlotState.TheVariants.{In, Out, Filling}
use Rattle.stripe.specs.View.{Slots, takes_at, seen_at}
use Rattle.runs.specs.declared.shapes.Event.{Event}
use Rattle.runs.specs.declared.shapes.Event.TheVariants.{Pull, Fit, Finish, GiveUp}
use Rattle.runs.specs.Book.{Book, note_slot, event_to, refilled, block_of}
use Rattle.runs.specs.Runs.{is_ok, is_none, World, Good, Starts}
use Rattle.runs.specs.Slots.{put_slot, all_in_below, next_state, allowed, event_state, slots_by, event_slots, is_filling, rebuild_refused}
use Rattle.runs.proofs.Goods.{good_takes}
use Rattle.runs.proofs.Puts.{bytes_seen}

-- an event that a state allows leads to what the book notes
next_is : (all : Bool) (n : ℕ) (t : SlotState) (e : Event) (x : SlotState) → next_state all n t e ≡ Some x → x ≡ event_to e
next_is all n In Pull x h = sym (cond_some all Out x h).1
next_is all n In Fit x h = cc
next_is all n In Finish x h = cc
next_is all n In GiveUp x h = cc
next_is all n Out Pull x h = cc
next_is all n Out Fit x h = cc
next_is all n Out Finish x h = cc
next_is all n Out GiveUp x h = cc
next_is all n (Filling m) Pull x h = cc
next_is all n (Filling m) Fit x h = cc
next_is all n (Filling m) Finish x h = sym (cond_some (eqb m n) In x h).1
next_is all n (Filling m) GiveUp x h = cc

-- a fit needs a slot that is out
fit_out : (all : Bool) (n : ℕ) (t : SlotState) (x : SlotState) → next_state all n t Fit ≡ Some x → t ≡ Out
fit_out all n In x h = cc
fit_out all n Out x h = refl
fit_out all n (Filling m) x h = cc

allowed_is : (y : Option SlotState) (x : SlotState) → allowed y ≡ Ok x → y ≡ Some x
allowed_is None x e = cc
allowed_is (Some z) x e = cc

event_is : (E : Setup) (σ : Slots) (d : ℕ) (e : Event) (x : SlotState) → event_state E σ d e ≡ Ok x
    → next_state (all_in_below (E.D + 1) σ) E.S (σ d) e ≡ Some x
unfolding event_state
event_is E σ d e x h = allowed_is (next_state (all_in_below (E.D + 1) σ) E.S (σ d) e) x (go (leb d E.D) h)
  where
    go : (b : Bool) → cond b (allowed (next_state (all_in_below (E.D + 1) σ) E.S (σ d) e)) (Err Place) ≡ Ok x
        → allowed (next_state (all_in_below (E.D + 1) σ) E.S (σ d) e) ≡ Ok x
    go true h = h
    go false h = cc

ok_part : {T : Type 0} (y : Result T Refusal) → is_ok y ≡ true → (x : T) × (y ≡ Ok x)
ok_part (Ok x) t = (x, refl)
ok_part (Err r) t = cc

pub accepted_fit : (E : Setup) (σ : Slots) (d : ℕ) → is_ok (event_state E σ d Fit) ≡ true → σ d ≡ Out
accepted_fit E σ d t =
    let y = ok_part (event_state E σ d Fit) t in
    fit_out (all_in_below (E.D + 1) σ) E.S (σ d) y.0 (event_is E σ d Fit y.0 y.1)

-- the array's slots and the book's stay the same
pub event_same : (E : Setup) (σ : Slots) (B : Book) → ((c : ℕ) → σ c ≡ B.slots c) → (d : ℕ) (e : Event) (c : ℕ)
    → event_slots E σ d e c ≡ (cond {A = Book} (is_ok (event_state E σ d e)) (note_slot B d (event_to e)) B).slots c
event_same E σ B h d e c =
    go (event_state E σ d e) (λ x y. next_is (all_in_below (E.D + 1) σ) E.S (σ d) e x (event_is E σ d e x y))
  where
    go : (y : Result SlotState Refusal) → ((x : SlotState) → y ≡ Ok x → x ≡ event_to e)
        → slots_by σ d y c ≡ (cond {A = Book} (is_ok y) (note_slot B d (event_to e)) B).slots c
    go (Ok x) g = ap₂ (λ a b. cond (eqb c d) a b) (g x refl) (h c)
    go (Err r) g = h c

-- whether a rebuild of one stripe is accepted
rebuild_refused_lem : (E : Setup) (σ : Slots) (d : ℕ)
    → rebuild_refused E σ d 1 ≡ cond (leb d E.D) (cond (is_filling (σ d)) None (Some NotAllowed)) (Some Place)
unfolding rebuild_refused
rebuild_refused_lem E σ d = go (leb d E.D)
  where
    go : (b : Bool)
        → cond (b && leb 1 65536) (cond (is_filling (σ d)) None (Some NotAllowed)) (Some Place)
        ≡ cond b (cond (is_filling (σ d)) None (Some NotAllowed)) (Some Place)
    go true = refl
    go false = refl

-- a slot put as it is
pub put_idle : (σ : Slots) (d : ℕ) (x : SlotState) → σ d ≡ x → (c : ℕ) → put_slot σ d x c ≡ σ c
put_idle σ d x e c = go (cases_eq c d)
  where
    go : (c ≡ d) ⊎ (c ≡ d → ⊥) → cond (eqb c d) x (σ c) ≡ σ c
    go (inl z) = cond-true (eqb c d) x (σ c) (eq-eqb c d z) ∙ (sym e ∙ ap σ (sym z))
    go (inr z) = cond-false (eqb c d) x (σ c) (ne_eqb c d z)

pub rebuild_same : (E : Setup) (σ : Slots) (B : Book) → ((c : ℕ) → σ c ≡ B.slots c) → (d c : ℕ)
    → cond (leb d E.D) (put_slot σ d (refilled E.S (σ d))) σ c
    ≡ (cond {A = Book} (is_none (rebuild_refused E σ d 1)) (note_slot B d (refilled E.S (B.slots d))) B).slots c
rebuild_same E σ B h d c =
    go (leb d E.D) (σ d) refl
    ∙ ap (λ z. (cond {A = Book} (is_none z) (note_slot B d (refilled E.S (B.slots d))) B).slots c) (sym (rebuild_refused_lem E σ d))
  where
    go : (b : Bool) (x : SlotState) → σ d ≡ x
        → cond b (put_slot σ d (refilled E.S x)) σ c
        ≡ (cond {A = Book} (is_none (cond b (cond (is_filling x) None (Some NotAllowed)) (Some Place)))
        (note_slot B d (refilled E.S (B.slots d))) B).slots c
    go false x e = h c
    go true In e = put_idle σ d In e c ∙ h c
    go true Out e = put_idle σ d Out e c ∙ h c
    go true (Filling n) e = ap₂ (λ a b. cond (eqb c d) a b) (ap (refilled E.S) (sym e ∙ h d)) (h c)

-- a slot refilled by one more stripe takes what it took
pub refilled_takes : (n : ℕ) (x : SlotState) (s : ℕ) → takes_at x s ≡ true → takes_at (refilled n x) s ≡ true
refilled_takes n In s t = refl
refilled_takes n Out s t = t
refilled_takes n (Filling m) s t = go (ltb m n)
  where
    go : (b : Bool) → takes_at (cond b (Filling (suc m)) (Filling m)) s ≡ true
    go true = let l : s < m = ltb-true s m t in lt-ltb s (suc m) (omega arith)
    go false = t

-- a good block stays good as a slot is noted anew, if its place holds the same and is still seen
pub noted_stays : (E : Setup) (w : World) → Starts E w → (t : Bool) (d : ℕ) (x : SlotState) (m : Conduct) (s : ℕ) (r : Role) → Good E w s r
    → m [] (slot_of E.D s r) s ≡ Some (block_of E w.book.records s r)
    → (t ≡ true → slot_of E.D s r ≡ d → takes_at x s ≡ true)
    → seen_at (m [] (slot_of E.D s r) s) ((cond {A = Book} t (note_slot w.book d x) w.book).slots (slot_of E.D s r)) s
    ≡ Some (block_of E (cond {A = Book} t (note_slot w.book d x) w.book).records s r)
noted_stays E w I false d x m s r g e h =
    bytes_seen (m [] (slot_of E.D s r) s) (w.book.slots (slot_of E.D s r)) s (block_of E w.book.records s r)
    (good_takes E w I s r g) e
noted_stays E w I true d x m s r g e h =
    bytes_seen (m [] (slot_of E.D s r) s) (put_slot w.book.slots d x (slot_of E.D s r)) s (block_of E w.book.records s r)
    (go (cases_eq (slot_of E.D s r) d)) e
  where
    go : (slot_of E.D s r ≡ d) ⊎ (slot_of E.D s r ≡ d → ⊥) → takes_at (put_slot w.book.slots d x (slot_of E.D s r)) s ≡ true
    go (inl z) = ap (λ y. takes_at y s) (cond-true _ x _ (eq-eqb _ d z)) ∙ h refl z
    go (inr z) = ap (λ y. takes_at y s) (cond-false _ x _ (ne_eqb _ d z)) ∙ good_takes E w I s r g
