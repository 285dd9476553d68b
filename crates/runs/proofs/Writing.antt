-- Writes leave good blocks good, and the records fit.
use Rattle.std.specs.Prelude.{Some}
use Rattle.std.proofs.Common.{◌≡◌, ℕ, suc, ◌+◌, ◌*◌, ◌/◌, ◌%◌, ◌^◌, ◌<◌, Bool, true, false, cond, eqb, ◌⊎◌, List, [], get_or, sym, refl, ap, ◌∙◌, subst, inl, inr, arith}
use lib.Arith.{digits_div}
use Rattle.std.proofs.lemmas.Bool.{eq-eqb, ne_eqb, cases_eq, cond-true, cond-false, both_ways}
use Rattle.block.specs.Shapes.{Cell}
use Rattle.block.specs.declared.shapes.Role.{Role}
use Rattle.block.specs.declared.shapes.Role.TheVariants.{Parity, Data}
use Rattle.block.specs.Judging.{Setup}
use Rattle.block.specs.Places.{slot_of}
use Rattle.shelf.specs.Model.{Write}
use Rattle.stripe.specs.declared.shapes.Finding.{Finding}
use Rattle.stripe.specs.Mend.{xors}
use Rattle.stripe.specs.View.{Slots, View, takes_at}
use Rattle.runs.specs.declared.shapes.Way.{Way}
use Rattle.runs.specs.Book.{Rec, Fits, Book, put_rec, note_write, rec_at, data_of, parity_of, block_of}
use Rattle.runs.specs.Law.{InRange}
use Rattle.runs.specs.Runs.{write, World, next, handed, accepted, next_shelf, InStripe, Good, Orderly, Starts}
use Rattle.runs.specs.Writes.{swift, sent, new_version, data_write, parity_write, pair_writes}
use Rattle.runs.proofs.CodecLaws.{CodecLaws, parity_with}
use Rattle.runs.proofs.Goods.{good_takes, good_takes_in, after_writes}
use Rattle.runs.proofs.Masks.{Sorted, good_parity, bad_parity}
use Rattle.runs.proofs.Mends.{parity_ext}
use Rattle.runs.proofs.Outcomes.{Accepted, write_outcome}
use Rattle.runs.proofs.Places.{one_role, slot_in}
use Rattle.runs.proofs.Puts.{Did, expected, expected_++, sent_other, sent_here, settled, bytes_seen}
use Rattle.runs.proofs.Renews.{base_version_lem, new_data_lem, new_parity_lem, new_parity_poor}
use Rattle.runs.proofs.Worlds.{index_lt, stripe_lt, home, view_in, fine_good, sorted}
use Rattle.runs.proofs.Xors.{xors_ext}

-- the records that an accepted write leaves
pub parity_same : (E : Setup) (s : ℕ) (P Q : ℕ → Rec) → ((k : ℕ) → k < E.D → P k ≡ Q k) → parity_of E s P ≡ parity_of E s Q
unfolding parity_of parity_with
parity_same E s P Q h =
    parity_ext E s (λ i. xors E.D (λ k. get_or (P k).payload i 0)) (λ i. xors E.D (λ k. get_or (Q k).payload i 0))
    (xors E.D (λ k. (P k).owner)) (xors E.D (λ k. (Q k).owner)) (λ k. (P k).version) (λ k. (Q k).version)
    (λ i _. xors_ext E.D (λ k. get_or (P k).payload i 0) (λ k. get_or (Q k).payload i 0) (λ k l. ap (λ r. get_or r.payload i 0) (h k l)))
    (xors_ext E.D (λ k. (P k).owner) (λ k. (Q k).owner) (λ k l. ap (λ r. r.owner) (h k l)))
    (λ k l. ap (λ r. r.version) (h k l))

pub put_same : (f : ℕ → Rec) (L : ℕ) (r : Rec) (k : ℕ) → k ≡ L → put_rec f L r k ≡ r
put_same f L r k e = cond-true (eqb k L) r (f k) (eq-eqb k L e)

pub put_other : (f : ℕ → Rec) (L : ℕ) (r : Rec) (k : ℕ) → (k ≡ L → ⊥) → put_rec f L r k ≡ f k
put_other f L r k d = cond-false (eqb k L) r (f k) (ne_eqb k L d)

module _ (E : Setup) (G : InRange E) (C : CodecLaws E) (w : World) (I : Starts E w) (O : Orderly E w) (L : ℕ) (p : List ℕ) (o : ℕ) (y : Way)
    (fs : List Finding) where
  abbrev B : Book
  B = w.book

  abbrev σ : Slots
  σ = w.array.slots

  abbrev slot : ℕ → Role → ℕ
  slot s r = slot_of E.D s r

  abbrev s₀ : ℕ
  s₀ = L / E.D

  abbrev j₀ : ℕ
  j₀ = L % E.D

  abbrev V : View
  V = view_in E w s₀

  abbrev new : Rec
  new = record { payload = p; owner = o; version = suc (B.records L).version }

  -- the records after the write
  abbrev pub f' : ℕ → Rec
  f' = put_rec B.records L new

  abbrev w₁ : Write
  w₁ = data_write E s₀ V j₀ p o

  abbrev w₂ : Write
  w₂ = parity_write E s₀ V j₀ y p o

  pub l₀ : j₀ < E.D
  l₀ = index_lt E G L

  pub new_rec : rec_at E f' s₀ j₀ ≡ record { payload = p; owner = o; version = suc (rec_at E B.records s₀ j₀).version }
  new_rec =
      put_same B.records L new (s₀ * E.D + j₀) (home E G L)
      ∙ ap {B = Rec} (λ z. record { payload = p; owner = o; version = suc (B.records z).version }) (sym (home E G L))

  pub old_rec : (k : ℕ) → (k ≡ j₀ → ⊥) → rec_at E f' s₀ k ≡ rec_at E B.records s₀ k
  old_rec k d = put_other B.records L new (s₀ * E.D + k) (λ e. d (omega (arith, e, home E G L)))

  far_rec : (s : ℕ) → (s ≡ s₀ → ⊥) → (k : ℕ) → k < E.D → rec_at E f' s k ≡ rec_at E B.records s k
  far_rec s d k l = put_other B.records L new (s * E.D + k) (λ e. d (sym (digits_div s l) ∙ ap (λ z. z / E.D) e))

  far_block : (s : ℕ) → (s ≡ s₀ → ⊥) → (r : Role) → InStripe E r → block_of E B.records s r ≡ block_of E f' s r
  far_block s d Parity i = sym (parity_same E s (rec_at E f' s) (rec_at E B.records s) (far_rec s d))
  far_block s d (Data k) i = ap (data_of E s k) (sym (far_rec s d k i))

  -- what the pair of writes puts at a block's place that held x
  abbrev pub put_at : ℕ → Role → Cell → Cell
  put_at s r x = expected (pair_writes E σ s₀ V j₀ y p o) (slot s r) s x

  abbrev Puts : ℕ → Role → Type 0
  Puts s r = put_at s r (Some (block_of E B.records s r)) ≡ Some (block_of E f' s r)

  both_other : (s : ℕ) (r : Role) → (slot s r ≡ w₁.slot → s ≡ s₀ → ⊥) → (slot s r ≡ w₂.slot → s ≡ s₀ → ⊥)
      → block_of E B.records s r ≡ block_of E f' s r → Puts s r
  both_other s r a b e =
      expected_++ (sent σ w₁) (sent σ w₂) (slot s r) s (Some (block_of E B.records s r))
      ∙ (sent_other σ w₂ (slot s r) s (expected (sent σ w₁) (slot s r) s (Some (block_of E B.records s r))) b
      ∙ (sent_other σ w₁ (slot s r) s (Some (block_of E B.records s r)) a ∙ ap Some e))

  apart : (r q : Role) → (r ≡ q → ⊥) → slot s₀ r ≡ slot s₀ q → ⊥
  apart r q d e = d (one_role E.D s₀ r q e)

  module _ (W : Accepted E V σ L p o y (handed E w.shelf w.array (write L p o y fs))) where
    pub a₀ : s₀ < E.S
    a₀ = stripe_lt E G L W.there

    pub O₀ : Sorted E s₀ B.records V
    O₀ = sorted E C w I O s₀ a₀

    -- the data block is put where its slot takes writes
    pub put_data : (x : Cell) → takes_at (σ (slot s₀ (Data j₀))) s₀ ≡ true → put_at s₀ (Data j₀) x ≡ Some (block_of E f' s₀ (Data j₀))
    put_data x t =
        expected_++ (sent σ w₁) (sent σ w₂) (slot s₀ (Data j₀)) s₀ x
        ∙ (sent_other σ w₂ (slot s₀ (Data j₀)) s₀ (expected (sent σ w₁) (slot s₀ (Data j₀)) s₀ x)
        (λ e _. apart (Data j₀) Parity (λ z. cc) e)
        ∙ (sent_here σ w₁ (slot s₀ (Data j₀)) s₀ x refl refl t
        ∙ ap Some (new_data_lem E C s₀ a₀ B.records I.fits V j₀ l₀ O₀ (rec_at E f' s₀) p o new_rec)))

    -- and so is parity
    pub put_parity : (x : Cell) (b : List ℕ) → takes_at (σ (slot s₀ Parity)) s₀ ≡ true → w₂.bytes ≡ b → put_at s₀ Parity x ≡ Some b
    put_parity x b t e =
        expected_++ (sent σ w₁) (sent σ w₂) (slot s₀ Parity) s₀ x
        ∙ (sent_here σ w₂ (slot s₀ Parity) s₀ (expected (sent σ w₁) (slot s₀ Parity) s₀ x) refl refl t ∙ ap Some e)

    -- off the quick path the parity written is that of the new records
    pub parity_off : swift y V j₀ ≡ false → w₂.bytes ≡ block_of E f' s₀ Parity
    parity_off t = go O₀
      where
        go : Sorted E s₀ B.records V → w₂.bytes ≡ block_of E f' s₀ Parity
        go (good_parity q h) =
            new_parity_lem E C s₀ a₀ B.records I.fits V j₀ l₀ O₀ (rec_at E f' s₀) p o new_rec old_rec y q W.planned
        go (bad_parity q h) =
            new_parity_poor E C s₀ a₀ B.records I.fits V j₀ l₀ O₀ (rec_at E f' s₀) p o new_rec old_rec y q h t

    -- and so it is where parity was good
    pub parity_good : Good E w s₀ Parity → w₂.bytes ≡ block_of E f' s₀ Parity
    parity_good g =
        new_parity_lem E C s₀ a₀ B.records I.fits V j₀ l₀ O₀ (rec_at E f' s₀) p o new_rec old_rec y (fine_good E C w I s₀ Parity a₀ tt g)
        W.planned

    put_near : (r : Role) → InStripe E r → Good E w s₀ r → Puts s₀ r
    put_near Parity i g =
        put_parity (Some (block_of E B.records s₀ Parity)) (block_of E f' s₀ Parity) (good_takes_in E w I s₀ Parity g) (parity_good g)
    put_near (Data k) i g = go (cases_eq k j₀)
      where
        go : (k ≡ j₀) ⊎ (k ≡ j₀ → ⊥) → Puts s₀ (Data k)
        go (inl e) =
            subst (λ z. Good E w s₀ (Data z) → Puts s₀ (Data z)) (sym e)
            (λ h. put_data (Some (block_of E B.records s₀ (Data j₀))) (good_takes_in E w I s₀ (Data j₀) h)) g
        go (inr d) =
            both_other s₀ (Data k) (λ e _. apart (Data k) (Data j₀) (λ z. d cc) e)
            (λ e _. apart (Data k) Parity (λ z. cc) e) (ap (data_of E s₀ k) (sym (old_rec k d)))

    put_any : (s : ℕ) (r : Role) → InStripe E r → Good E w s r → (s ≡ s₀) ⊎ (s ≡ s₀ → ⊥) → Puts s r
    put_any s r i g (inl e) = subst (λ z. Good E w z r → Puts z r) (sym e) (put_near r i) g
    put_any s r i g (inr d) = both_other s r (λ _ e. d e) (λ _ e. d e) (far_block s d r i)

    new_fits : ((i : ℕ) → get_or p i 0 < 2 ^ 8) → o < 2 ^ 32 → Fits new
    new_fits hp ho =
        let v : new_version E V j₀ ≡ suc (B.records L).version
        = ap suc (base_version_lem E C s₀ a₀ B.records I.fits V j₀ l₀ O₀) ∙ ap (λ z. suc (B.records z).version) (home E G L) in
        record { long = W.long; bytes = hp; owned = ho; versioned = subst (λ z. z < 2 ^ 32) v W.small }

  abbrev X : Bool
  X = accepted E w.shelf w.array (write L p o y fs)

  abbrev ws : List Write
  ws = handed E w.shelf w.array (write L p o y fs)

  -- the book after the write
  abbrev pub B' : Bool → Book
  B' t = cond {A = Book} t (note_write B L p o) B

  book_slots : (t : Bool) (c : ℕ) → (B' t).slots c ≡ B.slots c
  book_slots true c = refl
  book_slots false c = refl

  pub write_stays : (s : ℕ) (r : Role) → s < E.S → InStripe E r → Good E w s r → Did (E.D + 1) E.S w.shelf ws (slot s r)
      → Good E (next E w (write L p o y fs)) s r
  write_stays s r a i g did =
      bytes_seen (next_shelf E w.shelf w.array (write L p o y fs) [] (slot s r) s) ((B' X).slots (slot s r)) s (block_of E (B' X).records s r)
      (ap (λ t. takes_at t s) (book_slots X (slot s r)) ∙ good_takes E w I s r g)
      (after_writes E w I ws s r (block_of E (B' X).records s r) a i g did (go (write_outcome E (w.shelf []) σ L p o y fs)))
    where
      go : ((X ≡ false) × (ws ≡ [])) ⊎ ((X ≡ true) × Accepted E V σ L p o y ws)
          → expected ws (slot s r) s (Some (block_of E B.records s r)) ≡ Some (block_of E (B' X).records s r)
      go (inl h) =
          ap (λ z. expected z (slot s r) s (Some (block_of E B.records s r))) h.1
          ∙ ap (λ t. Some (block_of E (B' t).records s r)) (sym h.0)
      go (inr h) =
          ap (λ z. expected z (slot s r) s (Some (block_of E B.records s r))) h.1.pair
          ∙ (put_any h.1 s r i g (cases_eq s s₀) ∙ ap (λ t. Some (block_of E (B' t).records s r)) (sym h.0))

  -- the records of the book after the write fit
  pub write_fits : ((i : ℕ) → get_or p i 0 < 2 ^ 8) → o < 2 ^ 32 → (K : ℕ) → Fits ((B' X).records K)
  write_fits hp ho K = go (write_outcome E (w.shelf []) σ L p o y fs)
    where
      one : Fits new → (K ≡ L) ⊎ (K ≡ L → ⊥) → Fits (f' K)
      one n (inl e) = subst Fits (sym (put_same B.records L new K e)) n
      one n (inr d) = subst Fits (sym (put_other B.records L new K d)) (I.fits K)

      go : ((X ≡ false) × (ws ≡ [])) ⊎ ((X ≡ true) × Accepted E V σ L p o y ws) → Fits ((B' X).records K)
      go (inl h) = subst (λ t. Fits ((B' t).records K)) (sym h.0) (I.fits K)
      go (inr h) = subst (λ t. Fits ((B' t).records K)) (sym h.0) (one (new_fits h.1 hp ho) (cases_eq K L))

  pub write_same : (c : ℕ) → σ c ≡ (B' X).slots c
  write_same c = I.same c ∙ sym (book_slots X c)

  -- a place after an accepted write that its card did as told
  pub landed : (r : Role) → InStripe E r → (W : Accepted E V σ L p o y ws) → Did (E.D + 1) E.S w.shelf ws (slot s₀ r)
      → next_shelf E w.shelf w.array (write L p o y fs) [] (slot s₀ r) s₀ ≡ put_at s₀ r (w.shelf [] (slot s₀ r) s₀)
  landed r i W did =
      settled (E.D + 1) E.S ws w.shelf I.lawful (slot s₀ r) s₀ (slot_in E s₀ r i) (a₀ W) did
      ∙ ap (λ z. expected z (slot s₀ r) s₀ (w.shelf [] (slot s₀ r) s₀)) W.pair

  -- a place that took writes before the write takes them after it
  pub takes_after : (c s : ℕ) → takes_at (B.slots c) s ≡ true → takes_at ((B' X).slots c) s ≡ true
  takes_after c s t = ap (λ z. takes_at z s) (book_slots X c) ∙ t

  pub told_accepted : X ≡ true → Accepted E V σ L p o y ws
  told_accepted t = go (write_outcome E (w.shelf []) σ L p o y fs)
    where
      go : ((X ≡ false) × (ws ≡ [])) ⊎ ((X ≡ true) × Accepted E V σ L p o y ws) → Accepted E V σ L p o y ws
      go (inl h) = absurd (both_ways X h.0 t)
      go (inr h) = h.1
