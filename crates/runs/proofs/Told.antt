-- Whether a card did as told can be decided: either it did all its writes, or one of them is named that it did not.
use Rattle.std.specs.Prelude.{Some, None}
use Rattle.std.proofs.Common.{◌≡◌, ℕ, zero, suc, ◌+◌, ◌<◌, true, false, ◌⊎◌, List, [], ◌∷◌, sym, refl, ap, subst, inl, inr, arith}
use Rattle.std.proofs.lemmas.Bool.{cases_eq, cases_Bool}
use Rattle.std.proofs.lemmas.Bool.Decides.{not_from_Decides}
use Rattle.std.proofs.lemmas.Slice.Eq.{bytes_eq-Decides}
use Rattle.std.specs.Str.{bytes_eq}
use Rattle.block.specs.Shapes.{Cell}
use Rattle.block.specs.Judging.{Setup}
use Rattle.shelf.specs.Model.{Write, Conduct, AsTold, after_all}
use Rattle.runs.specs.Law.{FailedWrite}
use Rattle.runs.proofs.Puts.{Did}

-- a fact or its refutation
abbrev Either : Type 0 → Type 0
Either P = P ⊎ (P → ⊥)

cases_bytes : (xs ys : List ℕ) → Either (xs ≡ ys)
cases_bytes xs ys = go (cases_Bool (bytes_eq xs ys))
  where
    go : (bytes_eq xs ys ≡ true) ⊎ (bytes_eq xs ys ≡ false) → Either (xs ≡ ys)
    go (inl t) = inl ((bytes_eq-Decides xs ys).0 t)
    go (inr t) = inr (not_from_Decides _ (bytes_eq-Decides xs ys) t)

pub cases_cell : (x y : Cell) → Either (x ≡ y)
cases_cell None None = inl refl
cases_cell None (Some b) = inr (λ e. cc)
cases_cell (Some a) None = inr (λ e. cc)
cases_cell (Some a) (Some b) = go (cases_bytes a b)
  where
    go : Either (a ≡ b) → Either (Some a ≡ Some b)
    go (inl e) = inl (ap Some e)
    go (inr d) = inr (λ e. d cc)

cases_below : (P : ℕ → Type 0) → ((i : ℕ) → Either (P i)) → (n : ℕ) → Either ((i : ℕ) → i < n → P i)
cases_below P h zero = inl (λ i l. absurd (omega arith))
cases_below P h (suc n) = go (h n) (cases_below P h n)
  where
    go : Either (P n) → Either ((i : ℕ) → i < n → P i) → Either ((i : ℕ) → i < suc n → P i)
    go (inl a) (inl b) = inl (λ i l. one i l (cases_eq i n))
      where
        one : (i : ℕ) → i < suc n → Either (i ≡ n) → P i
        one i l (inl e) = subst P (sym e) a
        one i l (inr d) = b i (omega arith)
    go (inl a) (inr b) = inr (λ f. b (λ i l. f i (omega arith)))
    go (inr a) o = inr (λ f. a (f n (omega arith)))

module _ (N S : ℕ) (m : Conduct) (w : Write) where
  -- a place that the write does not name keeps what it holds
  abbrev Kept : ℕ → ℕ → Type 0
  Kept i j = ((i ≡ w.slot) × (j ≡ w.block) → ⊥) → m (w ∷ []) i j ≡ m [] i j

  cases_kept : (i j : ℕ) → Either (Kept i j)
  cases_kept i j = go (cases_cell (m (w ∷ []) i j) (m [] i j)) (cases_eq i w.slot) (cases_eq j w.block)
    where
      go : Either (m (w ∷ []) i j ≡ m [] i j) → Either (i ≡ w.slot) → Either (j ≡ w.block) → Either (Kept i j)
      go (inl e) a b = inl (λ _. e)
      go (inr d) (inl a) (inl b) = inl (λ h. absurd (h (a, b)))
      go (inr d) (inl a) (inr b) = inr (λ h. d (h (λ x. b x.1)))
      go (inr d) (inr a) b = inr (λ h. d (h (λ x. a x.0)))

  cases_told : Either (AsTold N S m w)
  cases_told =
      go (cases_cell (m (w ∷ []) w.slot w.block) (Some w.bytes))
      (cases_below (λ i. (j : ℕ) → j < S → Kept i j) (λ i. cases_below (Kept i) (cases_kept i) S) N)
    where
      go : Either (m (w ∷ []) w.slot w.block ≡ Some w.bytes) → Either ((i : ℕ) → i < N → (j : ℕ) → j < S → Kept i j)
          → Either (AsTold N S m w)
      go (inl a) (inl b) = inl (record { there = a; elsewhere = λ i j k l. b i k j l })
      go (inl a) (inr b) = inr (λ t. b (λ i k j l. t.elsewhere i j k l))
      go (inr a) o = inr (λ t. a t.there)

-- card c did all its writes as told, or one of them it did not
pub did_or_failed : (E : Setup) (ws : List Write) (m : Conduct) (c : ℕ) → Did (E.D + 1) E.S m ws c ⊎ FailedWrite E m ws c
did_or_failed E [] m c = inl tt
did_or_failed E (w ∷ ws) m c =
    go (cases_eq w.slot c) (cases_told (E.D + 1) E.S m w) (did_or_failed E ws (after_all m (w ∷ [])) c)
  where
    go : Either (w.slot ≡ c) → Either (AsTold (E.D + 1) E.S m w)
        → Did (E.D + 1) E.S (after_all m (w ∷ [])) ws c ⊎ FailedWrite E (after_all m (w ∷ [])) ws c
        → Did (E.D + 1) E.S m (w ∷ ws) c ⊎ FailedWrite E m (w ∷ ws) c
    go a (inl t) (inl d) = inl (λ _. t, d)
    go (inl e) (inr t) (inl d) = inr (record { before = []; failed = w; later = ws; among = refl; own = e; untold = t })
    go (inr n) (inr t) (inl d) = inl (λ e. absurd (n e), d)
    go a b (inr x) =
        inr
        (record {
          before = w ∷ x.before;
          failed = x.failed;
          later = x.later;
          among = ap (λ z. w ∷ z) x.among;
          own = x.own;
          untold = x.untold;
        })
