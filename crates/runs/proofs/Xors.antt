-- The XOR of a row of numbers, and lists made from a function of the index.
use Rattle.std.proofs.Common.{◌≡◌, ℕ, zero, suc, ◌+◌, ◌^◌, ◌<◌, ◌≤◌, eqb, ◌⊎◌, List, ◌∷◌, map, length, get_or, sym, refl, ap, ◌∙◌, ap₂, inl, inr, arith, pow_pos}
use lib.Bits.{bit_xor, xor_assoc, xor_comm, xor_self, xor_zero_r, xor_zero_l, xor_lt}
use Rattle.std.specs.List.{range_with_len}
use Rattle.std.proofs.lemmas.List.FromFn.{fill_by_all}
use Rattle.std.proofs.lemmas.Bool.{eq-eqb, ne_eqb, cases_eq, cond-true, cond-false}
use Rattle.block.specs.Layout.{table}
use Rattle.stripe.specs.Mend.{xors, at}

from_ext : {A : Type 0} → (f g : ℕ → A) (n a : ℕ) → ((i : ℕ) → a ≤ i → i < a + n → f i ≡ g i) → map f (range_with_len a n) ≡ map g (range_with_len a n)
from_ext f g zero a h = refl
from_ext f g (suc n) a h = ap₂ ◌∷◌ (h a (omega arith) (omega arith)) (from_ext f g n (a + 1) (λ i l u. h i (omega arith) (omega arith)))

pub table_ext : {A : Type 0} → (n : ℕ) (f g : ℕ → A) → ((i : ℕ) → i < n → f i ≡ g i) → table n f ≡ table n g
table_ext n f g h = from_ext f g n 0 (λ i l u. h i (omega arith))

pub table_own : (p : List ℕ) (n : ℕ) → length p ≡ n → table n (λ i. get_or p i 0) ≡ p
table_own p n e = sym (fill_by_all (λ i. get_or p i 0) p n 0 e (λ k l. refl))

pub at_same : (f : ℕ → ℕ) (j x : ℕ) → at f j x j ≡ x
at_same f j x = cond-true (eqb j j) x (f j) (eq-eqb j j refl)

pub at_other : (f : ℕ → ℕ) (j x k : ℕ) → (k ≡ j → ⊥) → at f j x k ≡ f k
at_other f j x k h = cond-false (eqb k j) x (f k) (ne_eqb k j h)

pub xors_ext : (n : ℕ) (f g : ℕ → ℕ) → ((k : ℕ) → k < n → f k ≡ g k) → xors n f ≡ xors n g
unfolding xors
xors_ext zero f g h = refl
xors_ext (suc n) f g h = ap₂ bit_xor (xors_ext n f g (λ k l. h k (omega arith))) (h n (omega arith))

right_comm : (a b c : ℕ) → bit_xor (bit_xor a b) c ≡ bit_xor (bit_xor a c) b
right_comm a b c = xor_assoc a b c ∙ (ap (λ z. bit_xor a z) (xor_comm b c) ∙ sym (xor_assoc a c b))

cancel : (a b : ℕ) → bit_xor (bit_xor a b) b ≡ a
cancel a b = xor_assoc a b b ∙ (ap (λ z. bit_xor a z) (xor_self b) ∙ xor_zero_r a)

-- one number of the row replaced
pub xors_at : (n : ℕ) (f : ℕ → ℕ) (j x : ℕ) → j < n → xors n (at f j x) ≡ bit_xor (bit_xor (xors n f) (f j)) x
unfolding xors
xors_at zero f j x h = absurd (omega arith)
xors_at (suc n) f j x h = go (cases_eq n j) (xors_at n f j x)
  where
    go : (n ≡ j) ⊎ (n ≡ j → ⊥) → (j < n → xors n (at f j x) ≡ bit_xor (bit_xor (xors n f) (f j)) x)
        → bit_xor (xors n (at f j x)) (at f j x n) ≡ bit_xor (bit_xor (bit_xor (xors n f) (f n)) (f j)) x
    go (inl e) r =
        ap₂ bit_xor (xors_ext n (at f j x) f (λ k l. at_other f j x k (omega arith))) (ap (at f j x) e ∙ at_same f j x)
        ∙ ap (λ z. bit_xor z x) (sym (cancel (xors n f) (f n)) ∙ ap (λ z. bit_xor (bit_xor (xors n f) (f n)) (f z)) e)
    go (inr d) r =
        ap₂ bit_xor (r (omega arith)) (at_other f j x n d)
        ∙ (right_comm (bit_xor (xors n f) (f j)) x (f n) ∙ ap (λ z. bit_xor z x) (right_comm (xors n f) (f j) (f n)))

-- all the others give back the one
pub xors_others : (n : ℕ) (f : ℕ → ℕ) (j : ℕ) → j < n → bit_xor (xors n f) (xors n (at f j 0)) ≡ f j
xors_others n f j h =
    ap (λ z. bit_xor (xors n f) z) (xors_at n f j 0 h ∙ xor_zero_r (bit_xor (xors n f) (f j)))
    ∙ (sym (xor_assoc (xors n f) (xors n f) (f j)) ∙ (ap (λ z. bit_xor z (f j)) (xor_self (xors n f)) ∙ xor_zero_l (f j)))

pub xors_lt : (n b : ℕ) (f : ℕ → ℕ) → ((k : ℕ) → k < n → f k < 2 ^ b) → xors n f < 2 ^ b
unfolding xors
xors_lt zero b f h = pow_pos b
xors_lt (suc n) b f h = xor_lt b (xors n f) (f n) (xors_lt n b f (λ k l. h k (omega arith))) (h n (omega arith))

-- rows that agree at all other places
pub at_ext : (n : ℕ) (f g : ℕ → ℕ) (j x : ℕ) → ((k : ℕ) → k < n → (k ≡ j → ⊥) → f k ≡ g k) → xors n (at f j x) ≡ xors n (at g j x)
at_ext n f g j x h = xors_ext n (at f j x) (at g j x) (λ k l. go k l (cases_eq k j))
  where
    go : (k : ℕ) → k < n → (k ≡ j) ⊎ (k ≡ j → ⊥) → at f j x k ≡ at g j x k
    go k l (inl e) = ap (at f j x) e ∙ (at_same f j x ∙ (sym (at_same g j x) ∙ sym (ap (at g j x) e)))
    go k l (inr d) = at_other f j x k d ∙ (h k l d ∙ sym (at_other g j x k d))

-- a place beyond the row
pub at_beyond : (n : ℕ) (f : ℕ → ℕ) (x : ℕ) → xors n (at f n x) ≡ xors n f
at_beyond n f x = xors_ext n (at f n x) f (λ k l. at_other f n x k (omega arith))
