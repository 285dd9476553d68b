-- A sealed block that was hit in one byte is no longer sealed. Assumes nothing.
use Rattle.std.proofs.Common.{◌≡◌, ℕ, zero, suc, ◌<◌, true, not, ◌⊎◌, List, [], ◌∷◌, length, get_or, take, drop, set, sym, refl, ap, ◌∙◌, inl, inr, ⊎_elim, arith, length-set, ne_eqb}
use Rattle.std.proofs.lemmas.List.{get_or-drop, length-take-le, length-drop}
use Rattle.checksum.specs.Rows.{Bytes, Row, OneApart, word_at}
use Rattle.block.specs.Judging.{RightSum, broken_by}

bytes_take : (n : ℕ) (bs : List ℕ) → Bytes bs → Bytes (take n bs)
bytes_take zero bs h = tt
bytes_take (suc n) [] h = tt
bytes_take (suc n) (b ∷ bs) h = (h.0, bytes_take n bs h.1)

bytes_drop : (n : ℕ) (bs : List ℕ) → Bytes bs → Bytes (drop n bs)
bytes_drop zero bs h = h
bytes_drop (suc n) [] h = tt
bytes_drop (suc n) (b ∷ bs) h = bytes_drop n bs h.1

-- where two rows are cut, they differ on one side of the cut
cut : (n : ℕ) (xs ys : List ℕ) → OneApart xs ys → (OneApart (take n xs) (take n ys) × (drop n xs ≡ drop n ys)) ⊎ ((take n xs ≡ take n ys) × OneApart (drop n xs) (drop n ys))
cut zero xs ys o = inr (refl, o)
cut (suc n) [] ys o = absurd o
cut (suc n) (x ∷ xs) [] o = absurd o
cut (suc n) (x ∷ xs) (y ∷ ys) (inl (p, e)) = inl (inl (p, ap (take n) e), ap (drop n) e)
cut (suc n) (x ∷ xs) (y ∷ ys) (inr (e, o)) =
    ⊎_elim (λ p. inl (inr (e, p.0), p.1)) (λ p. inr (ap (λ z. z ∷ take n xs) e ∙ ap (λ t. y ∷ t) p.0, p.1)) (cut n xs ys o)

four : (xs ys : List ℕ) → length xs ≡ 4 → length ys ≡ 4 → Bytes xs → Bytes ys → OneApart xs ys → word_at xs 0 ≡ word_at ys 0 → ⊥
four [] ys m n h k o e = omega arith
four (a ∷ []) ys m n h k o e = omega arith
four (a ∷ b ∷ []) ys m n h k o e = omega arith
four (a ∷ b ∷ c ∷ []) ys m n h k o e = omega arith
four (a ∷ b ∷ c ∷ d ∷ t ∷ xs) ys m n h k o e = omega arith
four (a ∷ b ∷ c ∷ d ∷ []) [] m n h k o e = omega arith
four (a ∷ b ∷ c ∷ d ∷ []) (a' ∷ []) m n h k o e = omega arith
four (a ∷ b ∷ c ∷ d ∷ []) (a' ∷ b' ∷ []) m n h k o e = omega arith
four (a ∷ b ∷ c ∷ d ∷ []) (a' ∷ b' ∷ c' ∷ []) m n h k o e = omega arith
four (a ∷ b ∷ c ∷ d ∷ []) (a' ∷ b' ∷ c' ∷ d' ∷ t ∷ ys) m n h k o e = omega arith
four (a ∷ b ∷ c ∷ d ∷ []) (a' ∷ b' ∷ c' ∷ d' ∷ []) m n h k (inl (p, q)) e = p (omega arith)
four (a ∷ b ∷ c ∷ d ∷ []) (a' ∷ b' ∷ c' ∷ d' ∷ []) m n h k (inr (x, inl (p, q))) e = p (omega arith)
four (a ∷ b ∷ c ∷ d ∷ []) (a' ∷ b' ∷ c' ∷ d' ∷ []) m n h k (inr (x, inr (y, inl (p, q)))) e = p (omega arith)
four (a ∷ b ∷ c ∷ d ∷ []) (a' ∷ b' ∷ c' ∷ d' ∷ []) m n h k (inr (x, inr (y, inr (z, inl (p, q))))) e = p (omega arith)
four (a ∷ b ∷ c ∷ d ∷ []) (a' ∷ b' ∷ c' ∷ d' ∷ []) m n h k (inr (x, inr (y, inr (z, inr (w, o))))) e = o

last_word : (bs : List ℕ) → word_at (drop 124 bs) 0 ≡ word_at bs 124
last_word bs = simp get_or-drop

front : (bs : List ℕ) → length bs ≡ 128 → Bytes bs → Row (take 124 bs)
front bs l h = record { long = length-take-le 124 bs (omega arith); bytes = bytes_take 124 bs h }

pub hit : (meaning : List ℕ → ℕ) → ((xs ys : List ℕ) → Row xs → Row ys → OneApart xs ys → meaning xs ≡ meaning ys → ⊥)
    → (was row : List ℕ) → RightSum meaning was → length row ≡ 128 → Bytes row → OneApart was row → word_at row 124 ≡ meaning (take 124 row) → ⊥
hit meaning tells was row s l h o e =
    ⊎_elim
    (λ p. tells (take 124 was) (take 124 row) (front was s.long s.bytes) (front row l h) p.0 (sym s.sum ∙ sym (last_word was) ∙ ap (λ t. word_at t 0) p.1 ∙ last_word row ∙ e))
    (λ p. four (drop 124 was) (drop 124 row) (length-drop 124 was ∙ omega arith) (length-drop 124 row ∙ omega arith) (bytes_drop 124 was s.bytes) (bytes_drop 124 row h) p.1 (last_word was ∙ s.sum ∙ ap meaning p.0 ∙ sym e ∙ sym (last_word row)))
    (cut 124 was row o)

-- one byte set to another value
pub one_set : (b : List ℕ) (i v : ℕ) → i < length b → (get_or b i 0 ≡ v → ⊥) → OneApart b (set b i v)
one_set [] i v h ne = omega arith
one_set (x ∷ b) zero v h ne = inl (ne, refl)
one_set (x ∷ b) (suc i) v h ne = inr (refl, one_set b i v (omega arith) ne)

-- the changed block is broken
pub changed_is_broken : (meaning : List ℕ → ℕ) → ((xs ys : List ℕ) → Row xs → Row ys → OneApart xs ys → meaning xs ≡ meaning ys → ⊥)
    → (was : List ℕ) (i v : ℕ) → RightSum meaning was → i < 128 → (get_or was i 0 ≡ v → ⊥) → Bytes (set was i v) → broken_by meaning (set was i v) ≡ true
unfolding broken_by
changed_is_broken meaning tells was i v s h ne bytes =
    ap not (ne_eqb _ _ (hit meaning tells was (set was i v) s (length-set was i v ∙ s.long) bytes (one_set was i v (omega (arith, s.long)) ne)))
