-- The plain sum fits 32 bits, and differs for rows that differ in one byte. Assumes nothing.
use Rattle.std.specs.Prelude.{◌≡◌, ℕ, ◌%◌, ◌^◌, ◌<◌, List, [], ◌∷◌, length, fold, ◌≢◌, bit_xor}
use Rattle.std.proofs.Common.{sym, ap, ◌∙◌, inl, inr, ⊎_elim, arith}
use Rattle.std.proofs.lemmas.Nat.{xor_lt}
use Rattle.checksum.specs.Rows.{Bytes, OneApart, Row, words}
use Rattle.checksum.specs.TurningLaws.{Fit, fit_words, split, same_left, same_right}
use Rattle.example.specs.Plain.{plain}

-- A fold over words of 32 bits stays within 32 bits.
fits_from : (ws : List ℕ) (r : ℕ) → Fit ws → r < 2 ^ 32 → fold bit_xor r ws < 2 ^ 32
fits_from [] r f h = h
fits_from (w ∷ ws) r f h = fits_from ws (bit_xor r w) f.1 (xor_lt 32 r w h f.0)

-- The law `narrow`.
pub fits : (bs : List ℕ) → Row bs → plain bs < 2 ^ 32
fits bs r = fits_from (words bs) 0 (fit_words bs r.bytes) (omega arith)

-- Rows that differ in exactly one byte have words that differ in exactly one.
words_apart : (xs ys : List ℕ) → length xs % 4 ≡ 0 → length ys % 4 ≡ 0 → Bytes xs → Bytes ys → OneApart xs ys → OneApart (words xs) (words ys)
words_apart [] ys m n h l o = o
words_apart (a ∷ []) ys m n h l o = absurd (omega arith)
words_apart (a ∷ b ∷ []) ys m n h l o = absurd (omega arith)
words_apart (a ∷ b ∷ c ∷ []) ys m n h l o = absurd (omega arith)
words_apart (a ∷ b ∷ c ∷ d ∷ xs) [] m n h l o = o
words_apart (a ∷ b ∷ c ∷ d ∷ xs) (a' ∷ []) m n h l o = absurd (omega arith)
words_apart (a ∷ b ∷ c ∷ d ∷ xs) (a' ∷ b' ∷ []) m n h l o = absurd (omega arith)
words_apart (a ∷ b ∷ c ∷ d ∷ xs) (a' ∷ b' ∷ c' ∷ []) m n h l o = absurd (omega arith)
words_apart (a ∷ b ∷ c ∷ d ∷ xs) (a' ∷ b' ∷ c' ∷ d' ∷ ys) m n h l o =
    ⊎_elim (λ p. inl (p.0, ap words p.1))
    (λ p. inr (p.0, words_apart xs ys (omega arith) (omega arith) h.1.1.1.1 l.1.1.1.1 p.1))
    (split a b c d a' b' c' d' xs ys h l o)

-- Equal sums over the same words were equal before them.
before : (ws : List ℕ) (r t : ℕ) → fold bit_xor r ws ≡ fold bit_xor t ws → r ≡ t
before [] r t e = e
before (w ∷ ws) r t e = same_left r t w (before ws (bit_xor r w) (bit_xor t w) e)

-- Words that differ in exactly one have different sums.
apart : (vs ws : List ℕ) → OneApart vs ws → (r : ℕ) → fold bit_xor r vs ≢ fold bit_xor r ws
apart [] ws o r e = o
apart (v ∷ vs) [] o r e = o
apart (v ∷ vs) (w ∷ ws) (inl p) r e =
    p.0 (same_right r v w (before ws (bit_xor r v) (bit_xor r w) (ap (fold bit_xor (bit_xor r v)) (sym p.1) ∙ e)))
apart (v ∷ vs) (w ∷ ws) (inr p) r e =
    apart vs ws p.1 (bit_xor r v) (e ∙ ap (λ x. fold bit_xor (bit_xor r x) ws) (sym p.0))

-- The law `tells`.
pub tells_apart : (xs ys : List ℕ) → Row xs → Row ys → OneApart xs ys → plain xs ≢ plain ys
tells_apart xs ys r t o e =
    apart (words xs) (words ys) (words_apart xs ys (omega arith) (omega arith) r.bytes t.bytes o) 0 e
