-- The turning checksum fits 32 bits, and differs for rows that differ in one byte. Assumes nothing.
use Rattle.std.specs.Prelude.{◌≡◌, ℕ, ◌+◌, ◌*◌, ◌/◌, ◌%◌, ◌^◌, ◌<◌, ◌⊎◌, List, [], ◌∷◌, length, fold, ◌≢◌, bit_or, bit_xor}
use Rattle.std.proofs.Common.{sym, ap, ◌∙◌, inl, inr, ⊎_elim, arith}
use Rattle.std.specs.Int.Bits.{xor_assoc, xor_self, xor_zero_l}
use Rattle.std.specs.Simd.Lanes.{Each1}
use Rattle.std.proofs.lemmas.Nat.{mod-mul-add, div-mul-add, xor_lt, xor_comm, or_shifted}
use Rattle.checksum.specs.Rows.{Bytes, OneApart, Row, words}
use Rattle.checksum.specs.Turning.{turned, turn_in, turning}

-- A rotation's lower 5 bits are the number's upper 5, and the rest the number's lower 27.
shape : (r : ℕ) → r < 2 ^ 32 → turned r ≡ (r % 2 ^ 27) * 32 + r / 2 ^ 27
shape r h =
    let low : (r * 2 ^ 5) % 2 ^ 32 ≡ (r % 2 ^ 27) * 2 ^ 5 = omega arith in
    ap (λ n. bit_or n (r / 2 ^ 27)) low ∙ or_shifted (r % 2 ^ 27) 5 (r / 2 ^ 27) (omega arith)

turn_in_lt : (r w : ℕ) → r < 2 ^ 32 → w < 2 ^ 32 → turn_in r w < 2 ^ 32
turn_in_lt r w h k = xor_lt 32 (turned r) w (rw (shape r h) (omega arith)) k

high : (r : ℕ) → r < 2 ^ 32 → turned r % 32 ≡ r / 2 ^ 27
high r h = ap (λ n. n % 32) (shape r h) ∙ mod-mul-add (r % 2 ^ 27) 32 (r / 2 ^ 27) (omega arith)

low : (r : ℕ) → r < 2 ^ 32 → turned r / 32 ≡ r % 2 ^ 27
low r h = ap (λ n. n / 32) (shape r h) ∙ div-mul-add (r % 2 ^ 27) 32 (r / 2 ^ 27) (omega arith)

glue : (r t : ℕ) → r / 2 ^ 27 ≡ t / 2 ^ 27 → r % 2 ^ 27 ≡ t % 2 ^ 27 → r ≡ t
glue r t h k = omega arith

-- A rotation loses nothing.
turned_same : (r t : ℕ) → r < 2 ^ 32 → t < 2 ^ 32 → turned r ≡ turned t → r ≡ t
turned_same r t h k e =
    glue r t (sym (high r h) ∙ ap (λ n. n % 32) e ∙ high t k) (sym (low r h) ∙ ap (λ n. n / 32) e ∙ low t k)

-- Nor does exclusive or with a number.
undone : (a w : ℕ) → bit_xor a (bit_xor a w) ≡ w
undone a w = sym (xor_assoc a a w) ∙ ap (λ n. bit_xor n w) (xor_self a) ∙ xor_zero_l w

pub same_right : (a v w : ℕ) → bit_xor a v ≡ bit_xor a w → v ≡ w
same_right a v w e = sym (undone a v) ∙ ap (bit_xor a) e ∙ undone a w

pub same_left : (a b w : ℕ) → bit_xor a w ≡ bit_xor b w → a ≡ b
same_left a b w e = same_right w a b (xor_comm w a ∙ e ∙ xor_comm b w)

-- Each word fits 32 bits.
abbrev pub Fit : List ℕ → Type 0
Fit ws = Each1 (λ w. w < 2 ^ 32) ws

pub fit_words : (bs : List ℕ) → Bytes bs → Fit (words bs)
fit_words [] h = tt
fit_words (a ∷ []) h = tt
fit_words (a ∷ b ∷ []) h = tt
fit_words (a ∷ b ∷ c ∷ []) h = tt
fit_words (a ∷ b ∷ c ∷ d ∷ bs) h = (omega arith, fit_words bs h.1.1.1.1)

fits_from : (ws : List ℕ) (r : ℕ) → Fit ws → r < 2 ^ 32 → fold turn_in r ws < 2 ^ 32
fits_from [] r f h = h
fits_from (w ∷ ws) r f h = fits_from ws (turn_in r w) f.1 (turn_in_lt r w h f.0)

-- The sum of a row fits 32 bits.
pub fits : (bs : List ℕ) → Row bs → turning bs < 2 ^ 32
fits bs r = fits_from (words bs) 0 (fit_words bs r.bytes) (omega arith)

-- Kept numbers that differ still differ after the same words.
stays : (ws : List ℕ) → Fit ws → (r t : ℕ) → r < 2 ^ 32 → t < 2 ^ 32 → (r ≢ t) → fold turn_in r ws ≢ fold turn_in t ws
stays [] f r t h k n e = n e
stays (w ∷ ws) f r t h k n e =
    stays ws f.1 (turn_in r w) (turn_in t w) (turn_in_lt r w h f.0) (turn_in_lt t w k f.0)
    (λ z. n (turned_same r t h k (same_left (turned r) (turned t) w z))) e

-- Lists that differ in one byte differ in their first word or from the second on.
pub split : (a b c d a' b' c' d' : ℕ) (xs ys : List ℕ) → Bytes (a ∷ b ∷ c ∷ d ∷ xs) → Bytes (a' ∷ b' ∷ c' ∷ d' ∷ ys) → OneApart (a ∷ b ∷ c ∷ d ∷ xs) (a' ∷ b' ∷ c' ∷ d' ∷ ys)
    → ((a * 16777216 + b * 65536 + c * 256 + d ≢ a' * 16777216 + b' * 65536 + c' * 256 + d') × (xs ≡ ys)) ⊎ ((a * 16777216 + b * 65536 + c * 256 + d ≡ a' * 16777216 + b' * 65536 + c' * 256 + d') × OneApart xs ys)
split a b c d a' b' c' d' xs ys h k (inl p) = let t : b ∷ c ∷ d ∷ xs ≡ b' ∷ c' ∷ d' ∷ ys = p.1 in inl ((λ e. p.0 (omega arith)), cc)
split a b c d a' b' c' d' xs ys h k (inr (x, inl p)) = let t : c ∷ d ∷ xs ≡ c' ∷ d' ∷ ys = p.1 in inl ((λ e. p.0 (omega arith)), cc)
split a b c d a' b' c' d' xs ys h k (inr (x, inr (y, inl p))) = let t : d ∷ xs ≡ d' ∷ ys = p.1 in inl ((λ e. p.0 (omega arith)), cc)
split a b c d a' b' c' d' xs ys h k (inr (x, inr (y, inr (z, inl p)))) = inl ((λ e. p.0 (omega arith)), p.1)
split a b c d a' b' c' d' xs ys h k (inr (x, inr (y, inr (z, inr (w, o))))) = inr (omega arith, o)

-- From the same kept number, lists that differ in one byte come to different sums.
apart : (xs ys : List ℕ) → length xs % 4 ≡ 0 → length ys % 4 ≡ 0 → Bytes xs → Bytes ys → OneApart xs ys → (r : ℕ) → r < 2 ^ 32 → fold turn_in r (words xs) ≢ fold turn_in r (words ys)
apart [] ys m n h l o r f e = o
apart (a ∷ []) ys m n h l o r f e = omega arith
apart (a ∷ b ∷ []) ys m n h l o r f e = omega arith
apart (a ∷ b ∷ c ∷ []) ys m n h l o r f e = omega arith
apart (a ∷ b ∷ c ∷ d ∷ xs) [] m n h l o r f e = o
apart (a ∷ b ∷ c ∷ d ∷ xs) (a' ∷ []) m n h l o r f e = omega arith
apart (a ∷ b ∷ c ∷ d ∷ xs) (a' ∷ b' ∷ []) m n h l o r f e = omega arith
apart (a ∷ b ∷ c ∷ d ∷ xs) (a' ∷ b' ∷ c' ∷ []) m n h l o r f e = omega arith
apart (a ∷ b ∷ c ∷ d ∷ xs) (a' ∷ b' ∷ c' ∷ d' ∷ ys) m n h l o r f e =
    let v = a * 16777216 + b * 65536 + c * 256 + d in
    let w = a' * 16777216 + b' * 65536 + c' * 256 + d' in
    let fv : v < 2 ^ 32 = (fit_words (a ∷ b ∷ c ∷ d ∷ xs) h).0 in
    let fw : w < 2 ^ 32 = (fit_words (a' ∷ b' ∷ c' ∷ d' ∷ ys) l).0 in
    ⊎_elim
    (λ p. stays (words xs) (fit_words xs h.1.1.1.1) (turn_in r v) (turn_in r w) (turn_in_lt r v f fv) (turn_in_lt r w f fw) (λ z. p.0 (same_right (turned r) v w z)) (e ∙ ap (λ t. fold turn_in (turn_in r w) (words t)) (sym p.1)))
    (λ p. apart xs ys (omega arith) (omega arith) h.1.1.1.1 l.1.1.1.1 p.1 (turn_in r v) (turn_in_lt r v f fv) (e ∙ ap (λ t. fold turn_in (turn_in r t) (words ys)) (sym p.0)))
    (split a b c d a' b' c' d' xs ys h l o)

-- Rows that differ in exactly one byte have different sums.
pub tells_apart : (xs ys : List ℕ) → Row xs → Row ys → OneApart xs ys → turning xs ≢ turning ys
tells_apart xs ys r t o e = apart xs ys (omega arith) (omega arith) r.bytes t.bytes o 0 (omega arith) e
