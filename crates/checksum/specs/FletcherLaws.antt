-- Fletcher's checksum fits 32 bits, and differs for rows that differ in one byte. Assumes nothing.
use Rattle.std.specs.Prelude.{◌≡◌, ℕ, ◌+◌, ◌*◌, ◌%◌, ◌^◌, ◌<◌, List, [], ◌∷◌, length, ◌≢◌}
use Rattle.std.proofs.Common.{sym, ap, ◌∙◌, inl, inr, arith}
use Rattle.checksum.specs.Rows.{Bytes, OneApart, Row, halves, words, split}
use Rattle.checksum.specs.Fletcher.{plus, sum_from, fletcher}
use Rattle.checksum.specs.RowLaws.{split_words}

-- The running sums stay below 65,535, so the sum fits 32 bits.
fits_from : (ws : List ℕ) (a b : ℕ) → a < 65535 → b < 65535 → sum_from a b ws < 2 ^ 32
fits_from [] a b h k = omega arith
fits_from (w ∷ ws) a b h k = fits_from ws (plus a w) (plus b (plus a w)) (omega arith) (omega arith)

-- The sum of any bytes fits 32 bits.
pub fits : (bs : List ℕ) → fletcher bs < 2 ^ 32
fits bs = fits_from (halves bs) 0 0 (omega arith) (omega arith)

-- The sum may be taken by 32-bit words.
pub goes_by_words : (bs : List ℕ) → Row bs → sum_from 0 0 (split (words bs)) ≡ fletcher bs
goes_by_words bs r = ap (sum_from 0 0) (split_words bs (omega arith) r.bytes)

-- The plain sum of 16-bit words.
abbrev weight : List ℕ → ℕ
weight [] = 0
weight (w ∷ ws) = w + weight ws

-- The lower half of the sum is the plain sum, modulo 65,535.
lower : (ws : List ℕ) (a b : ℕ) → a < 65535 → sum_from a b ws % 65536 ≡ (a + weight ws) % 65535
lower [] a b h = omega arith
lower (w ∷ ws) a b h = lower ws (plus a w) (plus b (plus a w)) (omega arith) ∙ omega arith

-- Numbers that agree modulo 65,535 and are less than 65,535 apart are equal.
close : (m n : ℕ) → m % 65535 ≡ n % 65535 → m < n + 65535 → n < m + 65535 → m ≡ n
close m n e h k = omega arith

-- One byte changes the plain sum by less than 65,535, and not by 0.
apart : (xs ys : List ℕ) → length xs % 2 ≡ 0 → length ys % 2 ≡ 0 → Bytes xs → Bytes ys → OneApart xs ys → (k : ℕ) → (k + weight (halves xs)) % 65535 ≢ (k + weight (halves ys)) % 65535
apart [] ys m n h l o k e = o
apart (a ∷ []) ys m n h l o k e = omega arith
apart (a ∷ b ∷ xs) [] m n h l o k e = o
apart (a ∷ b ∷ xs) (c ∷ []) m n h l o k e = omega arith
apart (a ∷ b ∷ xs) (c ∷ d ∷ ys) m n h l (inl p) k e =
    let t : b ∷ xs ≡ d ∷ ys = p.1 in
    let u : b ≡ d = cc in
    let v : xs ≡ ys = cc in
    let w : weight (halves xs) ≡ weight (halves ys) = ap (λ t. weight (halves t)) v in
    let z : k + (a * 256 + b + weight (halves xs)) ≡ k + (c * 256 + d + weight (halves ys)) = close _ _ e (omega arith) (omega arith) in
    p.0 (omega arith)
apart (a ∷ b ∷ xs) (c ∷ d ∷ ys) m n h l (inr (x, inl p)) k e =
    let w : weight (halves xs) ≡ weight (halves ys) = ap (λ t. weight (halves t)) p.1 in
    let z : k + (a * 256 + b + weight (halves xs)) ≡ k + (c * 256 + d + weight (halves ys)) = close _ _ e (omega arith) (omega arith) in
    p.0 (omega arith)
apart (a ∷ b ∷ xs) (c ∷ d ∷ ys) m n h l (inr (x, inr (y, o))) k e =
    let p : (k + (a * 256 + b)) + weight (halves xs) ≡ k + (a * 256 + b + weight (halves xs)) = omega arith in
    let q : k + (c * 256 + d + weight (halves ys)) ≡ (k + (a * 256 + b)) + weight (halves ys) = omega arith in
    apart xs ys (omega arith) (omega arith) h.1.1 l.1.1 o (k + (a * 256 + b)) (ap (λ j. j % 65535) p ∙ e ∙ ap (λ j. j % 65535) q)

-- Rows that differ in exactly one byte have different sums.
pub tells_apart : (xs ys : List ℕ) → Row xs → Row ys → OneApart xs ys → fletcher xs ≢ fletcher ys
tells_apart xs ys r t o e =
    let p = lower (halves xs) 0 0 (omega arith) in
    let q = lower (halves ys) 0 0 (omega arith) in
    apart xs ys (omega arith) (omega arith) r.bytes t.bytes o 0 (sym p ∙ ap (λ j. j % 65536) e ∙ q)
