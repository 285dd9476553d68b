-- The words of a row, and the row that a block begins with. Assumes nothing.
use Rattle.std.specs.Prelude.{◌≡◌, ℕ, zero, suc, ◌+◌, ◌*◌, ◌/◌, ◌%◌, ◌<◌, ◌≤◌, List, [], ◌∷◌, length, take, drop, slice_index, slice_index_or, refl}
use Rattle.std.proofs.Common.{ap, ◌∙◌, arith}
use Rattle.std.proofs.lemmas.List.{drop_all, drop_more, get_or-drop, get_or-take, length-take-le}
use Rattle.std.specs.Simd.{first_chunks}
use Rattle.std.proofs.lemmas.Simd.{Each1-from_get_or}
use Rattle.checksum.specs.Rows.{Bytes, Row, halves, words, split, word_at}

-- What is left from one place is its element and what is left from the next.
next : (bs : List ℕ) (i j : ℕ) → j ≡ i + 1 → i < length bs → drop i bs ≡ slice_index bs i ∷ drop j bs
next bs i j e h = rw e (drop_more bs i 0 h)

-- The words from one place are the word there and the words from four places on.
next_word : (bs : List ℕ) (i j : ℕ) → j ≡ i + 4 → j ≤ length bs → words (drop i bs) ≡ word_at bs i ∷ words (drop j bs)
next_word bs i j e h =
    let d : drop (i + 3) bs ≡ slice_index bs (i + 3) ∷ drop j bs = next bs (i + 3) j (omega arith) (omega arith) in
    let c : drop (i + 2) bs ≡ slice_index bs (i + 2) ∷ drop (i + 3) bs = next bs (i + 2) (i + 3) (omega arith) (omega arith) in
    let b : drop (i + 1) bs ≡ slice_index bs (i + 1) ∷ drop (i + 2) bs = next bs (i + 1) (i + 2) (omega arith) (omega arith) in
    let a : drop i bs ≡ slice_index bs i ∷ drop (i + 1) bs = next bs i (i + 1) (omega arith) (omega arith) in
    let all : drop i bs ≡ slice_index bs i ∷ slice_index bs (i + 1) ∷ slice_index bs (i + 2) ∷ slice_index bs (i + 3) ∷ drop j bs = cc in
    ap words all

-- A word that ends within the first n bytes is one of theirs.
word_take : (n : ℕ) (bs : List ℕ) (i : ℕ) → i + 4 ≤ n → word_at (take n bs) i ≡ word_at bs i
word_take n bs i h =
    let a : slice_index_or (take n bs) i 0 ≡ slice_index_or bs i 0 = get_or-take n bs i 0 (omega arith) in
    let b : slice_index_or (take n bs) (i + 1) 0 ≡ slice_index_or bs (i + 1) 0 = get_or-take n bs (i + 1) 0 (omega arith) in
    let c : slice_index_or (take n bs) (i + 2) 0 ≡ slice_index_or bs (i + 2) 0 = get_or-take n bs (i + 2) 0 (omega arith) in
    let d : slice_index_or (take n bs) (i + 3) 0 ≡ slice_index_or bs (i + 3) 0 = get_or-take n bs (i + 3) 0 (omega arith) in
    cc

-- The first 124 bytes of a block are a row.
pub front_row : (bs : List ℕ) → length bs ≡ 128 → ((k : ℕ) → slice_index bs k < 256) → Row (take 124 bs)
front_row bs l h =
    let long : length (take 124 bs) ≡ 124 = length-take-le 124 bs (omega arith) in
    record {
      long = long;
      bytes = Each1-from_get_or (λ x. x < 256) (take 124 bs) 0 (λ k b. let c : k < 124 = omega arith in rw get_or-take (h k));
    }

-- The element of a chunk of four.
chunk_at : (n k : ℕ) (bs : List ℕ) (i : ℕ) → k < n → i < 4 → slice_index_or (slice_index_or (first_chunks 4 n bs) k []) i 0 ≡ slice_index_or bs (4 * k + i) 0
chunk_at zero k bs i h l = absurd (omega arith)
chunk_at (suc n) zero bs i h l = get_or-take 4 bs i 0 l ∙ ap (λ j. slice_index_or bs j 0) (omega arith)
chunk_at (suc n) (suc k) bs i h l =
    chunk_at n k (drop 4 bs) i (omega arith) l ∙ get_or-drop 4 bs (4 * k + i) 0 ∙ ap (λ j. slice_index_or bs j 0) (omega arith)

-- A chunk of a block's first 124 bytes is a word of the block.
pub word_of_chunk : (bs : List ℕ) (cs : List (List ℕ)) (n k : ℕ) → cs ≡ first_chunks 4 n (take 124 bs) → k < n → k < 31
    → word_at (slice_index_or cs k []) 0 ≡ word_at bs (4 * k)
word_of_chunk bs cs n k e h l =
    let at : (i : ℕ) → i < 4 → slice_index_or (slice_index_or cs k []) i 0 ≡ slice_index_or bs (4 * k + i) 0 =
    λ i m. ap (λ c. slice_index_or (slice_index_or c k []) i 0) e ∙ chunk_at n k (take 124 bs) i h m ∙ get_or-take 124 bs (4 * k + i) 0 (omega arith) in
    let a : slice_index_or (slice_index_or cs k []) 0 0 ≡ slice_index_or bs (4 * k) 0 = at 0 (omega arith) ∙ ap (λ j. slice_index_or bs j 0) (omega arith) in
    let b : slice_index_or (slice_index_or cs k []) 1 0 ≡ slice_index_or bs (4 * k + 1) 0 = at 1 (omega arith) in
    let c : slice_index_or (slice_index_or cs k []) 2 0 ≡ slice_index_or bs (4 * k + 2) 0 = at 2 (omega arith) in
    let d : slice_index_or (slice_index_or cs k []) 3 0 ≡ slice_index_or bs (4 * k + 3) 0 = at 3 (omega arith) in
    cc

-- The words of a block's first 124 bytes from the i-th on are the i-th and those from the next on.
pub next_of_row : (bs : List ℕ) (i : ℕ) → length bs ≡ 128 → i < 31 → words (drop (4 * i) (take 124 bs)) ≡ word_at bs (4 * i) ∷ words (drop (4 * (i + 1)) (take 124 bs))
next_of_row bs i l h =
    let row = take 124 bs in
    let long : length row ≡ 124 = length-take-le 124 bs (omega arith) in
    next_word row (4 * i) (4 * (i + 1)) (omega arith) (omega arith) ∙ ap (λ w. w ∷ words (drop (4 * (i + 1)) row)) (word_take 124 bs (4 * i) (omega arith))

-- After 31 words none is left.
pub none_of_row : (bs : List ℕ) (i : ℕ) → length bs ≡ 128 → 31 ≤ i → words (drop (4 * i) (take 124 bs)) ≡ []
none_of_row bs i l h =
    let long : length (take 124 bs) ≡ 124 = length-take-le 124 bs (omega arith) in
    ap words (drop_all (4 * i) (take 124 bs) (omega arith))

-- The 32-bit words, taken apart, are the 16-bit words.
pub split_words : (bs : List ℕ) → length bs % 4 ≡ 0 → Bytes bs → split (words bs) ≡ halves bs
split_words [] m h = refl
split_words (a ∷ []) m h = absurd (omega arith)
split_words (a ∷ b ∷ []) m h = absurd (omega arith)
split_words (a ∷ b ∷ c ∷ []) m h = absurd (omega arith)
split_words (a ∷ b ∷ c ∷ d ∷ bs) m h =
    let hi : (a * 16777216 + b * 65536 + c * 256 + d) / 65536 ≡ a * 256 + b = omega arith in
    let lo : (a * 16777216 + b * 65536 + c * 256 + d) % 65536 ≡ c * 256 + d = omega arith in
    rw (hi, lo) (ap (λ t. (a * 256 + b) ∷ (c * 256 + d) ∷ t) (split_words bs (omega arith) h.1.1.1.1))
