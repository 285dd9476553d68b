-- Rows of bytes and their words. Assumes nothing.
use Rattle.std.specs.Prelude.{◌≡◌, ℕ, ◌+◌, ◌*◌, ◌/◌, ◌%◌, ◌<◌, ◌⊎◌, List, [], ◌∷◌, length, ◌≢◌, slice_index}
use Rattle.std.specs.Simd.Lanes.{Each1}

-- Each number is below 256.
abbrev pub Bytes : List ℕ → Type 0
Bytes bs = Each1 (λ x. x < 256) bs

-- What a checksum is taken of: 124 bytes.
pub record Row (bs : List ℕ) : Type 0 where
  pub long : length bs ≡ 124
  pub bytes : Bytes bs

-- Two lists of the same length that differ in exactly one place.
abbrev pub OneApart : List ℕ → List ℕ → Type 0
OneApart [] ys = ⊥
OneApart (x ∷ xs) [] = ⊥
OneApart (x ∷ xs) (y ∷ ys) = ((x ≢ y) × (xs ≡ ys)) ⊎ ((x ≡ y) × OneApart xs ys)

-- The 16-bit words of bytes, most significant byte first.
abbrev pub halves : List ℕ → List ℕ
halves [] = []
halves (a ∷ []) = []
halves (a ∷ b ∷ bs) = (a * 256 + b) ∷ halves bs

-- The 32-bit words of bytes, most significant byte first.
abbrev pub words : List ℕ → List ℕ
words [] = []
words (a ∷ []) = []
words (a ∷ b ∷ []) = []
words (a ∷ b ∷ c ∷ []) = []
words (a ∷ b ∷ c ∷ d ∷ bs) = (a * 16777216 + b * 65536 + c * 256 + d) ∷ words bs

-- The 16-bit words of 32-bit words, the upper half first.
abbrev pub split : List ℕ → List ℕ
split [] = []
split (w ∷ ws) = w / 65536 ∷ w % 65536 ∷ split ws

-- The 32-bit word that stands at a place.
abbrev pub word_at : List ℕ → ℕ → ℕ
word_at bs i = slice_index bs i * 16777216 + slice_index bs (i + 1) * 65536 + slice_index bs (i + 2) * 256 + slice_index bs (i + 3)
