-- How the fields of a block lie in its 128 bytes. Numbers have their most significant byte first.
use Rattle.std.specs.Prelude.{◌≡◌, ℕ, zero, suc, ◌+◌, ◌*◌, ◌/◌, ◌%◌, ◌^◌, ◌<◌, List, [], ◌∷◌, ◌++◌, map, length, take, slice_index}
use Rattle.std.specs.Simd.Lanes.{Each1}
use Rattle.std.specs.List.{range_with_len}
use Rattle.checksum.specs.Rows.{word_at}
use Rattle.block.specs.declared.shapes.Fields.{Fields}

-- a list by its places
abbrev pub table : {A : Type 0} → ℕ → (ℕ → A) → List A
table n f = map f (range_with_len 0 n)

-- a number of 32 bits
abbrev pub bytes_of : ℕ → List ℕ
bytes_of n = (n / 16777216 % 256) ∷ (n / 65536 % 256) ∷ (n / 256 % 256) ∷ (n % 256) ∷ []

abbrev pub bytes_of_all : List ℕ → List ℕ
bytes_of_all [] = []
bytes_of_all (n ∷ ns) = bytes_of n ++ bytes_of_all ns

-- the first 124 bytes
abbrev pub body : Fields → List ℕ
body f =
    f.payload
    ++ (f.kind ∷ f.mark ∷ f.slot ∷ f.cards ∷ [])
    ++ bytes_of f.block
    ++ bytes_of f.owner
    ++ bytes_of_all f.versions
    ++ bytes_of f.tag

abbrev pub encoded : Fields → ℕ → List ℕ
encoded f sum = body f ++ bytes_of sum

-- the block of the fields under a checksum of this meaning
unfoldable pub sealed_by : (List ℕ → ℕ) → Fields → List ℕ
sealed_by h f = encoded f (h (body f))

-- so many numbers of 32 bits, from a place on
abbrev pub words_at : ℕ → List ℕ → ℕ → List ℕ
words_at zero b i = []
words_at (suc n) b i = word_at b i ∷ words_at n b (i + 4)

abbrev pub decoded : List ℕ → Fields
decoded b = record {
  payload = take 80 b;
  kind = slice_index b 80;
  mark = slice_index b 81;
  slot = slice_index b 82;
  cards = slice_index b 83;
  block = word_at b 84;
  owner = word_at b 88;
  versions = words_at 7 b 92;
  tag = word_at b 120;
}

abbrev pub owner_of : List ℕ → ℕ
owner_of b = word_at b 88

-- version k of the seven
abbrev pub version_of : List ℕ → ℕ → ℕ
version_of b k = word_at b (92 + 4 * k)

-- what the types of the fields say
pub record Sound (f : Fields) : Type 0 where
  pub payload : length f.payload ≡ 80
  pub versions : length f.versions ≡ 7
  pub block : f.block < 2 ^ 32
  pub owner : f.owner < 2 ^ 32
  pub tag : f.tag < 2 ^ 32
  pub each : Each1 (λ v. v < 2 ^ 32) f.versions
