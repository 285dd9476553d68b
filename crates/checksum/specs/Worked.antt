-- Worked sums of rows that are 0 but for one byte. Assumes nothing.
use Rattle.std.specs.Prelude.{◌≡◌, ℕ, List, replicate, slice_set}
use Rattle.checksum.specs.Fletcher.{fletcher}
use Rattle.checksum.specs.Turning.{turning}

-- 124 bytes, all 0 but for a 1 at a place.
abbrev pub one_at : ℕ → List ℕ
one_at k = slice_set (replicate 124 0) k 1

-- Both sums of a 1 in the last byte and of a 1 in the first.
abbrev pub WorkedSums : Type 0
WorkedSums = (fletcher (one_at 123) ≡ 0x00010001) × (turning (one_at 123) ≡ 0x00000001) × (fletcher (one_at 0) ≡ 0x3E000100) × (turning (one_at 0) ≡ 0x00004000)
