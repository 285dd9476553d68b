-- The plain sum. Assumes nothing.
use Rattle.std.specs.Prelude.{ℕ, List, fold, bit_xor}
use Rattle.checksum.specs.Rows.{words}

-- The exclusive or of the 32-bit words of bytes.
abbrev pub plain : List ℕ → ℕ
plain bs = fold bit_xor 0 (words bs)
