-- The turning checksum. Assumes nothing.
use Rattle.std.specs.Prelude.{ℕ, ◌*◌, ◌/◌, ◌%◌, ◌^◌, List, fold, bit_or, bit_xor}
use Rattle.checksum.specs.Rows.{words}

-- A 32-bit number, rotated left by 5 bits.
abbrev pub turned : ℕ → ℕ
turned r = bit_or ((r * 2 ^ 5) % 2 ^ 32) (r / 2 ^ 27)

-- The kept number after one more word: rotated, then exclusive or with the word.
abbrev pub turn_in : ℕ → ℕ → ℕ
turn_in r w = bit_xor (turned r) w

-- The sum of bytes.
abbrev pub turning : List ℕ → ℕ
turning bs = fold turn_in 0 (words bs)
