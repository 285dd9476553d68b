-- Fletcher's checksum of 32 bits. Assumes nothing.
use Rattle.std.specs.Prelude.{ℕ, ◌+◌, ◌*◌, ◌%◌, List, [], ◌∷◌}
use Rattle.checksum.specs.Rows.{halves}

-- The sum of two numbers, modulo 65,535.
abbrev pub plus : ℕ → ℕ → ℕ
plus m n = (m + n) % 65535

-- The sum of 16-bit words, from running sums a and b: a adds each word, and b adds each new a.
abbrev pub sum_from : ℕ → ℕ → List ℕ → ℕ
sum_from a b [] = b * 65536 + a
sum_from a b (w ∷ ws) = sum_from (plus a w) (plus b (plus a w)) ws

-- The sum of bytes.
abbrev pub fletcher : List ℕ → ℕ
fletcher bs = sum_from 0 0 (halves bs)
