-- What a block is to be, from the others.
use Rattle.std.specs.Prelude.{ℕ, zero, suc, cond, List, ◌==◌, bit_xor, nat_lt, slice_index, Ok, Err}
use Rattle.block.specs.declared.shapes.Role.{Role}
use Rattle.block.specs.declared.shapes.Role.TheVariants.{Parity, Data}
use Rattle.block.specs.Shapes.{Verdict}
use Rattle.block.specs.Judging.{Setup, block_with}
use Rattle.block.specs.Layout.{table, owner_of, version_of}
use Rattle.stripe.specs.View.{View}

-- byte i, the owner and version k of a block; 0 where it is unfit
abbrev pub byte_in : Verdict → ℕ → ℕ
byte_in (Err c) i = 0
byte_in (Ok b) i = slice_index b i

abbrev pub owner_in : Verdict → ℕ
owner_in (Err c) = 0
owner_in (Ok b) = owner_of b

abbrev pub version_in : Verdict → ℕ → ℕ
version_in (Err c) k = 0
version_in (Ok b) k = version_of b k

-- the XOR of f 0 .. f (n - 1)
unfoldable pub xors : ℕ → (ℕ → ℕ) → ℕ
xors zero f = 0
xors (suc n) f = bit_xor (xors n f) (f n)

-- f but for x at j
abbrev pub at : (ℕ → ℕ) → ℕ → ℕ → ℕ → ℕ
at f j x k = cond (k == j) x (f k)

-- the part of parity in a block's XOR of the others
abbrev pub own_part : Role → Verdict → (Verdict → ℕ) → ℕ
own_part Parity q g = 0
own_part (Data j) q g = g q

-- the data index that the XOR leaves out
abbrev pub skip_of : ℕ → Role → ℕ
skip_of d Parity = d
skip_of d (Data j) = j

-- the XOR of all the other blocks, of the part that g takes
unfoldable pub others : ℕ → View → Role → (Verdict → ℕ) → ℕ
others d V r g = bit_xor (own_part r (V Parity) g) (xors d (at (λ k. g (V (Data k))) (skip_of d r) 0))

unfoldable pub others_row : ℕ → View → Role → List ℕ
others_row d V r = table 80 (λ i. others d V r (λ v. byte_in v i))

-- parity mirrors the version of each data block; a data block has the mirrored version
abbrev pub mended_version : ℕ → View → Role → ℕ → ℕ
mended_version d V Parity k = cond (nat_lt k d) (version_in (V (Data k)) 0) 0
mended_version d V (Data j) k = cond (k == 0) (version_in (V Parity) j) 0

unfoldable pub mended_versions : ℕ → View → Role → List ℕ
mended_versions d V r = table 7 (mended_version d V r)

-- the block that mends a role of stripe s
unfoldable pub mended : Setup → ℕ → View → Role → List ℕ
mended E s V r = block_with E s r (others_row E.D V r) (others E.D V r owner_in) (mended_versions E.D V r)
