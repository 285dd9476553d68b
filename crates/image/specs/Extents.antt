-- The numbers of cards and of blocks that a shelf can have.
use Rattle.std.specs.Prelude.{ℕ, Bool, ◌&&◌, nat_le}

-- n is 3 to 8
abbrev pub cards_fit : ℕ → Bool
cards_fit n = nat_le 3 n && nat_le n 8

-- s is 1 to 65,536
abbrev pub blocks_fit : ℕ → Bool
blocks_fit s = nat_le 1 s && nat_le s 65536

-- both are in range
abbrev pub shape_fits : ℕ → ℕ → Bool
shape_fits n s = cards_fit n && blocks_fit s
