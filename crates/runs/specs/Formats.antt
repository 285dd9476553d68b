-- What format writes.
use Rattle.std.specs.Prelude.{ℕ, zero, suc, ◌+◌, List, [], ◌++◌, replicate}
use Rattle.block.specs.Judging.{Setup, block_with}
use Rattle.block.specs.Layout.{table}
use Rattle.block.specs.Places.{role_at}
use Rattle.shelf.specs.Model.{Write, write_of}

-- block s of slot c with zero payload, owner 0 and versions 0
abbrev pub fresh_block : Setup → ℕ → ℕ → List ℕ
fresh_block E c s = block_with E s (role_at E.D s c) (replicate 80 0) 0 (replicate 7 0)

abbrev pub fresh_write : Setup → ℕ → ℕ → Write
fresh_write E c s = write_of c s (fresh_block E c s)

-- the first n blocks of slot c
unfoldable pub card_writes : Setup → ℕ → ℕ → List Write
card_writes E c n = table n (fresh_write E c)

-- every place of the first n slots, in slot and block order
unfoldable pub format_slots : Setup → ℕ → List Write
format_slots E zero = []
format_slots E (suc n) = format_slots E n ++ card_writes E n E.S

abbrev pub format_writes : Setup → List Write
format_writes E = format_slots E (E.D + 1)
