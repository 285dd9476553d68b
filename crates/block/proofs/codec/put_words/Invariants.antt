use Rattle.std.proofs.Common.{◌≡◌, ◌+◌, ◌*◌, ◌++◌, take}
use Rattle.block.specs.Layout.{bytes_of_all}
use Rattle.block.proofs.codec.put_words.Given as goal

abbrev pub invariant-loop-i : goal.invariant-loop-i
invariant-loop-i l = take (l.at + 4 * l.i) l.out ≡ take l.at l.initial.out ++ bytes_of_all (take l.i l.ns)
