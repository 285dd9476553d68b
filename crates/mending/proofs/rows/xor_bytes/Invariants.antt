use Rattle.std.proofs.Common.{get_or}
use Rattle.mending.proofs.Xors.{Xored}
use Rattle.mending.proofs.rows.xor_bytes.Given as goal

abbrev pub invariant-loop-i : goal.invariant-loop-i
invariant-loop-i l = Xored l.initial.row (λ j. get_or l.other j 0) l.i l.row
