use Rattle.std.proofs.Common.{◌≡◌}
use Rattle.mending.specs.Rows.{data_row}
use Rattle.mending.proofs.rows.data_row.Given as goal

abbrev pub invariant-loop-k : goal.invariant-loop-k
invariant-loop-k l = l.row ≡ data_row l.stripe.«data» l.k l.j l.payload
