use Rattle.std.proofs.Common.{◌≡◌}
use Rattle.mending.specs.Rows.{data_owner}
use Rattle.mending.proofs.rows.data_owner.Given as goal

abbrev pub invariant-loop-k : goal.invariant-loop-k
invariant-loop-k l = l.all ≡ data_owner l.stripe.«data» l.k l.j l.owner
