use Rattle.std.proofs.Common.{◌∙◌}
use Rattle.stripe.proofs.Rows.{in_front}
use Rattle.mending.proofs.Xors.{data_none, data_here, data_other}
use Rattle.mending.proofs.rows.data_row.Goals as goal
use Rattle.mending.proofs.rows.data_row.Goals.{then-k-j, else-k-j}

pub loop-k-init : goal.loop-k-init
loop-k-init c = data_none _ _ _

pub loop-k-preserved : goal.loop-k-preserved
loop-k-preserved c = elim c.if-k-j.branch [
  | then-k-j w ↦ w.row-is ∙ w.xor_bytes.ensures ∙ data_here _ _ _ _ _ c.loop-k.invariant w.if-k-j.true
  | else-k-j w ↦ w.row-is ∙ w.xor_block.ensures ∙ data_other _ _ _ _ _ _ c.loop-k.invariant w.if-k-j.false (in_front c.args.stripe.now.«data» c.args.width c.loop-k.k _ _ c.loop-k-test.true)
]
