use Rattle.std.proofs.Common.{refl, arith}
use Rattle.mending.proofs.Xors.{xored_none, xored_more, xored_all}
use Rattle.mending.proofs.rows.xor_bytes.Goals as goal

pub loop-i-init : goal.loop-i-init
loop-i-init c = xored_none _ _ (omega arith)

pub loop-i-preserved : goal.loop-i-preserved
loop-i-preserved c = xored_more _ _ c.loop-i.i _ _ (omega arith) c.loop-i.invariant refl

pub returns : goal.returns
returns c = xored_all _ _ c.loop-i.i _ (omega arith) c.loop-i.invariant
