use Rattle.std.proofs.Common.{arith}
use Rattle.mending.proofs.Xors.{xor_unfit}
use Rattle.mending.proofs.rows.xor_block.Goals as goal

pub returns-in-Err : goal.returns-in-Err
returns-in-Err c = xor_unfit _ _ _ (omega arith) c.in-Err.is
