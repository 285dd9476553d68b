use Rattle.std.proofs.Common.{arith}
use Rattle.image.proofs.Writes.{told}
use Rattle.image.proofs.shapes.Image.zero.Goals as goal

pub returns-clause-told : goal.returns-clause-told
returns-clause-told c = told c.in_ok-extent.extent.cards c.in_ok-extent.extent.blocks c.in_ok-bytes.bytes (omega arith)
