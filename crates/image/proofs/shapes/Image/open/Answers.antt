use Rattle.std.proofs.Common.{arith}
use Rattle.image.proofs.Writes.{told}
use Rattle.image.proofs.shapes.Image.open.Goals as goal

pub returns-in-Ok-clause-told : goal.returns-in-Ok-clause-told
returns-in-Ok-clause-told c = told c.in-Ok.extent.cards c.in-Ok.extent.blocks c.args.bytes (omega arith)
