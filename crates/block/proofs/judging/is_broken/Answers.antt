use Rattle.std.proofs.Common.{rules}
use Rattle.block.specs.Judging.{broken_by}
use Rattle.block.proofs.judging.is_broken.Goals as goal

pub returns : goal.returns
unfolding broken_by
returns g c = search rules
