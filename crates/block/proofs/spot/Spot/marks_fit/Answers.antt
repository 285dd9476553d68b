use Rattle.std.proofs.Common.{rules}
use Rattle.block.specs.Judging.{marks_fit}
use Rattle.block.proofs.spot.Spot.marks_fit.Goals as goal

pub returns-then-block-slot : goal.returns-then-block-slot
unfolding marks_fit
returns-then-block-slot c = search rules

pub returns-else-block-slot : goal.returns-else-block-slot
unfolding marks_fit
returns-else-block-slot c = search rules
