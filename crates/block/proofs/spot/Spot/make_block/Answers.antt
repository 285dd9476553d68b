use Rattle.block.specs.Judging.{block_with}
use Rattle.block.proofs.spot.Spot.make_block.Goals as goal

pub returns : goal.returns
unfolding block_with
returns g c = let e = c.slot.ensures.is in cc
