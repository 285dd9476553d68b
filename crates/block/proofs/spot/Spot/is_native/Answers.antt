use Rattle.std.proofs.Common.{◌-◌, rules}
use Rattle.block.specs.Judging.{native_block}
use Rattle.block.proofs.UnusedVersions.{all_zero}
use Rattle.block.proofs.spot.Spot.is_native.Goals as goal

pub returns-then-be32-self-2 : goal.returns-then-be32-self-2
unfolding native_block
returns-then-be32-self-2 g c =
    let e = all_zero c.args.block.now c.used.result (7 - c.used.result) in search rules

pub returns-else-be32-self-2 : goal.returns-else-be32-self-2
unfolding native_block
returns-else-be32-self-2 g c = search rules
