use Rattle.std.proofs.Common.{ap, ◌∙◌}
use Rattle.runs.specs.Gather.{patch_of, patch_by}
use Rattle.patches.proofs.patching.patch_of.Goals as goal

pub returns : goal.returns
unfolding patch_of
returns g c =
    let e = c.patch_by.ensures in
    record { below = e.below; is = e.is ∙ ap (patch_by _ _ _) c.decide.ensures.is }
