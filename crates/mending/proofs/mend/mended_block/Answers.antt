use Rattle.stripe.specs.Mend.{mended}
use Rattle.mending.proofs.mend.mended_block.Goals as goal

pub returns : goal.returns
unfolding mended
returns g c = cc
