use Rattle.stripe.specs.Renew.{new_parity}
use Rattle.mending.proofs.renew.new_parity.Goals as goal

pub returns : goal.returns
unfolding new_parity
returns g c = cc
