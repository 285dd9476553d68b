use Rattle.std.proofs.Common.{rules}
use Rattle.stripe.specs.Renew.{new_data}
use Rattle.mending.proofs.renew.new_data.Goals as goal

pub returns : goal.returns
unfolding new_data
returns g c = search rules
