use Rattle.std.proofs.Common.{rules}
use Rattle.stripe.specs.Renew.{new_version_at, new_versions}
use Rattle.stripe.specs.View.{seen_in}
use Rattle.stripe.proofs.Rows.{from_fn_same}
use Rattle.mending.proofs.renew.new_versions.Goals as goal

pub returns : goal.returns
unfolding new_versions
returns c = from_fn_same _ (new_version_at c.args.bad c.args.at.frame.width (seen_in c.args.stripe.now) c.args.at.index c.args.version) _ (λ i y q k. search rules) _ 7 c.from_fn.ensures.items
