use Rattle.std.proofs.Common.{rules}
use Rattle.stripe.specs.Mend.{mended_version, mended_versions}
use Rattle.stripe.specs.View.{seen_in}
use Rattle.stripe.proofs.Rows.{from_fn_same}
use Rattle.mending.proofs.mend.mended_versions.Goals as goal

pub returns : goal.returns
unfolding mended_versions
returns c = from_fn_same _ (mended_version c.args.spot.frame.width (seen_in c.args.stripe.now) c.args.spot.role) _ (λ i y q k. search rules) _ 7 c.from_fn.ensures.items
