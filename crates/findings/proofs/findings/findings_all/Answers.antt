use Rattle.std.proofs.Common.{rules}
use Rattle.stripe.specs.Findings.{found_at, findings_all}
use Rattle.stripe.specs.View.{seen_in}
use Rattle.stripe.proofs.Rows.{from_fn_same}
use Rattle.findings.proofs.findings.findings_all.Goals as goal

pub returns : goal.returns
unfolding findings_all
returns c =
    from_fn_same _ (found_at c.args.frame.width c.args.s (seen_in c.args.stripe.now) c.args.mended) _ (λ i y q k. search rules) _ 8
    c.from_fn.ensures.items
