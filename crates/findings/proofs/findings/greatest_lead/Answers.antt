use Rattle.std.specs.Prelude.{Err}
use Rattle.std.proofs.Common.{sym, ap, ◌∙◌, ap₂}
use Rattle.stripe.specs.Findings.{lead_at, greater}
use Rattle.block.specs.declared.shapes.Defect.TheVariants.{Blind}
use Rattle.stripe.proofs.Rows.{in_front}
use Rattle.stripe.specs.View.{seen_in}
use Rattle.stripe.proofs.Leads.{greatest_more, greatest_none}
use Rattle.findings.proofs.findings.greatest_lead.Goals as goal

pub loop-j-init : goal.loop-j-init
loop-j-init c = greatest_none _

pub loop-j-preserved : goal.loop-j-preserved
loop-j-preserved c =
    let t = c.args.stripe.now in
    let here = in_front t.«data» c.args.width c.loop-j.j _ (Err Blind) c.loop-j-test.true in
    c.greater_of-greatest.ensures
    ∙ ap₂ greater (c.lead_at.ensures ∙ ap (λ v. lead_at v t.parity c.loop-j.j) here) c.loop-j.invariant
    ∙ sym (greatest_more (seen_in t) c.loop-j.j)
