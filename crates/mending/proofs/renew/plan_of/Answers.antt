use Rattle.std.proofs.Common.{◌∙◌, ap₂}
use Rattle.stripe.specs.Renew.{plan_for, plan_of}
use Rattle.mending.proofs.renew.plan_of.Goals as goal

pub returns : goal.returns
unfolding plan_of
returns c = c.plan_for.ensures ∙ ap₂ plan_for c.is_touched.ensures c.decide.ensures.is
