use mathlib.Core.Path.{◌≡◌}
use Rattle.stripe.specs.Findings.{greatest_lead}
use Rattle.stripe.specs.View.{seen_in}
use Rattle.findings.proofs.findings.greatest_lead.Given as goal

abbrev pub invariant-loop-j : goal.invariant-loop-j
invariant-loop-j l = l.greatest ≡ greatest_lead (seen_in l.stripe) l.j
