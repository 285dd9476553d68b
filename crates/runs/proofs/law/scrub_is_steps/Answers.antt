use Rattle.runs.proofs.Chains.{scrub_is_steps}
use Rattle.runs.proofs.law.scrub_is_steps.Goals as goal

pub returns : goal.returns
returns c = scrub_is_steps
