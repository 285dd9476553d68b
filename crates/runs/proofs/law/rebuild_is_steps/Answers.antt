use Rattle.runs.proofs.Chains.{rebuild_is_steps}
use Rattle.runs.proofs.law.rebuild_is_steps.Goals as goal

pub returns : goal.returns
returns c = rebuild_is_steps
