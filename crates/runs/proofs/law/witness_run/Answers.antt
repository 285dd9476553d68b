use Rattle.runs.proofs.Witness.{witness_run}
use Rattle.runs.proofs.law.witness_run.Goals as goal

pub returns : goal.returns
returns c = witness_run
