use Rattle.runs.proofs.Speaks.{law_speaks}
use Rattle.runs.proofs.law.law_speaks.Goals as goal

pub returns : goal.returns
returns c = law_speaks
