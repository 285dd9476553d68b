use Rattle.runs.proofs.Codec.{codec_laws}
use Rattle.runs.proofs.RunLaw.{run_law}
use Rattle.runs.proofs.law.law_holds.Goals as goal

pub returns : goal.returns
returns c = λ E G w₀ I. run_law E G (codec_laws E G) w₀ I
