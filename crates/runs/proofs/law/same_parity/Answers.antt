use Rattle.runs.proofs.Codec.{codec_laws}
use Rattle.runs.proofs.Lands.{same_parity}
use Rattle.runs.proofs.RunLaw.{lasts}
use Rattle.runs.proofs.law.same_parity.Goals as goal

pub returns : goal.returns
returns c = λ E G w₀ I w u O. same_parity E G (codec_laws E G) w (lasts E G (codec_laws E G) w₀ I w u) O
