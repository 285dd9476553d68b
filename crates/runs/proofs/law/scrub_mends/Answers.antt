use Rattle.runs.proofs.Codec.{codec_laws}
use Rattle.runs.proofs.Lands.{scrub_mends}
use Rattle.runs.proofs.RunLaw.{lasts}
use Rattle.runs.proofs.law.scrub_mends.Goals as goal

pub returns : goal.returns
returns c = λ E G w₀ I w u O. scrub_mends E G (codec_laws E G) w (lasts E G (codec_laws E G) w₀ I w u) O
