use Rattle.runs.proofs.Codec.{codec_laws}
use Rattle.runs.proofs.Lands.{write_lands}
use Rattle.runs.proofs.RunLaw.{lasts}
use Rattle.runs.proofs.law.write_lands.Goals as goal

pub returns : goal.returns
returns c = λ E G w₀ I w u O. write_lands E G (codec_laws E G) w (lasts E G (codec_laws E G) w₀ I w u) O
