use Rattle.runs.proofs.Behind.{behind_stays}
use Rattle.runs.proofs.Codec.{codec_laws}
use Rattle.runs.proofs.RunLaw.{lasts}
use Rattle.runs.proofs.law.behind_stays.Goals as goal

pub returns : goal.returns
returns c =
    λ E G w₀ I w u O L p o fs h t q k b l d s x n.
    (_, behind_stays E G (codec_laws E G) w (lasts E G (codec_laws E G) w₀ I w u) O L p o fs h.0 h.1 t q k b l d s x n)
