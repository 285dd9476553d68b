-- The worked sums. Assumes nothing.
use Rattle.std.proofs.Common.{refl}
use Rattle.checksum.specs.Worked.{WorkedSums}

-- All four worked sums, by computation.
pub worked : WorkedSums
worked = (refl, refl, refl, refl)
