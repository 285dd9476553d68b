use Rattle.checksum.specs.FletcherLaws.{goes_by_words}
use Rattle.checksum.proofs.fletcher.FletcherChecksum.start.Goals as goal

pub returns : goal.returns
returns c = goes_by_words
