use Rattle.std.proofs.Common.{◌∙◌, arith}
use Rattle.block.specs.Judging.{setup}
use Rattle.stripe.proofs.OnShelf.{mask_held}
use Rattle.stripe.proofs.surveys.mask_at.Goals as goal

pub returns : goal.returns
returns g c =
    c.mask.ensures
    ∙ mask_held (setup c.args.cards.now.frame g.C.Checksum.MARK g.C.Checksum.meaning) _ _ _ _ (omega arith) c.requires.all_in c.look.ensures
