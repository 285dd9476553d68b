use Rattle.std.proofs.Common.{ap}
use Rattle.block.specs.declared.frame.Frame.{Frame}
use Rattle.block.specs.Judging.{setup}
use Rattle.stripe.specs.View.{slots_in}
use Rattle.stripe.proofs.OnShelf.{held_view}
use Rattle.writing.proofs.Ready.{ready_all}
use Rattle.writing.proofs.preparing.prepare_all.Goals as goal

pub returns : goal.returns
returns g c =
    let cards = c.args.cards.now in
    let E = setup cards.frame g.C.Checksum.MARK g.C.Checksum.meaning in
    ready_all E _ _ _ _ _ _ _ _ _ _
    (ap (λ (f : Frame). setup f g.C.Checksum.MARK g.C.Checksum.meaning) c.requires.same)
    (held_view E (g.R.ReadableShelf.holds cards.shelf.now) (slots_in cards.states.now) c.args.at.stripe c.look-stripe.result cards.frame.most c.look-stripe.ensures)
    c.prepare_full.ensures c.findings_all.ensures
