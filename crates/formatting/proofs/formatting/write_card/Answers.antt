use Rattle.std.proofs.Common.{[], ◌∷◌, sym, refl, ap, ◌∙◌}
use Rattle.block.specs.Judging.{setup}
use Rattle.shelf.specs.Model.{after_all}
use Rattle.runs.specs.Formats.{card_writes, fresh_write}
use Rattle.formatting.proofs.Formats.{after_more, card_none, card_more}
use Rattle.formatting.proofs.formatting.write_card.Goals as goal

pub loop-block-init : goal.loop-block-init
loop-block-init g c = (ap (after_all (g.W.WritableShelf.conduct c.args.cards.now.shelf)) (sym (card_none _ _)), refl, refl)

pub loop-block-preserved : goal.loop-block-preserved
loop-block-preserved g c =
    let k = g.W.WritableShelf.conduct in
    let E = setup c.args.cards.now.frame g.C.Checksum.MARK g.C.Checksum.meaning in
    let was = c.loop-block.invariant in
    let e = c.write_place.ensures in (
      after_more (k c.args.cards.now.shelf) _ _ (card_writes E c.args.slot c.loop-block.block) _ was.0
          (e.wrote ∙ ap (λ f. after_all (k c.loop-block.cards.shelf) (fresh_write (setup f g.C.Checksum.MARK g.C.Checksum.meaning) c.args.slot c.loop-block.block ∷ [])) was.1)
          ∙ ap (after_all (k c.args.cards.now.shelf)) (sym (card_more E c.args.slot c.loop-block.block)),
      e.frame ∙ was.1,
      e.states ∙ was.2,
    )
