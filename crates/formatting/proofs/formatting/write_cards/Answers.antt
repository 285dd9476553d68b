use Rattle.std.proofs.Common.{sym, refl, ap, ◌∙◌}
use Rattle.block.specs.Judging.{setup}
use Rattle.shelf.specs.Model.{after_all}
use Rattle.runs.specs.Formats.{card_writes, format_slots}
use Rattle.formatting.proofs.Formats.{after_more, format_none, format_more}
use Rattle.formatting.proofs.formatting.write_cards.Goals as goal

pub loop-slot-init : goal.loop-slot-init
loop-slot-init g c = (ap (after_all (g.W.WritableShelf.conduct c.args.cards.now.shelf)) (sym (format_none _)), refl, refl)

pub loop-slot-preserved : goal.loop-slot-preserved
loop-slot-preserved g c =
    let k = g.W.WritableShelf.conduct in
    let E = setup c.args.cards.now.frame g.C.Checksum.MARK g.C.Checksum.meaning in
    let was = c.loop-slot.invariant in
    let e = c.write_card.ensures in (
      after_more (k c.args.cards.now.shelf) _ _ (format_slots E c.loop-slot.slot) _ was.0
          (e.wrote ∙ ap (λ f. after_all (k c.loop-slot.cards.shelf) (card_writes (setup f g.C.Checksum.MARK g.C.Checksum.meaning) c.loop-slot.slot f.blocks)) was.1)
          ∙ ap (after_all (k c.args.cards.now.shelf)) (sym (format_more E c.loop-slot.slot)),
      e.frame ∙ was.1,
      e.states ∙ was.2,
    )
