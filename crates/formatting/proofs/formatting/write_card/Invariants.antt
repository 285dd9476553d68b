use Rattle.std.proofs.Common.{◌≡◌}
use Rattle.block.specs.Judging.{setup}
use Rattle.shelf.specs.Model.{after_all}
use Rattle.runs.specs.Formats.{card_writes}
use Rattle.formatting.proofs.formatting.write_card.Given as goal

abbrev pub invariant-loop-block : goal.invariant-loop-block
invariant-loop-block g l =
    let k = g.W.WritableShelf.conduct in
    (k l.cards.shelf ≡ after_all (k l.initial.cards.shelf) (card_writes (setup l.initial.cards.frame g.C.Checksum.MARK g.C.Checksum.meaning) l.slot l.block))
    × (l.cards.frame ≡ l.initial.cards.frame)
    × (l.cards.states ≡ l.initial.cards.states)
