use Rattle.std.proofs.Common.{◌≡◌}
use Rattle.block.specs.Judging.{setup}
use Rattle.shelf.specs.Model.{after_all}
use Rattle.runs.specs.Formats.{format_slots}
use Rattle.formatting.proofs.formatting.write_cards.Given as goal

abbrev pub invariant-loop-slot : goal.invariant-loop-slot
invariant-loop-slot g l =
    let k = g.W.WritableShelf.conduct in
    (k l.cards.shelf ≡ after_all (k l.initial.cards.shelf) (format_slots (setup l.initial.cards.frame g.C.Checksum.MARK g.C.Checksum.meaning) l.slot))
    × (l.cards.frame ≡ l.initial.cards.frame)
    × (l.cards.states ≡ l.initial.cards.states)
