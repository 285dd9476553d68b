use Rattle.block.specs.Judging.{setup}
use Rattle.stripe.specs.View.{slots_in}
use Rattle.reading.proofs.Stretching.{SoFar}
use Rattle.reading.proofs.looking.look_from.Given as goal

abbrev pub invariant-loop-i : goal.invariant-loop-i
invariant-loop-i g l =
    SoFar (setup l.cards.frame g.C.Checksum.MARK g.C.Checksum.meaning) (g.R.ReadableShelf.holds l.cards.shelf.now) (slots_in l.cards.states.now) l.owner
    l.count l.first l.initial.tally l.i l.out l.tally
