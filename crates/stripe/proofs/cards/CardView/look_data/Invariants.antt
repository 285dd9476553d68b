use Rattle.block.specs.declared.shapes.Role.TheVariants.{Data}
use Rattle.block.specs.Judging.{setup}
use Rattle.stripe.specs.View.{view_of, slots_in}
use Rattle.stripe.proofs.Rows.{Filled}
use Rattle.stripe.proofs.cards.CardView.look_data.Given as goal

abbrev pub invariant-loop-j : goal.invariant-loop-j
invariant-loop-j g l =
    Filled 7 (λ j. view_of (setup l.self.frame g.C.Checksum.MARK g.C.Checksum.meaning) (g.R.ReadableShelf.holds l.self.shelf.now) (slots_in l.self.states.now) l.s (Data j)) l.j l.«data»
