use Rattle.std.proofs.Common.{◌≡◌}
use Rattle.block.specs.Judging.{setup}
use Rattle.stripe.specs.View.{slots_in}
use Rattle.runs.specs.Scrubs.{sweeps, scrub_start}
use Rattle.scrubbing.specs.Counts.{ScrubBelow}
use Rattle.scrubbing.proofs.Sweeps.{SoFar}
use Rattle.scrubbing.proofs.sweeping.sweep_many.Given as goal

abbrev pub invariant-loop-i : goal.invariant-loop-i
invariant-loop-i g l = record {
  so_far :
      SoFar (g.W.WritableShelf.conduct l.cards.shelf) l.cursor l.counts l.findings l.stripes l.i
      (sweeps (setup l.initial.cards.frame g.C.Checksum.MARK g.C.Checksum.meaning) (slots_in l.initial.cards.states) l.i
      (scrub_start (g.W.WritableShelf.conduct l.initial.cards.shelf) l.initial.cursor l.initial.findings));
  frame : l.cards.frame ≡ l.initial.cards.frame;
  states : l.cards.states ≡ l.initial.cards.states;
  looked : l.counts.looked ≡ l.i;
  below : ScrubBelow l.counts l.counts.looked;
}
