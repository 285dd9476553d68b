use Rattle.std.proofs.Common.{◌≡◌, ◌≤◌}
use Rattle.block.specs.Judging.{setup}
use Rattle.stripe.specs.View.{slots_in}
use Rattle.runs.specs.Slots.{refills, rebuild_start}
use Rattle.scrubbing.specs.Counts.{rebuilding, RebuildBelow}
use Rattle.scrubbing.proofs.refilling.refill_many.Given as goal

abbrev pub invariant-loop : goal.invariant-loop
invariant-loop g l = record {
  so_far :
      rebuilding (g.W.WritableShelf.conduct l.cards.shelf) (slots_in l.cards.states) l.counts
      ≡ refills (setup l.initial.cards.frame g.C.Checksum.MARK g.C.Checksum.meaning) l.slot l.counter
      (rebuild_start (g.W.WritableShelf.conduct l.initial.cards.shelf) (slots_in l.initial.cards.states));
  frame : l.cards.frame ≡ l.initial.cards.frame;
  moved : l.counts.moved ≤ l.counter;
  below : RebuildBelow l.counts l.counts.moved;
}
