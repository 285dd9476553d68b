use Rattle.std.proofs.Common.{◌≡◌, refl, ◌∙◌, rules, arith}
use Rattle.scrubbing.proofs.Refills.{refills_none, refills_more, rebuild_done, rebuild_ok}
use Rattle.scrubbing.proofs.refilling.refill_many.Goals as goal

pub loop-init : goal.loop-init
loop-init g c =
    let none : c.default-counts.result ≡ record { moved = 0; mended = 0; lost = 0 } = search rules in
    record {
      so_far = rw none (refills_none _ _ _);
      frame = refl;
      moved = omega arith;
      below = record { moved = omega arith; mended = omega arith; lost = omega arith };
    }

pub loop-preserved : goal.loop-preserved
loop-preserved g c =
    let inv = c.loop.invariant in
    let e = c.refill_next.ensures in
    record {
      so_far = refills_more _ _ c.loop.counter _ _ _ inv.so_far (rw inv.frame at e.did);
      frame = e.frame ∙ inv.frame;
      moved = omega arith;
      below = e.below;
    }

pub returns-clause-answer : goal.returns-clause-answer
returns-clause-answer g c = rebuild_ok _ _ _ _ _ _ _ _ _ c.requires.allowed (omega arith) c.loop.invariant.so_far

pub returns-clause-done : goal.returns-clause-done
returns-clause-done g c = rebuild_done _ _ _ _ _ _ _ _ _ c.requires.allowed (omega arith) c.loop.invariant.so_far
