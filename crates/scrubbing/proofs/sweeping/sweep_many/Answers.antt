use Rattle.std.proofs.Common.{◌≡◌, refl, ◌∙◌, rules, arith}
use Rattle.runs.specs.Scrubs.{no_counts}
use Rattle.scrubbing.proofs.Sweeps.{so_far_none, so_far_more, so_far_all, scrub_ok, scrub_done}
use Rattle.scrubbing.proofs.sweeping.sweep_many.Goals as goal

pub loop-i-init : goal.loop-i-init
loop-i-init g c =
    let none : c.default-counts.result ≡ no_counts = search rules in
    record {
      so_far = rw none (so_far_none _ _ _ _ _ _);
      frame = refl;
      states = refl;
      looked = omega arith;
      below = record { looked = omega arith; clean = omega arith; mended = omega arith; short = omega arith; lost = omega arith };
    }

pub loop-i-preserved : goal.loop-i-preserved
loop-i-preserved g c =
    let inv = c.loop-i.invariant in
    let e = c.sweep_one-swept.ensures in
    let f = inv.frame in
    let t = inv.states in
    record {
      so_far =
          so_far_more _ _ c.loop-i.i c.args.stripes _ (g.W.WritableShelf.conduct c.loop-i.cards.shelf) _ c.loop-i.cursor _ c.cursor_at-s.result c.loop-i.counts _ c.loop-i.findings _ c.sweep_one-swept.result
          inv.so_far (rw f at c.cursor_at-s.ensures.is) (rw (f, t) at e.is) (rw (f, t) at e.wrote) (rw (f, t) at e.findings) (rw (e.frame, f) at c.cursor_next.ensures) c.count.ensures.is;
      frame = e.frame ∙ f;
      states = e.states ∙ t;
      looked = omega arith;
      below = c.count.ensures.below;
    }

pub returns-clause-answer : goal.returns-clause-answer
returns-clause-answer g c =
    let n : c.loop-i.i ≡ c.args.stripes = omega arith in
    scrub_ok _ _ _ _ _ _ _ _ _ _ _ c.requires.few n (so_far_all _ _ _ _ _ _ _ n c.loop-i.invariant.so_far)

pub returns-clause-done : goal.returns-clause-done
returns-clause-done g c =
    let n : c.loop-i.i ≡ c.args.stripes = omega arith in
    scrub_done _ _ _ _ _ _ _ _ _ _ _ c.requires.few n (so_far_all _ _ _ _ _ _ _ n c.loop-i.invariant.so_far)
