use Rattle.std.proofs.Common.{◌≡◌, length, rules, arith}
use Rattle.scrubbing.proofs.Put.{put_slot_lem}
use Rattle.scrubbing.proofs.Refills.{refill_is}
use Rattle.scrubbing.proofs.refilling.refill_at.Goals as goal

pub returns-clause-did : goal.returns-clause-did
returns-clause-did g c =
    let e = c.refill_one-mended.ensures in
    let l : length c.args.cards.now.states ≡ 8 = search rules in
    refill_is _ _ c.args.s (g.W.WritableShelf.conduct c.args.cards.now.shelf) _ _ _ c.args.counts.now _ c.refill_one-mended.result e.is
    e.wrote (rw e.states (put_slot_lem c.args.cards.now.states c.args.slot _ (omega arith))) c.recount.ensures.is
