use Rattle.std.proofs.Common.{ap, ◌∙◌, arith}
use Rattle.block.specs.Judging.{setup}
use Rattle.stripe.specs.View.{slots_in}
use Rattle.stripe.proofs.OnShelf.{held_view}
use Rattle.runs.specs.Gather.{patch_of}
use Rattle.runs.specs.Slots.{rebuild_writes}
use Rattle.scrubbing.specs.Counts.{refill_from}
use Rattle.scrubbing.proofs.Refills.{from_patch}
use Rattle.scrubbing.proofs.refilling.stripe_patch.Goals as goal

pub returns : goal.returns
unfolding rebuild_writes
returns g c =
    let E = setup c.args.cards.now.frame g.C.Checksum.MARK g.C.Checksum.meaning in
    let s = c.args.s in
    let V = held_view E _ (slots_in c.args.cards.now.states.now) s _ (omega arith) c.look.ensures in
    λ slot. ap (refill_from slot s) (c.patch_of.ensures.is ∙ ap (patch_of E s) V) ∙ from_patch E s _ slot
