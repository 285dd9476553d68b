use Rattle.block.specs.Judging.{setup}
use Rattle.stripe.specs.View.{slots_in}
use Rattle.stripe.proofs.Views.{has_placed, view_in}
use Rattle.stripe.proofs.cards.CardView.judge_into.Goals as goal

pub returns : goal.returns
returns g c =
    let e = c.slot.ensures.is in
    let v = view_in (setup c.args.self.now.frame g.C.Checksum.MARK g.C.Checksum.meaning) (g.R.ReadableShelf.holds c.args.self.now.shelf.now)
    (slots_in c.args.self.now.states.now) c.args.spot.stripe c.args.spot.role
    (has_placed c.args.self.now.frame.width c.args.spot.role (λ j e. let l = c.args.spot.placed j e in let f = c.requires.same in rw f at l)) in
    cc
