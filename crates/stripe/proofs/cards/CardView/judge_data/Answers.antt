use Rattle.std.proofs.Common.{sym}
use Rattle.block.specs.Judging.{setup}
use Rattle.stripe.proofs.Views.{view_out}
use Rattle.stripe.proofs.cards.CardView.judge_data.Goals as goal

pub returns-else-j-frame : goal.returns-else-j-frame
returns-else-j-frame g c = sym (view_out (setup c.args.self.now.frame g.C.Checksum.MARK g.C.Checksum.meaning) _ _ _ c.args.j c.if-j-frame.false)
