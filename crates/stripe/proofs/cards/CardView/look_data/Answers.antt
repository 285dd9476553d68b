use Rattle.std.specs.Prelude.{Err}
use Rattle.std.proofs.Common.{arith}
use Rattle.block.specs.declared.shapes.Defect.TheVariants.{Blind}
use Rattle.stripe.specs.View.{row_of}
use Rattle.stripe.proofs.Rows.{filled_none, filled_more, filled_all}
use Rattle.stripe.proofs.cards.CardView.look_data.Goals as goal

pub loop-j-init : goal.loop-j-init
loop-j-init g c = filled_none 7 _ _ c.told-data

pub loop-j-preserved : goal.loop-j-preserved
loop-j-preserved g c = filled_more 7 _ c.loop-j.j _ _ (omega arith) c.loop-j.invariant c.judge_data.ensures

pub returns : goal.returns
unfolding row_of
returns g c = filled_all 7 _ c.loop-j.j _ (Err Blind) (omega arith) c.loop-j.invariant
