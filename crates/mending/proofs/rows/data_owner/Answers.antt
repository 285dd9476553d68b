use Rattle.std.specs.Prelude.{Err}
use Rattle.std.proofs.Common.{◌≡◌, ℕ, get_or, ap, ◌∙◌}
use Rattle.block.specs.declared.shapes.Defect.TheVariants.{Blind}
use Rattle.stripe.specs.Mend.{owner_in, at}
use Rattle.stripe.proofs.Rows.{in_front}
use Rattle.mending.proofs.Xors.{xors_none, xors_more, at_here, at_other}
use Rattle.mending.proofs.rows.data_owner.Goals as goal
use Rattle.mending.proofs.rows.data_owner.Goals.{then-k-j, else-k-j}

pub loop-k-init : goal.loop-k-init
loop-k-init c = xors_none _

pub loop-k-preserved : goal.loop-k-preserved
loop-k-preserved c =
    let f = λ (k : ℕ). owner_in (get_or c.args.stripe.now.«data» k (Err Blind)) in
    let here : c.if-k-j.all ≡ at f c.args.j c.args.owner c.loop-k.k = elim c.if-k-j.branch [
      | then-k-j w ↦ w.all-is ∙ at_here f _ _ _ w.if-k-j.true
      | else-k-j w ↦ w.all-is ∙ w.owner_in.ensures ∙ ap owner_in (in_front c.args.stripe.now.«data» c.args.width c.loop-k.k _ _ c.loop-k-test.true) ∙ at_other f _ _ _ w.if-k-j.false
    ] in
    xors_more (at f c.args.j c.args.owner) _ _ _ c.loop-k.invariant here
