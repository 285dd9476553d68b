use Rattle.std.proofs.Common.{◌∙◌, arith}
use Rattle.stripe.proofs.MaskLaws.{mask_none, mask_yes, mask_no, mask_all}
use Rattle.stripe.proofs.shapes.Stripe.mask.Goals as goal
use Rattle.stripe.proofs.shapes.Stripe.mask.Goals.{then-is_bad, else-is_bad}

pub loop-c-init : goal.loop-c-init
loop-c-init c = mask_none _ _ _

pub loop-c-preserved : goal.loop-c-preserved
loop-c-preserved c = elim c.if-is_bad.branch [
  | then-is_bad w ↦ w.mask-is ∙ mask_yes _ _ _ _ _ (omega arith) (cc) c.loop-c.invariant
  | else-is_bad w ↦ w.mask-is ∙ mask_no _ _ _ _ _ (cc) c.loop-c.invariant
]

pub returns : goal.returns
returns c = mask_all _ _ _ c.loop-c.c _ (omega arith) c.loop-c.invariant
