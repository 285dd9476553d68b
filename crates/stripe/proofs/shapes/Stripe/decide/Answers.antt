use Rattle.std.proofs.Common.{◌≤◌, arith, rules}
use lib.Count.{ones, count_trailing_zeros}
use Rattle.stripe.proofs.MaskLaws.{clean, only, gone, low}
use Rattle.stripe.proofs.shapes.Stripe.decide.Goals as goal

pub returns-in-0 : goal.returns-in-0
returns-in-0 c = record { is = clean _ _ _ _ c.mask-mask.ensures c.in-0.is; placed = search rules }

pub returns-in-1 : goal.returns-in-1
returns-in-1 c =
    let l : count_trailing_zeros 8 c.mask-mask.result ≤ c.args.frame.width = low _ _ _ _ c.mask-mask.ensures (omega arith) c.in-1.is in
    record { is = only _ _ _ _ c.mask-mask.ensures (omega arith) c.in-1.is _ c.role_at.ensures.is; placed = search rules }

pub returns-in_default : goal.returns-in_default
returns-in_default c =
    let h : 2 ≤ ones c.mask-mask.result = omega arith in
    record { is = gone _ _ _ _ c.mask-mask.ensures h; placed = search rules }
