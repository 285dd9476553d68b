use Rattle.std.proofs.Common.{ap, ◌∙◌, arith}
use Rattle.stripe.specs.Survey.{stripe_masks}
use Rattle.stripe.proofs.OnShelf.{setup_on_lem}
use Rattle.stripe.proofs.Rows.{filled_none, filled_more, filled_all}
use Rattle.stripe.proofs.surveys.write_masks.Goals as goal

pub loop-s-init : goal.loop-s-init
loop-s-init g c = filled_none _ _ _ c.requires.long

pub loop-s-preserved : goal.loop-s-preserved
loop-s-preserved g c = filled_more _ _ c.loop-s.s _ _ (omega arith) c.loop-s.invariant c.mask_at.ensures

pub returns : goal.returns
unfolding stripe_masks
returns g c =
    filled_all _ _ c.loop-s.s _ 0 (omega arith) c.loop-s.invariant
    ∙ ap (λ E. stripe_masks E (g.R.ReadableShelf.holds c.args.shelf.now)) (setup_on_lem c.args.frame _ _ _ _ c.requires.cards c.requires.blocks)
