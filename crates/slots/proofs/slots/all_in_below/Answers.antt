use Rattle.std.proofs.Common.{sym, ap, ◌∙◌}
use Rattle.stripe.specs.declared.shapes.SlotState.TheVariants.{In}
use Rattle.stripe.proofs.Rows.{in_front}
use Rattle.runs.specs.Slots.{is_in}
use Rattle.stripe.specs.View.{slots_in}
use Rattle.slots.proofs.Events.{in_more, out_more}
use Rattle.slots.proofs.slots.all_in_below.Goals as goal
use Rattle.slots.proofs.slots.all_in_below.Goals.{then-is_in, else-is_in}

pub loop-state-preserved : goal.loop-state-preserved
loop-state-preserved c =
    let σ = slots_in c.args.states.now in
    let here = ap is_in (in_front c.args.states.now c.args.cards c.loop-state.state-index _ In c.loop-state-test.true) in
    elim c.if-is_in.branch [
      | then-is_in w ↦ w.all-is ∙ c.loop-state.invariant ∙ sym (in_more σ c.loop-state.state-index (sym here ∙ sym c.is_in.ensures ∙ w.if-is_in.true))
      | else-is_in w ↦ w.all-is ∙ w.if-is_in.false ∙ sym (out_more σ c.loop-state.state-index (sym here ∙ sym c.is_in.ensures ∙ w.if-is_in.false))
    ]
