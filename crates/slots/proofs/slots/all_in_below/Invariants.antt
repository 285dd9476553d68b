use Rattle.std.proofs.Common.{◌≡◌}
use Rattle.stripe.specs.View.{slots_in}
use Rattle.runs.specs.Slots.{all_in_below}
use Rattle.slots.proofs.slots.all_in_below.Given as goal

abbrev pub invariant-loop-state : goal.invariant-loop-state
invariant-loop-state l = l.all ≡ all_in_below l.state-index (slots_in l.states)
