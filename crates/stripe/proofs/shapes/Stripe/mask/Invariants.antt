use Rattle.std.proofs.Common.{◌≡◌}
use Rattle.stripe.specs.Judge.{bad_slots}
use Rattle.stripe.specs.Masks.{mask_of}
use Rattle.stripe.specs.View.{seen_in}
use Rattle.stripe.proofs.shapes.Stripe.mask.Given as goal

abbrev pub invariant-loop-c : goal.invariant-loop-c
invariant-loop-c l = l.mask ≡ mask_of (bad_slots l.frame.width l.s (seen_in l.self) l.c)
