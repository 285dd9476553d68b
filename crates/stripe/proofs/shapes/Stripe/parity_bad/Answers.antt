use Rattle.std.proofs.Common.{rules}
use Rattle.stripe.specs.View.{seen_in}
use Rattle.stripe.proofs.Leads.{any_up_to}
use Rattle.stripe.proofs.shapes.Stripe.parity_bad.Goals as goal

pub returns-in-Ok : goal.returns-in-Ok
returns-in-Ok c = let e = any_up_to (seen_in c.args.self.now) c.in-Ok.p c.args.width in search rules
