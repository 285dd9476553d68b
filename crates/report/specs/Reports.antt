-- The report of one stripe.
use Rattle.std.specs.Prelude.{ℕ, ◌+◌, cond, None, Ok, Err, Result, ◌==◌, nat_lt}
use Rattle.block.specs.declared.refusal.Refusal.{Refusal}
use Rattle.block.specs.declared.refusal.Refusal.TheVariants.{Shape, Place}
use Rattle.block.specs.Judging.{Setup}
use Rattle.block.specs.Places.{parity_slot}
use Rattle.shelf.specs.Model.{Content}
use Rattle.stripe.specs.Findings.{findings_all}
use Rattle.stripe.specs.Judge.{mask_number}
use Rattle.stripe.specs.View.{View, all_in, view_of}
use Rattle.report.specs.declared.shapes.StripeReport.{StripeReport}

-- the report of a stripe of this view
abbrev pub report_by : ℕ → ℕ → View → StripeReport
report_by d s V = record {
  stripe = s;
  cards = d + 1;
  parity = parity_slot d s;
  mask = mask_number d s V;
  findings = findings_all d s V None;
}

-- with all slots in
abbrev pub report_at : Setup → Content → ℕ → StripeReport
report_at E k s = report_by E.D s (view_of E k all_in s)

abbrev pub stripe_report : Setup → Content → ℕ → Result StripeReport Refusal
stripe_report E k s = cond (E.tag == 0) (Err Shape) (cond (nat_lt s E.S) (Ok (report_at E k s)) (Err Place))
