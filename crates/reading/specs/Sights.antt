-- What a read holds on its way.
use Rattle.std.specs.Prelude.{ℕ, cond, List, Some, None, Option}
use Rattle.block.specs.declared.shapes.Role.TheVariants.{Parity, Data}
use Rattle.block.specs.Shapes.{Verdict}
use Rattle.block.specs.Judging.{Setup}
use Rattle.stripe.specs.declared.shapes.Finding.{Finding}
use Rattle.stripe.specs.declared.shapes.Stripe.{Stripe}
use Rattle.stripe.specs.Findings.{findings_all, findings_quick}
use Rattle.stripe.specs.View.{View, stripe_of, as_view}
use Rattle.runs.specs.declared.shapes.Gathered.{Gathered}
use Rattle.runs.specs.Gather.{quick, gathered_quick, gathered_all}
use Rattle.runs.specs.Reads.{read_answer, found_buffer, rebuilt_buffer, tallied}
use Rattle.reading.specs.declared.shapes.Settled.{Settled}
use Rattle.reading.specs.declared.shapes.Sighted.{Sighted}

-- the block and its parity alone were looked at
abbrev pub sighted_quick : Verdict → Sighted
sighted_quick v = record { gathered = gathered_quick v; stripe = None }

-- all places were looked at
abbrev pub sighted_all : Setup → ℕ → Stripe → ℕ → Sighted
sighted_all E s t j = record { gathered = gathered_all E s (as_view t.parity t.«data») j; stripe = Some t }

-- what a read of data block j of stripe s makes of it, and the whole stripe if all places were looked at
unfoldable pub sighted : Setup → ℕ → View → ℕ → Sighted
sighted E s V j =
    cond (quick (V (Data j)) (V Parity) j) (sighted_quick (V (Data j))) (sighted_all E s (stripe_of V) j)

-- what a read of owner o gives, with the tally t so far
abbrev pub settled_of : Gathered → ℕ → ℕ → Settled
settled_of g t o = record {
  answer = read_answer g.obtained g.looks o;
  found = found_buffer (read_answer g.obtained g.looks o) g.obtained;
  rebuilt = rebuilt_buffer (read_answer g.obtained g.looks o) g.obtained;
  tally = tallied (read_answer g.obtained g.looks o) g.obtained t;
}

-- the findings of the whole stripe, or of data block j and parity alone
abbrev pub findings_from : ℕ → ℕ → ℕ → Option Stripe → Option ℕ → List Finding
findings_from d s j None m = findings_quick d s j
findings_from d s j (Some t) m = findings_all d s (as_view t.parity t.«data») m
