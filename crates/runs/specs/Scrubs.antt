-- A scrub, stripe by stripe.
use Rattle.std.specs.Prelude.{ℕ, zero, suc, ◌+◌, cond, List, [], Ok, Err, Result, nat_le, nat_lt}
use Rattle.block.specs.declared.refusal.Refusal.{Refusal}
use Rattle.block.specs.declared.refusal.Refusal.TheVariants.{Place}
use Rattle.block.specs.Judging.{Setup}
use Rattle.block.specs.Places.{slot_of}
use Rattle.shelf.specs.Model.{Conduct, Content, Write, after_all}
use Rattle.stripe.specs.declared.shapes.Decision.{Decision}
use Rattle.stripe.specs.declared.shapes.Decision.TheVariants.{Clean as NoneBad, Only, Lost as TwoBad}
use Rattle.stripe.specs.declared.shapes.Finding.{Finding}
use Rattle.stripe.specs.Findings.{findings_all}
use Rattle.stripe.specs.Judge.{decision}
use Rattle.stripe.specs.View.{Slots, takes_at, view_of}
use Rattle.runs.specs.declared.shapes.ScrubCounts.{ScrubCounts}
use Rattle.runs.specs.declared.shapes.Swept.{Swept}
use Rattle.runs.specs.declared.shapes.Swept.TheVariants.{Clean, Mended, Short, Lost}
use Rattle.runs.specs.Gather.{patch_of, patch_writes, patched_slot}

abbrev pub swept_by : ℕ → Slots → ℕ → Decision → Swept
swept_by d σ s NoneBad = Clean
swept_by d σ s (Only r) = cond (takes_at (σ (slot_of d s r)) s) Mended Short
swept_by d σ s TwoBad = Lost

-- what a scrub does at stripe s
unfoldable pub swept_of : Setup → Content → Slots → ℕ → Swept
swept_of E k σ s = swept_by E.D σ s (decision E.D s (view_of E k σ s))

unfoldable pub sweep_writes : Setup → Content → Slots → ℕ → List Write
sweep_writes E k σ s = patch_writes σ s (patch_of E s (view_of E k σ s))

unfoldable pub sweep_findings : Setup → Content → Slots → ℕ → List Finding
sweep_findings E k σ s =
    findings_all E.D s (view_of E k σ s) (patched_slot σ s (patch_of E s (view_of E k σ s)))

abbrev pub counted : ScrubCounts → Swept → ScrubCounts
counted n Clean = record { looked = n.looked + 1; clean = n.clean + 1; mended = n.mended; short = n.short; lost = n.lost }
counted n Mended = record { looked = n.looked + 1; clean = n.clean; mended = n.mended + 1; short = n.short; lost = n.lost }
counted n Short = record { looked = n.looked + 1; clean = n.clean; mended = n.mended; short = n.short + 1; lost = n.lost }
counted n Lost = record { looked = n.looked + 1; clean = n.clean; mended = n.mended; short = n.short; lost = n.lost + 1 }

-- the stripe that a cursor names, of n; a cursor beyond the array counts as 0
abbrev pub cursor_at : ℕ → ℕ → ℕ
cursor_at n c = cond (nat_lt c n) c 0

abbrev pub cursor_next : ℕ → ℕ → ℕ
cursor_next n s = cond (nat_lt (s + 1) n) (s + 1) 0

-- a scrub under way
pub record Scrubbing : Type 0 where
  pub conduct : Conduct
  pub cursor : ℕ
  pub counts : ScrubCounts
  pub findings : List Finding

-- one stripe
unfoldable pub sweep : Setup → Slots → Scrubbing → Scrubbing
sweep E σ x = record {
  conduct = after_all x.conduct (sweep_writes E (x.conduct []) σ (cursor_at E.S x.cursor));
  cursor = cursor_next E.S (cursor_at E.S x.cursor);
  counts = counted x.counts (swept_of E (x.conduct []) σ (cursor_at E.S x.cursor));
  findings = sweep_findings E (x.conduct []) σ (cursor_at E.S x.cursor);
}

-- the one-stripe step, repeated
unfoldable pub sweeps : Setup → Slots → ℕ → Scrubbing → Scrubbing
sweeps E σ zero x = x
sweeps E σ (suc n) x = sweep E σ (sweeps E σ n x)

abbrev pub no_counts : ScrubCounts
no_counts = record { looked = 0; clean = 0; mended = 0; short = 0; lost = 0 }

abbrev pub scrub_start : Conduct → ℕ → List Finding → Scrubbing
scrub_start k c fs = record { conduct = k; cursor = c; counts = no_counts; findings = fs }

-- a scrub of n stripes from a cursor
unfoldable pub scrub_end : Setup → Conduct → Slots → ℕ → ℕ → List Finding → Scrubbing
scrub_end E k σ c n fs = cond (nat_le n 65536) (sweeps E σ n (scrub_start k c fs)) (scrub_start k c fs)

unfoldable pub scrub_answer : Setup → Conduct → Slots → ℕ → ℕ → List Finding → Result ScrubCounts Refusal
scrub_answer E k σ c n fs = cond (nat_le n 65536) (Ok (scrub_end E k σ c n fs).counts) (Err Place)
