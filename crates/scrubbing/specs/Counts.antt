-- A scrub and a rebuild under way, and the bounds of their counts.
use Rattle.std.specs.Prelude.{ℕ, ◌+◌, ◌≤◌, Bool, true, false, cond, List, [], ◌∷◌, Some, None, Option, ◌==◌}
use Rattle.shelf.specs.Model.{Conduct, Write, write_of}
use Rattle.stripe.specs.declared.shapes.Finding.{Finding}
use Rattle.stripe.specs.View.{Slots}
use Rattle.runs.specs.declared.shapes.Patch.{Patch}
use Rattle.runs.specs.declared.shapes.RebuildCounts.{RebuildCounts}
use Rattle.runs.specs.declared.shapes.ScrubCounts.{ScrubCounts}
use Rattle.runs.specs.Scrubs.{Scrubbing}
use Rattle.runs.specs.Slots.{Rebuilding}

abbrev pub scrubbing : Conduct → ℕ → ScrubCounts → List Finding → Scrubbing
scrubbing k c n fs = record { conduct = k; cursor = c; counts = n; findings = fs }

abbrev pub rebuilding : Conduct → Slots → RebuildCounts → Rebuilding
rebuilding k σ n = record { conduct = k; slots = σ; counts = n }

-- no count of a scrub has passed n
pub record ScrubBelow (x : ScrubCounts) (n : ℕ) : Type 0 where
  pub looked : x.looked ≤ n
  pub clean : x.clean ≤ n
  pub mended : x.mended ≤ n
  pub short : x.short ≤ n
  pub lost : x.lost ≤ n

-- no count of a rebuild has passed n
pub record RebuildBelow (x : RebuildCounts) (n : ℕ) : Type 0 where
  pub moved : x.moved ≤ n
  pub mended : x.mended ≤ n
  pub lost : x.lost ≤ n

-- whether there is a write
abbrev pub any_write : List Write → Bool
any_write [] = false
any_write (w ∷ ws) = true

-- one more stripe, mended or lost
abbrev pub recounted_by : RebuildCounts → Bool → RebuildCounts
recounted_by n b =
    cond b (record { moved = n.moved + 1; mended = n.mended + 1; lost = n.lost })
    (record { moved = n.moved + 1; mended = n.mended; lost = n.lost + 1 })

-- the writes that a patch of stripe s makes at slot c: its block, if it is the slot's
abbrev pub refill_from : ℕ → ℕ → Option Patch → List Write
refill_from c s None = []
refill_from c s (Some p) = cond (p.slot == c) (write_of c s p.bytes ∷ []) []
