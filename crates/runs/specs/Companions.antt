-- Beside the law: what the calls make good, what they leave bad, and how the calls of many stripes are steps of a run.
use Rattle.std.specs.Prelude.{◌≡◌, ℕ, zero, suc, ◌/◌, ◌%◌, ◌^◌, ◌<◌, ◌≤◌, true, false, ◌⊎◌, List, [], None, ◌≢◌, slice_index, Ok}
use Rattle.block.specs.declared.shapes.Role.{Role}
use Rattle.block.specs.declared.shapes.Role.TheVariants.{Parity, Data}
use Rattle.block.specs.Judging.{Setup, alone}
use Rattle.block.specs.Layout.{version_of}
use Rattle.block.specs.Places.{slot_of}
use Rattle.stripe.specs.declared.shapes.Finding.{Finding}
use Rattle.stripe.specs.View.{View, takes_at, view_of}
use Rattle.runs.specs.declared.shapes.Way.{Way}
use Rattle.runs.specs.declared.shapes.Way.TheVariants.{Subtractive, Additive}
use Rattle.runs.specs.Book.{rec_at}
use Rattle.runs.specs.Law.{InRange, FailedWrite}
use Rattle.runs.specs.Runs.{
  Step,
  write,
  scrub,
  rebuild,
  World,
  Run,
  Orderly,
  Proper,
  Good,
  OnlyBad,
  InStripe,
  Starts,
  accepted,
  handed,
  next,
  cell_of,
}
use Rattle.runs.specs.Scrubs.{Scrubbing, cursor_at, scrub_end}
use Rattle.runs.specs.Slots.{Rebuilding, rebuild_refused, rebuild_end}
use Rattle.runs.specs.Writes.{swift, parity_write}

-- of every world of a run in which a step may begin
abbrev pub Along : (Setup → World → Type 0) → Type 0
Along P = (E : Setup) → InRange E → (w₀ : World) → Starts E w₀ → (w : World) → Run E w₀ w → Orderly E w → P E w

-- card c did as told all the writes that a step handed to it
abbrev pub DidAll : Setup → World → Step → ℕ → Type 0
DidAll E w k c = FailedWrite E w.shelf (handed E w.shelf w.array k) c → ⊥

-- a block's place takes writes
abbrev pub Takes : Setup → World → ℕ → Role → Type 0
Takes E w s r = takes_at (w.book.slots (slot_of E.D s r)) s ≡ true

-- stripe s as the array sees it
abbrev pub seen_stripe : Setup → World → ℕ → View
seen_stripe E w s = view_of E (w.shelf []) w.array.slots s

-- the stripe that the next scrub looks at
abbrev pub scrub_at : Setup → World → ℕ
scrub_at E w = cursor_at E.S w.array.cursor

-- A scrub makes a stripe's only bad block good, if its place takes writes and its card does as told.
abbrev pub ScrubMends : Type 0
ScrubMends =
    Along
    (λ E w.
    (r : Role) → InStripe E r → OnlyBad E w (scrub_at E w) r → Takes E w (scrub_at E w) r
    → DidAll E w scrub (slot_of E.D (scrub_at E w) r) → Good E (next E w scrub) (scrub_at E w) r)

-- what a write to data block j of stripe s makes anew: that block; and parity, if it was good or the write looks at all places
abbrev pub Renewed : Setup → World → ℕ → ℕ → Way → Role → Type 0
Renewed E w s j y Parity = Good E w s Parity ⊎ (swift y (seen_stripe E w s) j ≡ false)
Renewed E w s j y (Data k) = k ≡ j

-- The blocks of an accepted write are good afterwards, whatever they were, if their places take writes and their cards do as told.
abbrev pub WriteLands : Type 0
WriteLands =
    Along
    (λ E w.
    (L : ℕ) (p : List ℕ) (o : ℕ) (y : Way) (fs : List Finding) → accepted E w.shelf w.array (write L p o y fs) ≡ true → (r : Role)
    → Renewed E w (L / E.D) (L % E.D) y r → Takes E w (L / E.D) r
    → DidAll E w (write L p o y fs) (slot_of E.D (L / E.D) r) → Good E (next E w (write L p o y fs)) (L / E.D) r)

-- In a stripe whose blocks are all good, both ways of a write make the same parity block.
abbrev pub SameParity : Type 0
SameParity =
    Along
    (λ E w.
    (s j : ℕ) (p : List ℕ) (o : ℕ) → s < E.S → j < E.D → ((r : Role) → InStripe E r → Good E w s r)
    → parity_write E s (seen_stripe E w s) j Subtractive p o ≡ parity_write E s (seen_stripe E w s) j Additive p o)

-- the parity block b of stripe s is behind at index k: readable, no version higher than its record's, and version k lower
pub record BehindAt (E : Setup) (w : World) (s k : ℕ) (b : List ℕ) : Type 0 where
  pub readable : alone E s Parity (cell_of E w s Parity) ≡ Ok b
  pub highest : (i : ℕ) → i < E.D → version_of b i ≤ (rec_at E w.book.records s i).version
  pub lower : version_of b k < (rec_at E w.book.records s k).version

-- Parity that is behind at another index is still behind there after an accepted write that took the quick path, if its card does as told.
abbrev pub BehindStays : Type 0
BehindStays =
    Along
    (λ E w.
    (L : ℕ) (p : List ℕ) (o : ℕ) (fs : List Finding) → Proper E (write L p o Subtractive fs)
    → accepted E w.shelf w.array (write L p o Subtractive fs) ≡ true
    → swift Subtractive (seen_stripe E w (L / E.D)) (L % E.D) ≡ true → (k : ℕ) (b : List ℕ) → k < E.D → (k ≢ L % E.D)
    → ((i : ℕ) → slice_index b i < 2 ^ 8) → BehindAt E w (L / E.D) k b
    → DidAll E w (write L p o Subtractive fs) (slot_of E.D (L / E.D) Parity)
    → (b' : List ℕ) × BehindAt E (next E w (write L p o Subtractive fs)) (L / E.D) k b')

-- n stripes of a scrub, or of a rebuild of slot c, as steps
abbrev pub scrubs : Setup → ℕ → World → World
scrubs E zero w = w
scrubs E (suc n) w = next E (scrubs E n w) scrub

abbrev pub rebuilds : Setup → ℕ → ℕ → World → World
rebuilds E c zero w = w
rebuilds E c (suc n) w = next E (rebuilds E c n w) (rebuild c)

-- where a scrub of n stripes ends, n steps end
pub record ScrubbedBySteps (E : Setup) (w : World) (n : ℕ) (x : Scrubbing) : Type 0 where
  pub conduct : x.conduct ≡ (scrubs E n w).shelf
  pub cursor : x.cursor ≡ (scrubs E n w).array.cursor
  pub slots : (scrubs E n w).array.slots ≡ w.array.slots
  pub book : (scrubs E n w).book ≡ w.book

abbrev pub ScrubIsSteps : Type 0
ScrubIsSteps =
    (E : Setup) (w : World) (n : ℕ) (fs : List Finding) → n ≤ 65536
    → ScrubbedBySteps E w n (scrub_end E w.shelf w.array.slots w.array.cursor n fs)

-- where an accepted rebuild of n stripes ends, n steps end
pub record RebuiltBySteps (E : Setup) (w : World) (c n : ℕ) (x : Rebuilding) : Type 0 where
  pub conduct : x.conduct ≡ (rebuilds E c n w).shelf
  pub slots : x.slots ≡ (rebuilds E c n w).array.slots

abbrev pub RebuildIsSteps : Type 0
RebuildIsSteps =
    (E : Setup) (w : World) (c n : ℕ) → rebuild_refused E w.array.slots c n ≡ None
    → RebuiltBySteps E w c n (rebuild_end E w.shelf w.array.slots c n)
