-- What a call leaves, by its definition: its answer, the conduct of the shelf, every buffer and every finding.
use Rattle.std.specs.Prelude.{◌≡◌, ℕ, ◌<◌, List, Some, None, Option, Result}
use Rattle.block.specs.declared.refusal.Refusal.{Refusal}
use Rattle.shelf.specs.Model.{Conduct, after_all}
use Rattle.stripe.specs.declared.shapes.Finding.{Finding}
use Rattle.stripe.specs.View.{Slots}
use Rattle.runs.specs.declared.shapes.LookAnswer.{LookAnswer}
use Rattle.runs.specs.declared.shapes.Patch.{Patch}
use Rattle.runs.specs.declared.shapes.ReadAnswer.{ReadAnswer}
use Rattle.runs.specs.declared.shapes.WriteAnswer.{WriteAnswer}
use Rattle.runs.specs.Looks.{Looking}
use Rattle.runs.specs.Reads.{Reading}
use Rattle.runs.specs.Scrubs.{Scrubbing}
use Rattle.runs.specs.Slots.{Rebuilding}
use Rattle.runs.specs.Writes.{Writing}

-- a patch names one of the first n slots
abbrev pub PatchBelow : ℕ → Option Patch → Type 0
PatchBelow n None = Unit {0}
PatchBelow n (Some p) = p.slot < n

-- from a shelf of conduct k to one of conduct k': the answer r, the buffers f and b, the findings fs and the tally t
pub record ReadDone (x : Reading) (k k' : Conduct) (r : Result ReadAnswer Refusal) (f b : List ℕ) (fs : List Finding) (t : ℕ) : Type 0 where
  pub answer : r ≡ x.answer
  pub found : f ≡ x.found
  pub rebuilt : b ≡ x.rebuilt
  pub findings : fs ≡ x.findings
  pub writes : k' ≡ after_all k x.writes
  pub tally : t ≡ x.tally

pub record WriteDone (x : Writing) (k k' : Conduct) (r : Result WriteAnswer Refusal) (fs : List Finding) : Type 0 where
  pub answer : r ≡ x.answer
  pub findings : fs ≡ x.findings
  pub writes : k' ≡ after_all k x.writes

pub record ScrubDone (x : Scrubbing) (k' : Conduct) (c : ℕ) (fs : List Finding) : Type 0 where
  pub conduct : k' ≡ x.conduct
  pub cursor : c ≡ x.cursor
  pub findings : fs ≡ x.findings

pub record RebuildDone (x : Rebuilding) (k' : Conduct) (σ : Slots) : Type 0 where
  pub conduct : k' ≡ x.conduct
  pub slots : σ ≡ x.slots

pub record LookDone (x : Looking) (r : Result LookAnswer Refusal) (o : List ℕ) (t : ℕ) : Type 0 where
  pub answer : r ≡ x.answer
  pub out : o ≡ x.out
  pub tally : t ≡ x.tally
