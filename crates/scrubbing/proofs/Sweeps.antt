-- One more stripe of a scrub, and its end. Assumes nothing.
use Rattle.std.proofs.Common.{◌≡◌, ℕ, ◌+◌, ◌≤◌, cond, eqb, List, [], Ok, sym, refl, ap, ◌∙◌, add-one}
use Rattle.std.proofs.lemmas.Bool.{cond-true, le-leb, eq-eqb}
use Rattle.block.specs.Judging.{Setup}
use Rattle.shelf.specs.Model.{Conduct, after_all}
use Rattle.stripe.specs.declared.shapes.Finding.{Finding}
use Rattle.stripe.specs.View.{Slots}
use Rattle.runs.specs.declared.shapes.ScrubCounts.{ScrubCounts}
use Rattle.runs.specs.declared.shapes.Swept.{Swept}
use Rattle.runs.specs.Done.{ScrubDone}
use Rattle.runs.specs.Scrubs.{
  swept_of,
  sweep_writes,
  sweep_findings,
  counted,
  cursor_at,
  cursor_next,
  Scrubbing,
  sweep,
  sweeps,
  no_counts,
  scrub_start,
  scrub_end,
  scrub_answer,
}
use Rattle.scrubbing.specs.Counts.{scrubbing}

-- A scrub of n stripes under way, of which i are done: the findings are filled at the last stripe only.
pub record SoFar (k : Conduct) (c : ℕ) (m : ScrubCounts) (fs : List Finding) (n i : ℕ) (x : Scrubbing) : Type 0 where
  pub same : scrubbing k c m x.findings ≡ x
  pub filled : i ≡ n → fs ≡ x.findings

pub so_far_none : (E : Setup) (σ : Slots) (k : Conduct) (c : ℕ) (fs : List Finding) (n : ℕ) → SoFar k c no_counts fs n 0 (sweeps E σ 0 (scrub_start k c fs))
unfolding sweeps
so_far_none E σ k c fs n = record { same = refl; filled = λ _. refl }

-- the state after one more stripe, which the cursor names
sweeps_more : (E : Setup) (σ : Slots) (i : ℕ) (x₀ : Scrubbing) (k k' : Conduct) (c c' s : ℕ) (n n' : ScrubCounts) (fs fs' : List Finding) (w : Swept)
    → scrubbing k c n fs ≡ sweeps E σ i x₀ → s ≡ cursor_at E.S c → w ≡ swept_of E (k []) σ s → k' ≡ after_all k (sweep_writes E (k []) σ s)
    → fs' ≡ sweep_findings E (k []) σ s → c' ≡ cursor_next E.S s → n' ≡ counted n w
    → scrubbing k' c' n' fs' ≡ sweeps E σ (i + 1) x₀
unfolding sweeps sweep
sweeps_more E σ i x₀ k k' c c' s n n' fs fs' w inv es ew ek ef ec en = rw (add-one i, ← inv, ek, ef, ec, en, ew, es) refl

-- one more stripe, which fills the findings if it is the last
pub so_far_more : (E : Setup) (σ : Slots) (i n : ℕ) (x₀ : Scrubbing) (k k' : Conduct) (c c' s : ℕ) (m m' : ScrubCounts) (fs fs' : List Finding) (w : Swept)
    → SoFar k c m fs n i (sweeps E σ i x₀) → s ≡ cursor_at E.S c → w ≡ swept_of E (k []) σ s → k' ≡ after_all k (sweep_writes E (k []) σ s)
    → fs' ≡ cond (eqb (i + 1) n) (sweep_findings E (k []) σ s) fs → c' ≡ cursor_next E.S s → m' ≡ counted m w
    → SoFar k' c' m' fs' n (i + 1) (sweeps E σ (i + 1) x₀)
so_far_more E σ i n x₀ k k' c c' s m m' fs fs' w inv es ew ek ef ec em =
    let next = sweeps_more E σ i x₀ k k' c c' s m m' (sweeps E σ i x₀).findings (sweep_findings E (k []) σ s) w inv.same es ew ek refl ec em in
    let found : sweep_findings E (k []) σ s ≡ (sweeps E σ (i + 1) x₀).findings = ap (λ (x : Scrubbing). x.findings) next in
    record {
      same = ap (scrubbing k' c' m') (sym found) ∙ next;
      filled = λ last. ef ∙ cond-true _ _ _ (eq-eqb (i + 1) n last) ∙ found;
    }

pub so_far_all : (k : Conduct) (c : ℕ) (m : ScrubCounts) (fs : List Finding) (n i : ℕ) (x : Scrubbing) → i ≡ n → SoFar k c m fs n i x → scrubbing k c m fs ≡ x
so_far_all k c m fs n i x e f = ap (scrubbing k c m) (f.filled e) ∙ f.same

module _ (E : Setup) (k : Conduct) (σ : Slots) (c n : ℕ) (fs : List Finding) where
  -- the end of an accepted scrub
  pub scrub_done : (i : ℕ) (k' : Conduct) (c' : ℕ) (m : ScrubCounts) (fs' : List Finding) → n ≤ 65536 → i ≡ n
      → scrubbing k' c' m fs' ≡ sweeps E σ i (scrub_start k c fs) → ScrubDone (scrub_end E k σ c n fs) k' c' fs'
  unfolding scrub_end
  scrub_done i k' c' m fs' h q e = rw (le-leb n 65536 h, ← q, ← e) record { conduct = refl; cursor = refl; findings = refl }

  pub scrub_ok : (i : ℕ) (k' : Conduct) (c' : ℕ) (m : ScrubCounts) (fs' : List Finding) → n ≤ 65536 → i ≡ n
      → scrubbing k' c' m fs' ≡ sweeps E σ i (scrub_start k c fs) → Ok m ≡ scrub_answer E k σ c n fs
  unfolding scrub_answer scrub_end
  scrub_ok i k' c' m fs' h q e = rw (le-leb n 65536 h, ← q, ← e) refl
