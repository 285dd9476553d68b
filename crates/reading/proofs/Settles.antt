-- The parts of a read come to the read. Assumes nothing.
use Rattle.std.proofs.Common.{◌≡◌, ℕ, ◌≤◌, Bool, true, false, cond, ◌&&◌, List, length, Ok, Option, Result, refl, ap, ◌∙◌, ap₂}
use mathlib.Core.Path.{subst⁻¹}
use Rattle.std.proofs.lemmas.Bool.{cond-true, eq-eqb}
use Rattle.block.specs.declared.refusal.Refusal.{Refusal}
use Rattle.block.specs.declared.shapes.Position.{Position}
use Rattle.block.specs.declared.shapes.Role.TheVariants.{Parity, Data}
use Rattle.block.specs.Judging.{Setup}
use Rattle.block.specs.Places.{position_of}
use Rattle.shelf.specs.Model.{Content, Conduct, after_all}
use Rattle.stripe.specs.declared.shapes.Finding.{Finding}
use Rattle.stripe.specs.Findings.{findings_all}
use Rattle.stripe.specs.View.{Slots, View, view_of, stripe_of}
use Rattle.stripe.proofs.Views.{as_view_lem}
use Rattle.runs.specs.declared.shapes.Gathered.{Gathered}
use Rattle.runs.specs.declared.shapes.Patch.{Patch}
use Rattle.runs.specs.declared.shapes.ReadAnswer.{ReadAnswer}
use Rattle.runs.specs.Done.{ReadDone}
use Rattle.runs.specs.Gather.{quick, patch_writes, patched_slot, gathered_quick, gathered_all, gathered}
use Rattle.runs.specs.Reads.{Reading, read_patch, findings_by, read_at, read_from, read_call}
use Rattle.reading.specs.declared.shapes.Settled.{Settled}
use Rattle.reading.specs.declared.shapes.Sighted.{Sighted}
use Rattle.reading.specs.Sights.{sighted_quick, sighted_all, sighted, settled_of, findings_from}

module _ (E : Setup) (h : Content) (σ : Slots) (s j : ℕ) (w : E.D ≤ 7) where
  abbrev V : View
  V = view_of E h σ s

  -- what a sight makes of the stripe
  pub sighted_gathered : (sighted E s V j).gathered ≡ gathered E s V j
  unfolding sighted gathered
  sighted_gathered = by (quick (V (Data j)) (V Parity) j)
    where
      by : (b : Bool)
          → (cond b (sighted_quick (V (Data j))) (sighted_all E s (stripe_of V) j)).gathered
          ≡ cond b (gathered_quick (V (Data j))) (gathered_all E s V j)
      by true = refl
      by false = ap (λ (X : View). gathered_all E s X j) (as_view_lem E h σ s w)

  -- the findings of what was sighted
  pub sighted_findings : (m : Option ℕ) → findings_from E.D s j (sighted E s V j).stripe m
      ≡ findings_by (quick (V (Data j)) (V Parity) j) E.D s V j m
  unfolding sighted
  sighted_findings m = by (quick (V (Data j)) (V Parity) j)
    where
      by : (b : Bool)
          → findings_from E.D s j (cond b (sighted_quick (V (Data j))) (sighted_all E s (stripe_of V) j)).stripe m
          ≡ findings_by b E.D s V j m
      by true = refl
      by false = ap (λ (X : View). findings_all E.D s X m) (as_view_lem E h σ s w)

  -- the steps of a read are the read
  pub done_from : (t o : ℕ) (on : Bool) (X : Sighted) (y : Settled) (p : Option Patch) (m : Option ℕ) (k k' : Conduct) (f b : List ℕ) (fs : List Finding) (n : ℕ)
      → X ≡ sighted E s V j → y ≡ settled_of X.gathered t o → p ≡ read_patch on y.answer X.gathered.patch
      → m ≡ patched_slot σ s p → k' ≡ after_all k (patch_writes σ s p) → fs ≡ findings_from E.D s j X.stripe m
      → f ≡ y.found → b ≡ y.rebuilt → n ≡ y.tally
      → ReadDone (read_at E h σ t s j o on) k k' y.answer f b fs n
  unfolding read_at
  done_from t o on X y p m k k' f b fs n eX ey ep em ek es ef eb en =
      let G = gathered E s V j in
      let eG : X.gathered ≡ G = ap (λ (x : Sighted). x.gathered) eX ∙ sighted_gathered in
      let ez : y ≡ settled_of G t o = ey ∙ ap (λ (x : Gathered). settled_of x t o) eG in
      let eq : p ≡ read_patch on (settled_of G t o).answer G.patch =
      ep ∙ ap₂ (λ (x : Settled) (z : Gathered). read_patch on x.answer z.patch) ez eG in
      record {
        answer = ap (λ (x : Settled). x.answer) ez;
        found = ef ∙ ap (λ (x : Settled). x.found) ez;
        rebuilt = eb ∙ ap (λ (x : Settled). x.rebuilt) ez;
        findings = es ∙ ap₂ (λ (x : Sighted) z. findings_from E.D s j x.stripe z) eX (em ∙ ap (patched_slot σ s) eq) ∙ sighted_findings _;
        writes = ek ∙ ap (λ x. after_all k (patch_writes σ s x)) eq;
        tally = en ∙ ap (λ (x : Settled). x.tally) ez;
      }

-- the read of a position in the array is the read of its address
pub done_within : (E : Setup) (h : Content) (σ : Slots) (t L o : ℕ) (on : Bool) (f b : List ℕ) (fs : List Finding) (a : Position) {k k' : Conduct} {r : Result ReadAnswer Refusal} {f' b' : List ℕ} {fs' : List Finding} {t' : ℕ}
    → length f ≡ 128 → length b ≡ 128 → position_of E.D E.S L ≡ Ok a
    → ReadDone (read_at E h σ t a.stripe a.index o on) k k' r f' b' fs' t'
    → ReadDone (read_call E h σ t L o on f b fs) k k' r f' b' fs' t'
unfolding read_call
done_within E h σ t L o on f b fs a {k} {k'} {r} {f'} {b'} {fs'} {t'} lf lb p d =
    subst⁻¹ (λ (x : Reading). ReadDone x k k' r f' b' fs' t')
    (cond-true _ _ _ (ap₂ ◌&&◌ (eq-eqb _ _ lf) (eq-eqb _ _ lb)) ∙ ap (read_from E h σ t o on f b fs) p) d
