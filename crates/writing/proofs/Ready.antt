-- What a write makes ready, by what it looked at. Assumes nothing.
use Rattle.std.proofs.Common.{◌≡◌, ℕ, true, false, List, None, ap, ◌∙◌, ap₂}
use Rattle.block.specs.declared.shapes.Role.TheVariants.{Parity, Data}
use Rattle.block.specs.Judging.{Setup}
use Rattle.shelf.specs.Model.{Content}
use Rattle.stripe.specs.declared.shapes.Finding.{Finding}
use Rattle.stripe.specs.Findings.{findings_all, findings_quick}
use Rattle.stripe.specs.View.{Slots, View, view_of}
use Rattle.runs.specs.declared.shapes.Way.TheVariants.{Subtractive, Additive}
use Rattle.runs.specs.Gather.{quick}
use Rattle.runs.specs.Reads.{findings_by}
use Rattle.writing.specs.declared.shapes.Prepared.{Prepared}
use Rattle.writing.specs.Prepare.{prepared_by, ReadyBy}
use Rattle.writing.proofs.Two.{pair_two}

module _ (E F : Setup) (k : Content) (σ : Slots) (s j : ℕ) (p : List ℕ) (o : ℕ) (V : View) (x : Prepared) (fs : List Finding) where
  -- all places were looked at
  pub ready_all : F ≡ E → V ≡ view_of E k σ s → x ≡ prepared_by false F s V j p o → fs ≡ findings_all F.D s V None → ReadyBy Additive E k σ s j p o x fs
  ready_all e v h f = record {
    prepared = h ∙ ap₂ (λ G W. prepared_by false G s W j p o) e v;
    findings = f ∙ ap₂ (λ G W. findings_all G.D s W None) e v;
  }

  -- two places were looked at, and they suffice
  pub ready_two : F ≡ E → V (Data j) ≡ view_of E k σ s (Data j) → V Parity ≡ view_of E k σ s Parity → true ≡ quick (V (Data j)) (V Parity) j
      → x ≡ prepared_by true F s V j p o → fs ≡ findings_quick F.D s j → ReadyBy Subtractive E k σ s j p o x fs
  ready_two e d q t h f =
      let W = view_of E k σ s in
      let t' = t ∙ ap₂ (λ b r. quick b r j) d q in
      record {
        prepared =
            h ∙ ap (λ G. prepared_by true G s V j p o) e
            ∙ ap (λ z. record { looks = 2; pair = z }) (pair_two E s V W j p o d q)
            ∙ ap (λ b. prepared_by b E s W j p o) t';
        findings = f ∙ ap (λ G. findings_quick G.D s j) e ∙ ap (λ b. findings_by b E.D s W j None) t';
      }
