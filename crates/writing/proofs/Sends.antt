-- What is answered and handed down, from the prepared blocks. Assumes nothing.
use Rattle.std.proofs.Common.{◌≡◌, ℕ, suc, ◌+◌, Bool, true, false, cond, ltb, List, Ok, Err, Result, refl, ap, ◌∙◌, add-one}
use Rattle.block.specs.declared.refusal.Refusal.{Refusal}
use Rattle.block.specs.declared.refusal.Refusal.TheVariants.{VersionLimit}
use Rattle.block.specs.Judging.{Setup}
use Rattle.shelf.specs.Model.{Conduct, Content, after_all}
use Rattle.stripe.specs.declared.shapes.Finding.{Finding}
use Rattle.stripe.specs.declared.shapes.Plan.{Plan}
use Rattle.stripe.specs.declared.shapes.Plan.TheVariants.{Lost, BySum, ByAll}
use Rattle.stripe.specs.Renew.{base_version, new_data, new_parity}
use Rattle.stripe.specs.View.{Slots, View, view_of}
use Rattle.runs.specs.declared.shapes.Way.{Way}
use Rattle.runs.specs.declared.shapes.WriteAnswer.{WriteAnswer}
use Rattle.runs.specs.Done.{WriteDone}
use Rattle.runs.specs.Writes.{write_plan, parity_masked, write_looks, plan_answer, on_accept, write_at}
use Rattle.writing.specs.declared.shapes.Pair.{Pair}
use Rattle.writing.specs.declared.shapes.Prepared.{Prepared}
use Rattle.writing.specs.Prepare.{pair_of, ReadyBy, answered_by, pair_sent, sent_by}

-- both blocks of version v
abbrev pair_with : Setup → ℕ → View → ℕ → Plan → Bool → List ℕ → ℕ → ℕ → Pair
pair_with E s V j plan bad p o v = record { block = new_data E s j p o v; parity = new_parity E s V j plan bad p o v }

answered_if : (t : Bool) (n : ℕ) (x : Pair) → answered_by n (cond t (Ok x) (Err VersionLimit)) ≡ cond t (Ok (record { looks = n })) (Err VersionLimit)
answered_if true n x = refl
answered_if false n x = refl

pub answered_as : (plan : Plan) (bad : Bool) (n : ℕ) (E : Setup) (s : ℕ) (V : View) (j : ℕ) (p : List ℕ) (o : ℕ)
    → answered_by n (pair_of plan bad E s V j p o) ≡ plan_answer plan (base_version E.D V j) n
unfolding pair_of
answered_as Lost bad n E s V j p o = refl
answered_as BySum bad n E s V j p o = answered_if (ltb (base_version E.D V j) 4294967295) n _
answered_as ByAll bad n E s V j p o = answered_if (ltb (base_version E.D V j) 4294967295) n _

module _ (E : Setup) (σ : Slots) (s : ℕ) (V : View) (j : ℕ) (p : List ℕ) (o n : ℕ) where
  sent_if : (t : Bool) (plan : Plan) (bad : Bool) (b : ℕ)
      → sent_by E.D σ s j (cond t (Ok (pair_with E s V j plan bad p o (b + 1))) (Err VersionLimit))
      ≡ on_accept (cond t (Ok (record { looks = n })) (Err VersionLimit)) (pair_sent E.D σ s j (pair_with E s V j plan bad p o (suc b)))
  sent_if true plan bad b = ap (λ v. pair_sent E.D σ s j (pair_with E s V j plan bad p o v)) (add-one b)
  sent_if false plan bad b = refl

  pub sent_as : (plan : Plan) (bad : Bool)
      → sent_by E.D σ s j (pair_of plan bad E s V j p o)
      ≡ on_accept (plan_answer plan (base_version E.D V j) n) (pair_sent E.D σ s j (pair_with E s V j plan bad p o (suc (base_version E.D V j))))
  unfolding pair_of
  sent_as Lost bad = refl
  sent_as BySum bad = sent_if (ltb (base_version E.D V j) 4294967295) BySum bad (base_version E.D V j)
  sent_as ByAll bad = sent_if (ltb (base_version E.D V j) 4294967295) ByAll bad (base_version E.D V j)

-- a write that settled the prepared blocks did what its definition says
pub write_done : (E : Setup) (k : Content) (σ : Slots) (s j : ℕ) (p : List ℕ) (o : ℕ) (y : Way) (x : Prepared) (K K' : Conduct) (r : Result WriteAnswer Refusal) (fs : List Finding)
    → ReadyBy y E k σ s j p o x fs → r ≡ answered_by x.looks x.pair → K' ≡ after_all K (sent_by E.D σ s j x.pair) → WriteDone (write_at E k σ s j p o y) K K' r fs
unfolding write_at write_plan
write_done E k σ s j p o y x K K' r fs ready er ek =
    let V = view_of E k σ s in
    let plan = write_plan E s V j y in
    let bad = parity_masked E V j y in
    record {
      answer = er ∙ ap (λ (z : Prepared). answered_by z.looks z.pair) ready.prepared ∙ answered_as plan bad (write_looks E V j y) E s V j p o;
      findings = ready.findings;
      writes = ek ∙ ap (λ (z : Prepared). after_all K (sent_by E.D σ s j z.pair)) ready.prepared ∙ ap (after_all K) (sent_as E σ s V j p o (write_looks E V j y) plan bad);
    }
