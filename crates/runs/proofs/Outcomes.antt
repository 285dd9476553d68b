-- What an accepted write tells, and what a refused one leaves.
use Rattle.std.proofs.Common.{◌≡◌, ℕ, suc, ◌*◌, ◌/◌, ◌%◌, ◌^◌, ◌<◌, ◌≤◌, true, false, eqb, ltb, ◌⊎◌, List, [], length, Ok, Err, Result, sym, refl, ap, ◌∙◌, inl, inr, arith}
use Rattle.std.proofs.lemmas.Bool.{eq-eqb, ne_eqb, le-ltb, ltb-true, cases_eq, cases_Bool, cases_lt, cond-true, cond-false, both_ways}
use Rattle.block.specs.declared.refusal.Refusal.{Refusal}
use Rattle.block.specs.declared.refusal.Refusal.TheVariants.{Length, NoOwner, Address, VersionLimit}
use Rattle.block.specs.declared.shapes.Position.{Position}
use Rattle.block.specs.Judging.{Setup}
use Rattle.block.specs.Places.{position_of}
use Rattle.shelf.specs.Model.{Content, Write}
use Rattle.stripe.specs.declared.shapes.Finding.{Finding}
use Rattle.stripe.specs.declared.shapes.Plan.{Plan}
use Rattle.stripe.specs.declared.shapes.Plan.TheVariants.{Lost as NoPlan, BySum, ByAll}
use Rattle.stripe.specs.Renew.{base_version}
use Rattle.stripe.specs.View.{Slots, View, view_of}
use Rattle.runs.specs.declared.shapes.Way.{Way}
use Rattle.runs.specs.declared.shapes.WriteAnswer.{WriteAnswer}
use Rattle.runs.specs.Runs.{is_ok}
use Rattle.runs.specs.Writes.{Writing, write_plan, write_looks, version_checked, plan_answer, new_version, pair_writes, on_accept, write_at, refused_write, write_from, write_call}
use Rattle.runs.proofs.Readings.{position_is}

-- what an accepted write tells
pub record Accepted (E : Setup) (V : View) (σ : Slots) (L : ℕ) (p : List ℕ) (o : ℕ) (y : Way) (ws : List Write) : Type 0 where
  pub long : length p ≡ 80
  pub there : L < E.D * E.S
  pub planned : write_plan E (L / E.D) V (L % E.D) y ≡ NoPlan → ⊥
  pub small : new_version E V (L % E.D) < 2 ^ 32
  pub pair : ws ≡ pair_writes E σ (L / E.D) V (L % E.D) y p o

version_small : (v n : ℕ) → is_ok (version_checked v n) ≡ true → suc v < 2 ^ 32
version_small v n t = go (cases_Bool (ltb v 4294967295))
  where
    go : (ltb v 4294967295 ≡ true) ⊎ (ltb v 4294967295 ≡ false) → suc v < 2 ^ 32
    go (inl h) = let l : v < 4294967295 = ltb-true v 4294967295 h in omega arith
    go (inr h) = absurd (both_ways false refl (sym (ap is_ok (cond-false (ltb v 4294967295) _ (Err VersionLimit) h)) ∙ t))

plan_told : (p : Plan) (v n : ℕ) → is_ok (plan_answer p v n) ≡ true → (p ≡ NoPlan → ⊥) × (suc v < 2 ^ 32)
plan_told NoPlan v n t = cc
plan_told BySum v n t = (λ e. cc, version_small v n t)
plan_told ByAll v n t = (λ e. cc, version_small v n t)

-- a refused write hands down nothing
on_refused : (a : Result WriteAnswer Refusal) (ws : List Write) → is_ok a ≡ false → on_accept a ws ≡ []
on_refused (Ok x) ws t = cc
on_refused (Err r) ws t = refl

on_accepted : (a : Result WriteAnswer Refusal) (ws : List Write) → is_ok a ≡ true → on_accept a ws ≡ ws
on_accepted (Ok x) ws t = refl
on_accepted (Err r) ws t = cc

module _ (E : Setup) (k : Content) (σ : Slots) (L : ℕ) (p : List ℕ) (o : ℕ) (y : Way) (fs : List Finding) where
  abbrev V : View
  V = view_of E k σ (L / E.D)

  abbrev call : Writing
  call = write_call E k σ L p o y fs

  abbrev Outcome : Type 0
  Outcome = ((is_ok call.answer ≡ false) × (call.writes ≡ [])) ⊎ ((is_ok call.answer ≡ true) × Accepted E V σ L p o y call.writes)

  abbrev answer : Result WriteAnswer Refusal
  answer = plan_answer (write_plan E (L / E.D) V (L % E.D) y) (base_version E.D V (L % E.D)) (write_looks E V (L % E.D) y)

  refused : (r : Refusal) → call ≡ refused_write r fs → Outcome
  refused r e = inl (ap (λ z. is_ok z.answer) e, ap (λ z. z.writes) e)

  taken : length p ≡ 80 → L < E.D * E.S → call ≡ write_at E k σ (L / E.D) (L % E.D) p o y → Outcome
  unfolding write_at
  taken a b e = go (cases_Bool (is_ok answer))
    where
      go : (is_ok answer ≡ true) ⊎ (is_ok answer ≡ false) → Outcome
      go (inl t) =
          let h = plan_told (write_plan E (L / E.D) V (L % E.D) y) (base_version E.D V (L % E.D)) (write_looks E V (L % E.D) y) t in
          inr (
            ap (λ z. is_ok z.answer) e ∙ t,
            record {
              long = a;
              there = b;
              planned = h.0;
              small = h.1;
              pair = ap (λ z. z.writes) e ∙ on_accepted answer _ t;
            },
          )
      go (inr t) = inl (ap (λ z. is_ok z.answer) e ∙ t, ap (λ z. z.writes) e ∙ on_refused answer _ t)

  pub write_outcome : Outcome
  unfolding write_call
  write_outcome = go (cases_eq (length p) 80) (cases_lt L (E.D * E.S)) (cases_eq o 0)
    where
      from : Result Position Refusal → Writing
      from = write_from E k σ p o y fs

      right : length p ≡ 80 → call ≡ from (position_of E.D E.S L)
      right e = cond-true (eqb (length p) 80) (from (position_of E.D E.S L)) (refused_write Length fs) (eq-eqb (length p) 80 e)

      go : (length p ≡ 80) ⊎ (length p ≡ 80 → ⊥) → (L < E.D * E.S) ⊎ (E.D * E.S ≤ L) → (o ≡ 0) ⊎ (o ≡ 0 → ⊥) → Outcome
      go (inr d) b c =
          refused Length
          (cond-false (eqb (length p) 80) (from (position_of E.D E.S L)) (refused_write Length fs) (ne_eqb (length p) 80 d))
      go (inl e) (inr b) c =
          refused Address (right e ∙ ap from (cond-false (ltb L (E.D * E.S)) _ (Err Address) (le-ltb L (E.D * E.S) b)))
      go (inl e) (inl b) (inl c) =
          refused NoOwner
          (right e
          ∙ (ap from (position_is E.D E.S L b)
          ∙ cond-true (eqb o 0) (refused_write NoOwner fs) (write_at E k σ (L / E.D) (L % E.D) p o y) (eq-eqb o 0 c)))
      go (inl e) (inl b) (inr c) =
          taken e b
          (right e
          ∙ (ap from (position_is E.D E.S L b)
          ∙ cond-false (eqb o 0) (refused_write NoOwner fs) (write_at E k σ (L / E.D) (L % E.D) p o y) (ne_eqb o 0 c)))
