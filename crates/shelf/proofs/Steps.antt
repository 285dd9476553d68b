-- What the promises of a shelf come to at a place that it has. Assumes nothing.
use Rattle.std.specs.Prelude.{Some, None}
use Rattle.std.proofs.Common.{◌≡◌, ℕ, ◌<◌, true, List, [], ◌∷◌, length, Ok, Err, Result, refl, ap, ◌∙◌, arith}
use Rattle.std.proofs.lemmas.Bool.{cond-true, and_from, lt-ltb, eq-eqb}
use Rattle.block.specs.Shapes.{Cell}
use Rattle.shelf.specs.declared.Sight.{Sight}
use Rattle.shelf.specs.declared.Sight.TheVariants.{Present, Blind}
use Rattle.block.specs.declared.refusal.Refusal.{Refusal}
use Rattle.shelf.specs.Model.{Content, write_of, inside, sight_of, shown_of, read_answer, read_buffer, writes_taken}

module _ (n s i j : ℕ) (hi : i < n) (hj : j < s) where
  within : inside n s i j ≡ true
  within = and_from _ _ (lt-ltb i n hi) (lt-ltb j s hj)

  pub answered : (k : Content) (len : ℕ) → len ≡ 128 → read_answer n s k i j len ≡ Ok (sight_of (k i j))
  unfolding read_answer
  answered k len e = cond-true _ _ _ (eq-eqb _ _ e) ∙ cond-true _ _ _ within

  pub filled : (k : Content) (was : List ℕ) → length was ≡ 128 → read_buffer n s k i j was ≡ shown_of (k i j)
  unfolding read_buffer
  filled k was e = cond-true _ _ _ (and_from _ _ (eq-eqb _ _ e) within)

  pub taken : (bs : List ℕ) → length bs ≡ 128 → writes_taken n s i j bs ≡ write_of i j bs ∷ []
  unfolding writes_taken
  taken bs e = cond-true _ _ _ (and_from _ _ (eq-eqb _ _ e) within)

module _ (x : Cell) (v : Sight) (e : ◌≡◌ {A = Result Sight Refusal} (Ok v) (Ok (sight_of x))) where
  pub is_bytes : (b : List ℕ) → v ≡ Present → b ≡ shown_of x → Some b ≡ x
  is_bytes b p h = go x e h
    where
      go : (y : Cell) → ◌≡◌ {A = Result Sight Refusal} (Ok v) (Ok (sight_of y)) → b ≡ shown_of y → Some b ≡ y
      go (Some c) d q = ap Some q
      go None d q = let z : ◌≡◌ {A = ℕ} 0 1 = cc in absurd (omega arith)

  pub is_nothing : v ≡ Blind → None ≡ x
  is_nothing p = go x e
    where
      go : (y : Cell) → ◌≡◌ {A = Result Sight Refusal} (Ok v) (Ok (sight_of y)) → None ≡ y
      go (Some c) d = let z : ◌≡◌ {A = ℕ} 0 1 = cc in absurd (omega arith)
      go None d = refl

pub not_err : (x : Cell) (y : Refusal) → ◌≡◌ {A = Result Sight Refusal} (Err y) (Ok (sight_of x)) → None ≡ x
not_err x y e = let z : ◌≡◌ {A = ℕ} 0 1 = cc in absurd (omega arith)
