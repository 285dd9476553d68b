-- Slots and roles of a stripe name each other.
use Rattle.std.proofs.Common.{◌≡◌, ℕ, ◌+◌, ◌-◌, ◌<◌, ◌≤◌, ltb, ◌⊎◌, sym, refl, ap, ◌∙◌, subst, inl, inr, arith}
use Rattle.std.proofs.lemmas.Bool.{eq-eqb, ne_eqb, lt-ltb, le-ltb, cases_eq, cases_lt, cond-true, cond-false}
use Rattle.block.specs.declared.shapes.Role.{Role}
use Rattle.block.specs.declared.shapes.Role.TheVariants.{Parity, Data}
use Rattle.block.specs.Judging.{Setup}
use Rattle.block.specs.Places.{parity_slot, slot_of, role_at}
use Rattle.runs.specs.Runs.{InStripe}

abbrev Side : ℕ → ℕ → ℕ → Type 0
Side d s j = ((j < parity_slot d s) × (slot_of d s (Data j) ≡ j)) ⊎ ((parity_slot d s ≤ j) × (slot_of d s (Data j) ≡ j + 1))

-- a data block lies below its parity's slot, or above
data_slot : (d s j : ℕ) → Side d s j
data_slot d s j = go (cases_lt j (parity_slot d s))
  where
    go : (j < parity_slot d s) ⊎ (parity_slot d s ≤ j) → Side d s j
    go (inl h) = inl (h, cond-true (ltb j (parity_slot d s)) j (j + 1) (lt-ltb j (parity_slot d s) h))
    go (inr h) = inr (h, cond-false (ltb j (parity_slot d s)) j (j + 1) (le-ltb j (parity_slot d s) h))

role_parity : (d s c : ℕ) → c ≡ parity_slot d s → role_at d s c ≡ Parity
role_parity d s c e = cond-true _ _ _ (eq-eqb _ _ e)

role_low : (d s c : ℕ) → c < parity_slot d s → role_at d s c ≡ Data c
role_low d s c h = cond-false _ _ _ (ne_eqb c _ (λ e. omega arith)) ∙ ap Data (cond-true _ _ _ (lt-ltb c _ h))

role_high : (d s c : ℕ) → parity_slot d s ≤ c → role_at d s (c + 1) ≡ Data c
role_high d s c h =
    cond-false _ _ _ (ne_eqb (c + 1) _ (λ e. omega arith)) ∙ ap Data (cond-false _ _ _ (le-ltb (c + 1) _ (omega arith)) ∙ omega arith)

pub role_of_slot : (d s : ℕ) (r : Role) → role_at d s (slot_of d s r) ≡ r
role_of_slot d s Parity = role_parity d s (parity_slot d s) refl
role_of_slot d s (Data j) = go (data_slot d s j)
  where
    go : Side d s j → role_at d s (slot_of d s (Data j)) ≡ Data j
    go (inl h) = ap (role_at d s) h.1 ∙ role_low d s j h.0
    go (inr h) = ap (role_at d s) h.1 ∙ role_high d s j h.0

pub cases_role : (r q : Role) → (q ≡ r) ⊎ (q ≡ r → ⊥)
cases_role Parity Parity = inl refl
cases_role Parity (Data k) = inr (λ e. cc)
cases_role (Data j) Parity = inr (λ e. cc)
cases_role (Data j) (Data k) = go (cases_eq k j)
  where
    go : (k ≡ j) ⊎ (k ≡ j → ⊥) → (Data k ≡ Data j) ⊎ (Data k ≡ Data j → ⊥)
    go (inl e) = inl (ap Data e)
    go (inr d) = inr (λ e. d cc)

-- different blocks of a stripe lie in different slots
pub one_role : (d s : ℕ) (r q : Role) → slot_of d s r ≡ slot_of d s q → r ≡ q
one_role d s r q e = sym (role_of_slot d s r) ∙ (ap (role_at d s) e ∙ role_of_slot d s q)

pub slot_in : (E : Setup) (s : ℕ) (r : Role) → InStripe E r → slot_of E.D s r < E.D + 1
slot_in E s Parity i = omega arith
slot_in E s (Data j) i = go (data_slot E.D s j)
  where
    go : Side E.D s j → slot_of E.D s (Data j) < E.D + 1
    go (inl h) = omega (arith, h.1, i)
    go (inr h) = omega (arith, h.1, i)

-- each slot has a block of the stripe
pub slot_of_role : (E : Setup) (s c : ℕ) → c < E.D + 1 → InStripe E (role_at E.D s c) × (slot_of E.D s (role_at E.D s c) ≡ c)
slot_of_role E s c h = go (cases_eq c (parity_slot E.D s)) (cases_lt c (parity_slot E.D s))
  where
    Goal : Role → Type 0
    Goal q = InStripe E q × (slot_of E.D s q ≡ c)

    go : (c ≡ parity_slot E.D s) ⊎ (c ≡ parity_slot E.D s → ⊥) → (c < parity_slot E.D s) ⊎ (parity_slot E.D s ≤ c)
        → Goal (role_at E.D s c)
    go (inl e) o = subst Goal (sym (role_parity E.D s c e)) (tt, sym e)
    go (inr d) (inl o) =
        subst Goal (sym (role_low E.D s c o)) (omega arith, cond-true _ _ _ (lt-ltb c _ o))
    go (inr d) (inr o) =
        let e : (c - 1) + 1 ≡ c = omega arith in
        let p : parity_slot E.D s ≤ c - 1 = omega arith in
        subst Goal (sym (ap (role_at E.D s) (sym e) ∙ role_high E.D s (c - 1) p))
        (omega arith, cond-false _ _ _ (le-ltb (c - 1) _ p) ∙ e)
