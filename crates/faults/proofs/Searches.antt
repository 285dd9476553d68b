-- What the searches in the rows give.
use Rattle.std.specs.Prelude.{◌≡◌, ℕ, zero, suc, ◌+◌, ◌<◌, Bool, true, false, not, List, [], ◌∷◌, length, filter, Some, None, Option, MatchOption, slice_index_or, refl}
use Rattle.std.proofs.Common.{cond, sym, ap, ◌∙◌, le_of_suc-le-suc, arith}
use Rattle.std.specs.List.{list_any}
use Rattle.std.proofs.lemmas.Bool.Decides.{nat_tests}
use Rattle.faults.specs.declared.rows.Row.{Row}
use Rattle.faults.specs.declared.table.Found.{Found}
use Rattle.faults.specs.Rows.{no_row, is_mark, plan_at, found_at, plan_from, plan_for, marked, unmarked}

module _ (i j : ℕ) where
  pub marked_any : (rows : List Row) → list_any (is_mark i j) rows ≡ marked i j rows
  marked_any [] = refl
  marked_any (r ∷ rows) = grind (arith, nat_tests, marked_any rows)

  pub unmarked_filter : (rows : List Row) → filter (λ r. not (is_mark i j r)) rows ≡ unmarked i j rows
  unmarked_filter [] = refl
  unmarked_filter (r ∷ rows) = grind (arith, nat_tests, unmarked_filter rows)

  -- where there is no mark, none is to go
  pub unmarked_idle : (rows : List Row) → false ≡ marked i j rows → rows ≡ unmarked i j rows
  unmarked_idle [] e = refl
  unmarked_idle (r ∷ rows) e = go (is_mark i j r) e (unmarked_idle rows)
    where
      go : (b : Bool) → false ≡ cond b true (marked i j rows) → (false ≡ marked i j rows → rows ≡ unmarked i j rows)
          → r ∷ rows ≡ cond b (unmarked i j rows) (r ∷ unmarked i j rows)
      go true h later = cc
      go false h later = ap (λ rs. r ∷ rs) (later h)

  -- no row below index m has a plan for the place
  abbrev pub NoneBelow : ℕ → List Row → Type 0
  NoneBelow m rows = (k : ℕ) → k < m → plan_at i j (slice_index_or rows k no_row) ≡ None

  none_from : (n : ℕ) (rows : List Row) → NoneBelow (length rows) rows → None ≡ plan_from n i j rows
  none_from n [] none = refl
  none_from n (r ∷ rows) none =
      none_from (n + 1) rows (λ k l. none (suc k) (omega arith))
      ∙ ap (λ o. found_at n o (plan_from (n + 1) i j rows)) (sym (none 0 (omega arith)))

  some_from : (n : ℕ) (rows : List Row) (f : Found) (m : ℕ) → f.index ≡ n + m → m < length rows → plan_at i j (slice_index_or rows m no_row) ≡ Some f.plan → NoneBelow m rows → Some f ≡ plan_from n i j rows
  some_from n [] f m e l h none = absurd (omega arith)
  some_from n (r ∷ rows) f zero e l h none =
      let z : f.index ≡ n = omega arith in
      ap (λ k. Some (record { index = k; plan = f.plan })) z ∙ ap (λ o. found_at n o (plan_from (n + 1) i j rows)) (sym h)
  some_from n (r ∷ rows) f (suc m) e l h none =
      some_from (n + 1) rows f m (omega arith) (le_of_suc-le-suc l) h (λ k b. none (suc k) (omega arith))
      ∙ ap (λ o. found_at n o (plan_from (n + 1) i j rows)) (sym (none 0 (omega arith)))

  -- the first row with a plan for the place
  abbrev pub FirstPlan : List Row → Option Found → Type 0
  FirstPlan rows found =
      MatchOption found (NoneBelow (length rows) rows)
      (λ f. (f.index < length rows) × (plan_at i j (slice_index_or rows f.index no_row) ≡ Some f.plan) × NoneBelow f.index rows)

  pub plan_first : (rows : List Row) (found : Option Found) → FirstPlan rows found → found ≡ plan_for i j rows
  plan_first rows None h = none_from 0 rows h
  plan_first rows (Some f) h = some_from 0 rows f f.index (omega arith) h.0 h.1 h.2
