-- The searches in the rows: one step, and what a found index says.
use Rattle.std.specs.Prelude.{◌≡◌, ℕ, zero, suc, ◌+◌, ◌<◌, ◌≤◌, Bool, true, false, cond, List, [], ◌∷◌, length, take, drop, is_some, Some, None, Option, slice_index_or, refl}
use Rattle.std.proofs.Common.{sym, ap, ◌∙◌, le_of_suc-le-suc, arith}
use Rattle.std.proofs.lemmas.List.{at_drop_more, at_drop_all, get_or-take, length-take-le}
use Rattle.std.proofs.lemmas.Bool.{cond-true, cond-false}
use Rattle.std.specs.List.{remove}
use Rattle.faults.specs.declared.rows.Plan.{Plan}
use Rattle.faults.specs.declared.rows.Row.{Row}
use Rattle.faults.specs.declared.table.Found.{Found}
use Rattle.faults.specs.Rows.{no_row, is_mark, plan_at, found_at, plan_from, plan_for, mark_from, mark_on, marked, unmarked}

-- a search over the first n rows, at index k
module _ (rows : List Row) (n k : ℕ) (lt : k < n) (fits : n ≤ length rows) where
  here : {Y : Type 0} (F : List Row → Y) → F (drop k (take n rows)) ≡ F (slice_index_or rows k no_row ∷ drop (k + 1) (take n rows))
  here F =
      let l : k < length (take n rows) = omega (arith, length-take-le n rows fits) in
      at_drop_more F (take n rows) k no_row l ∙ ap (λ r. F (r ∷ drop (k + 1) (take n rows))) (get_or-take n rows k no_row lt)

  module _ (i j : ℕ) where
    pub plan_hit : (t : Plan) → plan_at i j (slice_index_or rows k no_row) ≡ Some t → Some (record { index = k; plan = t }) ≡ plan_from k i j (drop k (take n rows))
    plan_hit t h = sym (here (plan_from k i j) ∙ ap (λ o. found_at k o (plan_from (k + 1) i j (drop (k + 1) (take n rows)))) h)

    pub plan_miss : plan_at i j (slice_index_or rows k no_row) ≡ None → plan_from (k + 1) i j (drop (k + 1) (take n rows)) ≡ plan_from k i j (drop k (take n rows))
    plan_miss h = sym (here (plan_from k i j) ∙ ap (λ o. found_at k o (plan_from (k + 1) i j (drop (k + 1) (take n rows)))) h)

    pub mark_hit : is_mark i j (slice_index_or rows k no_row) ≡ true → Some k ≡ mark_from k i j (drop k (take n rows))
    mark_hit h = sym (here (mark_from k i j) ∙ cond-true _ _ _ h)

    pub mark_miss : is_mark i j (slice_index_or rows k no_row) ≡ false → mark_from (k + 1) i j (drop (k + 1) (take n rows)) ≡ mark_from k i j (drop k (take n rows))
    mark_miss h = sym (here (mark_from k i j) ∙ cond-false _ _ _ h)

-- a search that has passed the first n rows
pub past_all : {Y : Type 0} (F : List Row → Y) (rows : List Row) (n k : ℕ) → n ≤ length rows → n ≤ k → F [] ≡ F (drop k (take n rows))
past_all F rows n k fits h = sym (at_drop_all F (take n rows) k (let e = length-take-le n rows fits in omega arith))

-- what is found is a row m places after the first: a mark on the place, or the plan for it
abbrev pub MarkFound : ℕ → ℕ → ℕ → List Row → ℕ → Type 0
MarkFound n i j rows k = (m : ℕ) × (k ≡ n + m) × (m < length rows) × (is_mark i j (slice_index_or rows m no_row) ≡ true)

abbrev pub PlanFound : ℕ → ℕ → ℕ → List Row → Found → Type 0
PlanFound n i j rows f = (m : ℕ) × (f.index ≡ n + m) × (m < length rows) × (plan_at i j (slice_index_or rows m no_row) ≡ Some f.plan)

pub mark_found : (n i j : ℕ) (rows : List Row) (k : ℕ) → mark_from n i j rows ≡ Some k → MarkFound n i j rows k
mark_found n i j [] k e = let z : ◌≡◌ {A = ℕ} 0 1 = cc in absurd (omega arith)
mark_found n i j (r ∷ rows) k e = go (is_mark i j r) refl e (mark_found (n + 1) i j rows k)
  where
    go : (b : Bool) → is_mark i j r ≡ b → cond b (Some n) (mark_from (n + 1) i j rows) ≡ Some k → (mark_from (n + 1) i j rows ≡ Some k → MarkFound (n + 1) i j rows k) → MarkFound n i j (r ∷ rows) k
    go true is h later = let z : n ≡ k = cc in (0, omega arith, omega arith, is)
    go false is h later =
        let d = later h in
        let e' = d.1 in
        let l = d.2 in
        (suc d.0, omega arith, omega arith, d.3)

pub plan_found : (n i j : ℕ) (rows : List Row) (f : Found) → plan_from n i j rows ≡ Some f → PlanFound n i j rows f
plan_found n i j [] f e = let z : ◌≡◌ {A = ℕ} 0 1 = cc in absurd (omega arith)
plan_found n i j (r ∷ rows) f e = go (plan_at i j r) refl e (plan_found (n + 1) i j rows f)
  where
    go : (o : Option Plan) → plan_at i j r ≡ o → found_at n o (plan_from (n + 1) i j rows) ≡ Some f → (plan_from (n + 1) i j rows ≡ Some f → PlanFound (n + 1) i j rows f) → PlanFound n i j (r ∷ rows) f
    go (Some t) is h later =
        let z : n ≡ f.index = cc in
        let y : t ≡ f.plan = cc in
        (0, omega arith, omega arith, is ∙ ap Some y)
    go None is h later =
        let d = later h in
        let e' = d.1 in
        let l = d.2 in
        (suc d.0, omega arith, omega arith, d.3)

-- the index of a mark is that of a row
pub mark_within : (i j : ℕ) (rows : List Row) (k : ℕ) → mark_on i j rows ≡ Some k → (k < length rows) × (is_mark i j (slice_index_or rows k no_row) ≡ true)
mark_within i j rows k e =
    let d = mark_found 0 i j rows k e in
    let z : k ≡ d.0 = (let h = d.1 in omega arith) in
    (let l = d.2 in omega arith, ap (λ m. is_mark i j (slice_index_or rows m no_row)) z ∙ d.3)

-- the index of a plan is that of a row
pub plan_within : (i j : ℕ) (rows : List Row) (f : Found) → plan_for i j rows ≡ Some f → (f.index < length rows) × (plan_at i j (slice_index_or rows f.index no_row) ≡ Some f.plan)
plan_within i j rows f e =
    let d = plan_found 0 i j rows f e in
    let z : f.index ≡ d.0 = (let h = d.1 in omega arith) in
    (let l = d.2 in omega arith, ap (λ m. plan_at i j (slice_index_or rows m no_row)) z ∙ d.3)

-- a mark is found where there is one
pub mark_there : (n i j : ℕ) (rows : List Row) → is_some (mark_from n i j rows) ≡ marked i j rows
mark_there n i j [] = refl
mark_there n i j (r ∷ rows) = go (is_mark i j r) (mark_there (n + 1) i j rows)
  where
    go : (b : Bool) → is_some (mark_from (n + 1) i j rows) ≡ marked i j rows → is_some (cond b (Some n) (mark_from (n + 1) i j rows)) ≡ cond b true (marked i j rows)
    go true later = refl
    go false later = later

-- a mark freed by itself is one that was to go
pub unmarked_removed : (i j : ℕ) (rows : List Row) (k : ℕ) → k < length rows → is_mark i j (slice_index_or rows k no_row) ≡ true → unmarked i j (remove rows k) ≡ unmarked i j rows
unmarked_removed i j [] k l h = absurd (omega arith)
unmarked_removed i j (r ∷ rows) zero l h = sym (cond-true (is_mark i j r) _ _ h)
unmarked_removed i j (r ∷ rows) (suc k) l h = ap (λ rs. cond (is_mark i j r) rs (r ∷ rs)) (unmarked_removed i j rows k (le_of_suc-le-suc l) h)

-- where none is found, none is to go
pub unmarked_none : (n i j : ℕ) (rows : List Row) → mark_from n i j rows ≡ None → rows ≡ unmarked i j rows
unmarked_none n i j [] e = refl
unmarked_none n i j (r ∷ rows) e = go (is_mark i j r) e (unmarked_none (n + 1) i j rows)
  where
    go : (b : Bool) → cond b (Some n) (mark_from (n + 1) i j rows) ≡ None → (mark_from (n + 1) i j rows ≡ None → rows ≡ unmarked i j rows) → r ∷ rows ≡ cond b (unmarked i j rows) (r ∷ unmarked i j rows)
    go true h later = let z : ◌≡◌ {A = ℕ} 0 1 = cc in absurd (omega arith)
    go false h later = ap (λ rs. r ∷ rs) (later h)
