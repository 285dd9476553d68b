-- A write leaves the marks on other cards as they are.
use Rattle.std.specs.Prelude.{◌≡◌, ℕ, zero, suc, ◌<◌, Bool, true, false, cond, List, [], ◌∷◌, length, Some, None, Option, ◌==◌, ◌≢◌, slice_index_or, slice_set, refl}
use Rattle.std.proofs.Common.{sym, ap, ◌∙◌, le_of_suc-le-suc, arith}
use Rattle.std.specs.List.{remove}
use Rattle.std.proofs.lemmas.Bool.{cond-false, and_left, and_parts, eqb-true, ne_eqb}
use Rattle.block.specs.declared.shapes.Place.{Place}
use Rattle.shelf.specs.Model.{Write}
use Rattle.faults.specs.declared.rows.Plan.{Plan}
use Rattle.faults.specs.declared.rows.Plan.TheVariants.{Lose, Tear, Spoil, Stray}
use Rattle.faults.specs.declared.rows.Row.{Row}
use Rattle.faults.specs.declared.rows.Row.TheVariants.{Mark, Planned}
use Rattle.faults.specs.declared.table.Found.{Found}
use Rattle.faults.specs.Rows.{no_row, is_at, is_mark, plan_at, turned_row, plan_for, marked, unmarked, planned_rows, rows_by}
use Rattle.faults.specs.Faults.{accepted, rows_after}
use Rattle.faults.specs.Searches.{plan_within}

-- of the place (i, j) in another slot than a
module _ (i j a : ℕ) (ne : i ≡ a → ⊥) where
  at_elsewhere : (b : ℕ) (p : Place) → is_at a b p ≡ true → is_at i j p ≡ false
  at_elsewhere b p h =
      let e : p.slot ≡ a = eqb-true _ _ (and_parts (p.slot == a) _ h).0 in
      and_left (p.slot == i) _ (ne_eqb _ _ (λ f. ne (sym f ∙ e)))

  mark_elsewhere : (b : ℕ) (r : Row) → is_mark a b r ≡ true → is_mark i j r ≡ false
  mark_elsewhere b (Mark p) h = at_elsewhere b p h
  mark_elsewhere b (Planned p t) h = refl

  plan_elsewhere : (b : ℕ) (r : Row) (t : Plan) → plan_at a b r ≡ Some t → is_mark i j r ≡ false
  plan_elsewhere b (Mark p) t h = let z : ◌≡◌ {A = ℕ} 0 1 = cc in absurd (omega arith)
  plan_elsewhere b (Planned p u) t h = refl

  turned_elsewhere : (b : ℕ) (r : Row) (t : Plan) → plan_at a b r ≡ Some t → is_mark i j (turned_row r) ≡ false
  turned_elsewhere b (Mark p) t h = let z : ◌≡◌ {A = ℕ} 0 1 = cc in absurd (omega arith)
  turned_elsewhere b (Planned p u) t h = at_elsewhere b p (go (is_at a b p) h)
    where
      go : (x : Bool) → cond x (Some u) None ≡ Some t → x ≡ true
      go true e = refl
      go false e = let z : ◌≡◌ {A = ℕ} 0 1 = cc in absurd (omega arith)

  marked_removed : (rows : List Row) (k : ℕ) → k < length rows → is_mark i j (slice_index_or rows k no_row) ≡ false → marked i j (remove rows k) ≡ marked i j rows
  marked_removed [] k l h = absurd (omega arith)
  marked_removed (r ∷ rows) zero l h = sym (cond-false (is_mark i j r) true (marked i j rows) h)
  marked_removed (r ∷ rows) (suc k) l h = ap (cond (is_mark i j r) true) (marked_removed rows k (le_of_suc-le-suc l) h)

  marked_set : (rows : List Row) (k : ℕ) (y : Row) → k < length rows → is_mark i j (slice_index_or rows k no_row) ≡ false → is_mark i j y ≡ false → marked i j (slice_set rows k y) ≡ marked i j rows
  marked_set [] k y l h e = absurd (omega arith)
  marked_set (r ∷ rows) zero y l h e = cond-false (is_mark i j y) true (marked i j rows) e ∙ sym (cond-false (is_mark i j r) true (marked i j rows) h)
  marked_set (r ∷ rows) (suc k) y l h e = ap (cond (is_mark i j r) true) (marked_set rows k y (le_of_suc-le-suc l) h e)

  marked_unmarked : (rows : List Row) (b : ℕ) → marked i j (unmarked a b rows) ≡ marked i j rows
  marked_unmarked [] b = refl
  marked_unmarked (r ∷ rows) b = go (is_mark a b r) refl (marked_unmarked rows b)
    where
      go : (x : Bool) → is_mark a b r ≡ x → marked i j (unmarked a b rows) ≡ marked i j rows → marked i j (cond x (unmarked a b rows) (r ∷ unmarked a b rows)) ≡ marked i j (r ∷ rows)
      go true is later = later ∙ sym (cond-false (is_mark i j r) true (marked i j rows) (mark_elsewhere b r is))
      go false is later = ap (cond (is_mark i j r) true) later

  marked_planned : (rows : List Row) (b : ℕ) (f : Found) → plan_for a b rows ≡ Some f → marked i j (planned_rows rows a b f.index f.plan) ≡ marked i j rows
  marked_planned rows b f e = go f.plan
    where
      without : marked i j (remove rows f.index) ≡ marked i j rows
      without = let d = plan_within a b rows f e in marked_removed rows f.index d.0 (plan_elsewhere b (slice_index_or rows f.index no_row) f.plan d.1)

      turned : marked i j (slice_set rows f.index (turned_row (slice_index_or rows f.index no_row))) ≡ marked i j rows
      turned =
          let d = plan_within a b rows f e in
          marked_set rows f.index _ d.0
          (plan_elsewhere b (slice_index_or rows f.index no_row) f.plan d.1)
          (turned_elsewhere b (slice_index_or rows f.index no_row) f.plan d.1)

      either : (x : Bool) → marked i j (cond x (remove rows f.index) (slice_set rows f.index (turned_row (slice_index_or rows f.index no_row)))) ≡ marked i j rows
      either true = without
      either false = turned

      go : (p : Plan) → marked i j (planned_rows rows a b f.index p) ≡ marked i j rows
      go Lose = without
      go (Tear m) = without
      go Spoil = either (marked a b rows)
      go (Stray t) = marked_unmarked (remove rows f.index) t ∙ without

-- after any write
pub marked_after : (n s : ℕ) (rows : List Row) (w : Write) (i j : ℕ) → (i ≢ w.slot) → marked i j (rows_after n s rows w) ≡ marked i j rows
unfolding rows_after
marked_after n s rows w i j ne = go (accepted n s w)
  where
    by : (o : Option Found) → plan_for w.slot w.block rows ≡ o → marked i j (rows_by rows w.slot w.block o) ≡ marked i j rows
    by None e = marked_unmarked i j w.slot ne rows w.block
    by (Some f) e = marked_planned i j w.slot ne rows w.block f e

    go : (x : Bool) → marked i j (cond x (rows_by rows w.slot w.block (plan_for w.slot w.block rows)) rows) ≡ marked i j rows
    go true = by (plan_for w.slot w.block rows) refl
    go false = refl
