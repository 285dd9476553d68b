-- The conduct of the layer: one write, and the law of the own card.
use Rattle.std.specs.Prelude.{◌≡◌, ℕ, ◌<◌, Bool, true, false, cond, ◌&&◌, List, [], ◌∷◌, ◌++◌, length, Some, None, Option, ◌==◌}
use Rattle.std.proofs.Math.Path.{refl, sym, ap}
use Rattle.std.proofs.Common.{◌∙◌, append_assoc}
use Rattle.std.proofs.lemmas.List.{append-nil}
use Rattle.std.proofs.lemmas.Bool.{cond-true, cond-false}
use Rattle.block.specs.Shapes.{Cell}
use Rattle.shelf.specs.Model.{Content, Conduct, Write, OwnCard, write_of, after_all, inside, writes_taken}
use Rattle.faults.specs.declared.rows.Plan.{Plan}
use Rattle.faults.specs.declared.rows.Plan.TheVariants.{Lose, Tear, Spoil, Stray}
use Rattle.faults.specs.declared.rows.Row.{Row}
use Rattle.faults.specs.declared.table.Found.{Found}
use Rattle.faults.specs.Rows.{marked, plan_for, rows_by}
use Rattle.faults.specs.Faults.{screened, torn_writes, planned_writes, writes_by, accepted, passed, rows_after, fault_conduct}
use Rattle.faults.specs.Marks.{marked_after}

module _ (n s : ℕ) (rows : List Row) (w : Write) where
  pub refused_passed : (c : Content) → accepted n s w ≡ false → [] ≡ passed n s c rows w
  unfolding passed
  refused_passed c h = sym (cond-false _ _ _ h)

  pub refused_rows : accepted n s w ≡ false → rows ≡ rows_after n s rows w
  unfolding rows_after
  refused_rows h = sym (cond-false _ _ _ h)

  pub accepted_passed : (c : Content) → accepted n s w ≡ true → writes_by n s c rows w (plan_for w.slot w.block rows) ≡ passed n s c rows w
  unfolding passed
  accepted_passed c h = sym (cond-true _ _ _ h)

  pub accepted_rows : accepted n s w ≡ true → rows_by rows w.slot w.block (plan_for w.slot w.block rows) ≡ rows_after n s rows w
  unfolding rows_after
  accepted_rows h = sym (cond-true _ _ _ h)

-- the layer after one write, refused or not
module _ (n s : ℕ) (k : Conduct) (rows : List Row) (i j : ℕ) (bs : List ℕ) where
  one_write : fault_conduct n s (after_all k (passed n s (k []) rows (write_of i j bs))) (rows_after n s rows (write_of i j bs)) ≡ after_all (fault_conduct n s k rows) (writes_taken n s i j bs)
  unfolding writes_taken
  one_write = go (accepted n s (write_of i j bs)) refl
    where
      go : (b : Bool) → accepted n s (write_of i j bs) ≡ b → fault_conduct n s (after_all k (passed n s (k []) rows (write_of i j bs))) (rows_after n s rows (write_of i j bs)) ≡ after_all (fault_conduct n s k rows) (cond b (write_of i j bs ∷ []) [])
      go true e = refl
      go false e =
          ap (λ vs. fault_conduct n s (after_all k vs) (rows_after n s rows (write_of i j bs))) (sym (refused_passed n s rows (write_of i j bs) (k []) e))
          ∙ ap (fault_conduct n s k) (sym (refused_rows n s rows (write_of i j bs) e))

  -- the same of a layer that is known by its parts
  pub after_write : (n' s' : ℕ) (k' : Conduct) (rows' : List Row) (c : Content) → n' ≡ n → s' ≡ s → k [] ≡ c → k' ≡ after_all k (passed n s c rows (write_of i j bs)) → rows' ≡ rows_after n s rows (write_of i j bs) → fault_conduct n' s' k' rows' ≡ after_all (fault_conduct n s k rows) (writes_taken n s i j bs)
  after_write n' s' k' rows' c en es now below left =
      ap (λ m. fault_conduct m s' k' rows') en
      ∙ ap (λ m. fault_conduct n m k' rows') es
      ∙ ap (fault_conduct n s k') left
      ∙ ap (λ q. fault_conduct n s q (rows_after n s rows (write_of i j bs))) (below ∙ ap (λ d. after_all k (passed n s d rows (write_of i j bs))) (sym now))
      ∙ one_write

module _ (n s : ℕ) (i j : ℕ) (li : i < n) (lj : j < s) (w : Write) (ne : i ≡ w.slot → ⊥) where
  -- what a write hands down goes to its own card
  own_planned : (k : Conduct) → OwnCard n s k → (c : Content) (rows : List Row) (p : Plan) → k (planned_writes n s c rows w p) i j ≡ k [] i j
  unfolding writes_taken
  own_planned k own c rows p = go p
    where
      tear : (m : ℕ) (x : Cell) → k (torn_writes w.slot w.block m w.bytes x) i j ≡ k [] i j
      tear m None = refl
      tear m (Some old) = own [] _ i j li lj ne

      stray : (t : ℕ) (b : Bool) → k (cond b (write_of w.slot t w.bytes ∷ []) []) i j ≡ k [] i j
      stray t true = own [] _ i j li lj ne
      stray t false = refl

      go : (q : Plan) → k (planned_writes n s c rows w q) i j ≡ k [] i j
      go Lose = refl
      go (Tear m) = tear m (screened rows c w.slot w.block)
      go Spoil = refl
      go (Stray t) = stray t (length w.bytes == 128 && inside n s w.slot t)

  own_passed : (k : Conduct) → OwnCard n s k → (c : Content) (rows : List Row) → k (passed n s c rows w) i j ≡ k [] i j
  unfolding passed
  own_passed k own c rows = go (accepted n s w)
    where
      by : (o : Option Found) → k (writes_by n s c rows w o) i j ≡ k [] i j
      by None = own [] w i j li lj ne
      by (Some f) = own_planned k own c rows f.plan

      go : (b : Bool) → k (cond b (writes_by n s c rows w (plan_for w.slot w.block rows)) []) i j ≡ k [] i j
      go true = by (plan_for w.slot w.block rows)
      go false = refl

  own_after : (k : Conduct) (vs : List Write) → OwnCard n s k → OwnCard n s (after_all k vs)
  own_after k vs own us u a b la lb h = ap (λ l. k l a b) (sym (append_assoc vs us (u ∷ []))) ∙ own (vs ++ us) u a b la lb h

  own_from : (ws : List Write) (k : Conduct) (rows : List Row) → OwnCard n s k → fault_conduct n s k rows (ws ++ w ∷ []) i j ≡ fault_conduct n s k rows ws i j
  own_from [] k rows own =
      ap (λ l. cond (marked i j (rows_after n s rows w)) None (k l i j)) (append-nil (passed n s (k []) rows w))
      ∙ ap (cond (marked i j (rows_after n s rows w)) None) (own_passed k own (k []) rows)
      ∙ ap (λ b. cond b None (k [] i j)) (marked_after n s rows w i j ne)
  own_from (v ∷ ws) k rows own =
      own_from ws (after_all k (passed n s (k []) rows v)) (rows_after n s rows v) (own_after k (passed n s (k []) rows v) own)

pub fault_own : (n s : ℕ) (k : Conduct) (rows : List Row) → OwnCard n s k → OwnCard n s (fault_conduct n s k rows)
fault_own n s k rows own ws w i j li lj ne = own_from n s i j li lj w ne ws k rows own
