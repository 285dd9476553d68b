-- The view of a stripe, and the stripe that code holds. Assumes nothing.
use Rattle.std.specs.Prelude.{Err}
use Rattle.std.proofs.Common.{◌≡◌, ℕ, ◌<◌, ◌≤◌, true, ◌⊎◌, get_or, sym, refl, ◌∙◌, inl, inr, arith}
use mathlib.Core.Path.{fun_ext}
use Rattle.std.proofs.lemmas.List.FromFn.{get_or-map-range_with_len, length-map-range_with_len}
use Rattle.std.proofs.lemmas.List.{get_or_past}
use Rattle.std.proofs.lemmas.Bool.{cond-true, cond-false, lt-ltb, le-ltb, cases_lt}
use Rattle.block.specs.declared.shapes.Defect.TheVariants.{Blind}
use Rattle.block.specs.declared.shapes.Role.{Role}
use Rattle.block.specs.declared.shapes.Role.TheVariants.{Parity, Data}
use Rattle.block.specs.Judging.{Setup, alone}
use Rattle.block.specs.Layout.{table}
use Rattle.block.specs.Places.{slot_of}
use Rattle.shelf.specs.Model.{Content}
use Rattle.stripe.specs.View.{Slots, seen_at, has_role, view_of, row_of, as_view}

pub has_placed : (d : ℕ) (r : Role) → ((j : ℕ) → r ≡ Data j → j < d) → has_role d r ≡ true
has_placed d Parity h = refl
has_placed d (Data j) h = lt-ltb j d (h j refl)

module _ (E : Setup) (k : Content) (σ : Slots) (s : ℕ) where
  -- a block that the stripe has
  pub view_in : (r : Role) → has_role E.D r ≡ true
      → view_of E k σ s r ≡ alone E s r (seen_at (k (slot_of E.D s r) s) (σ (slot_of E.D s r)) s)
  unfolding view_of
  view_in r h = cond-true _ _ _ h

  -- a block that it has not
  pub view_out : (j : ℕ) → E.D ≤ j → view_of E k σ s (Data j) ≡ Err Blind
  unfolding view_of
  view_out j h = cond-false _ _ _ (le-ltb j E.D h)

  -- the stripe that code holds has the view again
  pub as_view_lem : E.D ≤ 7 → as_view (view_of E k σ s Parity) (row_of (view_of E k σ s)) ≡ view_of E k σ s
  unfolding row_of
  as_view_lem w = fun_ext at
    where
      row : (j : ℕ) → (j < 7) ⊎ (7 ≤ j) → get_or (row_of (view_of E k σ s)) j (Err Blind) ≡ view_of E k σ s (Data j)
      row j (inl l) = get_or-map-range_with_len (λ i. view_of E k σ s (Data i)) 0 7 j j (Err Blind) (omega arith) (omega arith)
      row j (inr l) =
          get_or_past (table 7 (λ i. view_of E k σ s (Data i))) j (Err Blind) (omega (arith, length-map-range_with_len (λ i. view_of E k σ s (Data i)) 0 7))
          ∙ sym (view_out j (omega arith))

      at : (r : Role) → as_view (view_of E k σ s Parity) (row_of (view_of E k σ s)) r ≡ view_of E k σ s r
      at Parity = refl
      at (Data j) = row j (cases_lt j 7)
