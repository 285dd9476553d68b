-- What a place of an image holds.
use Rattle.std.specs.Prelude.{◌≡◌, ℕ, ◌+◌, ◌*◌, List, take, drop, ◌≢◌, slice_index_or, Some, None}
use Rattle.std.proofs.lemmas.Bool.{cond-true, cond-false, eq-eqb, ne_eqb}
use Rattle.image.specs.Layout.{cell_at}

-- what a place holds, by its flag
pub cell_present : (m : ℕ) (xs : List ℕ) (p : ℕ) → slice_index_or xs (m * 128 + p) 1 ≡ 0 → cell_at m xs p ≡ Some (take 128 (drop (p * 128) xs))
unfolding cell_at
cell_present m xs p e = cond-true _ _ _ (eq-eqb _ 0 e)

pub cell_blind : (m : ℕ) (xs : List ℕ) (p : ℕ) → (slice_index_or xs (m * 128 + p) 1 ≢ 0) → cell_at m xs p ≡ None
unfolding cell_at
cell_blind m xs p e = cond-false _ _ _ (ne_eqb _ 0 e)
