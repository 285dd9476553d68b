-- Every place of an image that is not blind holds 128 bytes.
use Rattle.std.specs.Prelude.{◌≡◌, ℕ, ◌+◌, ◌*◌, ◌<◌, ◌≤◌, List, length, take, drop, ◌==◌, slice_index_or, Some, None}
use Rattle.std.proofs.Math.Path.{subst⁻¹}
use Rattle.std.proofs.Common.{⊎_elim, arith, mul_comm, length-take, length-drop}
use Rattle.std.proofs.lemmas.List.{get_or_past}
use Rattle.std.proofs.lemmas.Bool.{cond-true, and_from, lt-ltb, eqb-true, cases_lt, cond_both}
use Rattle.std.proofs.lemmas.Nat.{mul-add-lt}
use Rattle.shelf.specs.Model.{Sized, AllSized}
use Rattle.image.specs.Layout.{cell_at, content_of}

pub place_lt : (n s i j : ℕ) → i < n → j < s → i * s + j < n * s
place_lt n s i j hi hj = omega (arith, mul-add-lt i s j n hi hj, mul_comm s n)

pub content_in : (n s : ℕ) (xs : List ℕ) (i j : ℕ) → i < n → j < s → content_of n s xs i j ≡ cell_at (n * s) xs (i * s + j)
unfolding content_of
content_in n s xs i j hi hj = cond-true _ _ _ (and_from _ _ (lt-ltb i n hi) (lt-ltb j s hj))

-- a readable place lies within the bytes
pub block_within : (m : ℕ) (xs : List ℕ) (p : ℕ) → p < m → slice_index_or xs (m * 128 + p) 1 ≡ 0 → p * 128 + 128 ≤ length xs
block_within m xs p lt e = ⊎_elim (λ h. omega arith) (λ h. omega (arith, get_or_past xs (m * 128 + p) 1 h)) (cases_lt (m * 128 + p) (length xs))

pub cell_sized : (m : ℕ) (xs : List ℕ) (p : ℕ) → p < m → Sized (cell_at m xs p)
unfolding cell_at
cell_sized m xs p lt =
    cond_both (slice_index_or xs (m * 128 + p) 1 == 0) (Some (take 128 (drop (p * 128) xs))) None Sized
    (λ e. let h = block_within m xs p lt (eqb-true _ _ e) in simp (length-take, length-drop) (omega arith)) (λ _. tt)

pub content_sized : (n s : ℕ) (xs : List ℕ) → AllSized n s (content_of n s xs)
content_sized n s xs i j hi hj =
    subst⁻¹ Sized (content_in n s xs i j hi hj) (cell_sized (n * s) xs (i * s + j) (place_lt n s i j hi hj))
