-- Unused versions, one after the other. Assumes nothing.
use Rattle.std.proofs.Common.{◌≡◌, ℕ, zero, suc, ◌+◌, ◌&&◌, List, ap, refl, ◌==◌}
use Rattle.std.specs.List.{list_all, range_with_len}
use Rattle.block.specs.Judging.{unused_zero}
use Rattle.block.specs.Layout.{version_of}

-- the versions from k on, n of them
pub all_zero : (b : List ℕ) (k n : ℕ) → list_all (λ i. version_of b i == 0) (range_with_len k n) ≡ unused_zero b k n
unfolding unused_zero
all_zero b k zero = refl
all_zero b k (suc n) = ap (λ r. version_of b k == 0 && r) (all_zero b (k + 1) n)
