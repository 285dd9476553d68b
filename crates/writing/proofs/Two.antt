-- New blocks made from old parity and the old block depend on these two alone. Assumes nothing.
use Rattle.std.proofs.Common.{◌≡◌, ℕ, false, List, ap₂}
use Rattle.block.specs.declared.shapes.Role.TheVariants.{Parity, Data}
use Rattle.block.specs.Shapes.{Verdict}
use Rattle.block.specs.Judging.{Setup}
use Rattle.stripe.specs.declared.shapes.Plan.TheVariants.{BySum}
use Rattle.stripe.specs.Renew.{summed_row, new_versions, new_parity}
use Rattle.stripe.specs.View.{View}
use Rattle.writing.specs.Prepare.{pair_by, pair_of}

-- every data block is b
abbrev two_of : Verdict → Verdict → View
two_of b q Parity = q
two_of b q (Data k) = b

pub pair_two : (E : Setup) (s : ℕ) (V W : View) (j : ℕ) (p : List ℕ) (o : ℕ) → V (Data j) ≡ W (Data j) → V Parity ≡ W Parity
    → pair_of BySum false E s V j p o ≡ pair_of BySum false E s W j p o
unfolding pair_of new_parity summed_row new_versions
pair_two E s V W j p o e h = ap₂ (λ b q. pair_by BySum false E s (two_of b q) j p o) e h
