-- One more slot that is in.
use Rattle.std.proofs.Common.{◌≡◌, ℕ, ◌+◌, true, false, ◌&&◌, ap, ◌∙◌, add-one}
use Rattle.stripe.specs.View.{Slots}
use Rattle.runs.specs.Slots.{is_in, all_in_below}

-- one more slot
pub in_more : (σ : Slots) (n : ℕ) → is_in (σ n) ≡ true → all_in_below (n + 1) σ ≡ all_in_below n σ
in_more σ n e = ap (λ m. all_in_below m σ) (add-one n) ∙ ap (λ b. b && all_in_below n σ) e

pub out_more : (σ : Slots) (n : ℕ) → is_in (σ n) ≡ false → all_in_below (n + 1) σ ≡ false
out_more σ n e = ap (λ m. all_in_below m σ) (add-one n) ∙ ap (λ b. b && all_in_below n σ) e
