-- One more data block: whether one leads, and the greatest lead. Assumes nothing.
use Rattle.std.proofs.Common.{◌≡◌, ℕ, zero, suc, ◌+◌, Bool, ◌||◌, List, None, refl, sym, ap, ◌∙◌, add-one, arith}
use Rattle.std.proofs.Math.Bool.{or-false, or_assoc, or_comm}
use Rattle.std.specs.List.{list_any, range_with_len}
use Rattle.block.specs.declared.shapes.Role.TheVariants.{Parity, Data}
use Rattle.stripe.specs.Findings.{lead_at, greater, greatest_lead}
use Rattle.stripe.specs.Judge.{leads_at, any_lead}
use Rattle.stripe.specs.View.{View}

-- one number more
any_more : (p : ℕ → Bool) (a n : ℕ) → list_any p (range_with_len a (suc n)) ≡ (list_any p (range_with_len a n) || p (a + n))
any_more p a zero = or-false (p a) ∙ ap p (omega arith)
any_more p a (suc n) =
    ap (λ r. p a || r) (any_more p (a + 1) n) ∙ sym (or_assoc (p a) (list_any p (range_with_len (a + 1) n)) (p (a + 1 + n)))
    ∙ ap (λ k. (p a || list_any p (range_with_len (a + 1) n)) || p k) (omega arith)

-- of the first n data blocks, one after the other
pub any_up_to : (V : View) (p : List ℕ) (n : ℕ) → list_any (λ j. leads_at (V (Data j)) p j) (range_with_len 0 n) ≡ any_lead V p n
unfolding any_lead
any_up_to V p zero = refl
any_up_to V p (suc n) =
    let q : ℕ → Bool = λ j. leads_at (V (Data j)) p j in
    any_more q 0 n ∙ ap (λ k. list_any q (range_with_len 0 n) || q k) (omega arith) ∙ ap (λ r. r || q n) (any_up_to V p n)
    ∙ or_comm (any_lead V p n) (leads_at (V (Data n)) p n)

pub greatest_none : (V : View) → None ≡ greatest_lead V 0
unfolding greatest_lead
greatest_none V = refl

pub greatest_more : (V : View) (j : ℕ) → greatest_lead V (j + 1) ≡ greater (lead_at (V (Data j)) (V Parity) j) (greatest_lead V j)
unfolding greatest_lead
greatest_more V j = ap (greatest_lead V) (add-one j)
