-- Masks as numbers, and one more slot of a stripe's mask. Assumes nothing.
use Rattle.std.proofs.Common.{◌≡◌, ℕ, zero, suc, ◌+◌, ◌*◌, ◌/◌, ◌%◌, ◌^◌, ◌<◌, ◌≤◌, Bool, true, false, cond, List, [], ◌∷◌, ◌++◌, length, sym, refl, ap, ◌∙◌, subst, ap₂, pow-suc, arith, lit<}
use lib.Bits.{bit_or, or_shifted_r}
use lib.Count.{ones, ones_in as digits, ones_step, count_trailing_zeros, under}
use Rattle.std.proofs.lemmas.Nat.{shl_whole}
use Rattle.std.proofs.lemmas.List.FromFn.{map-range_with_len_more, length-map-range_with_len}
use Rattle.block.specs.Layout.{table}
use Rattle.block.specs.Places.{role_at}
use Rattle.block.specs.declared.shapes.Role.{Role}
use Rattle.stripe.specs.declared.shapes.Decision.TheVariants.{Clean, Only, Lost}
use Rattle.stripe.specs.Judge.{bad_slot, bad_slots, mask_number, ones_in, only_role, decided, decision}
use Rattle.stripe.specs.Masks.{mask_of, count_true, first_true}
use Rattle.stripe.specs.View.{View}

mask_low : (b : Bool) (m : ℕ) → (cond b 1 0 + 2 * m) % 2 ≡ cond b 1 0
mask_low true m = omega arith
mask_low false m = omega arith

mask_half : (b : Bool) (m : ℕ) → (cond b 1 0 + 2 * m) / 2 ≡ m
mask_half true m = omega arith
mask_half false m = omega arith

mask_lt : (bs : List Bool) → mask_of bs < 2 ^ length bs
mask_lt [] = omega arith
mask_lt (true ∷ bs) = let h = mask_lt bs in omega (arith, pow-suc 2 (length bs))
mask_lt (false ∷ bs) = let h = mask_lt bs in omega (arith, pow-suc 2 (length bs))

-- one more slot sets or leaves the next digit
mask_push : (bs : List Bool) (b : Bool) → mask_of (bs ++ b ∷ []) ≡ cond b (2 ^ length bs) 0 + mask_of bs
mask_push [] true = refl
mask_push [] false = refl
mask_push (a ∷ bs) true = let h = mask_push bs true in omega (arith, pow-suc 2 (length bs))
mask_push (a ∷ bs) false = let h = mask_push bs false in omega arith

-- the ones of the number are the bad slots
pub ones_mask : (bs : List Bool) → ones (mask_of bs) ≡ count_true bs
unfolding ones digits
ones_mask [] = refl
ones_mask (b ∷ bs) =
    ones_step (mask_of (b ∷ bs))
    ∙ ap₂ (λ (x y : ℕ). x + ones y) (mask_low b (mask_of bs)) (mask_half b (mask_of bs))
    ∙ ap (λ (x : ℕ). cond b 1 0 + x) (ones_mask bs)

-- the lowest one of the number is the first bad slot
pub trailing_mask : (k : ℕ) (bs : List Bool) → length bs ≤ k → 0 < count_true bs → count_trailing_zeros k (mask_of bs) ≡ first_true bs
unfolding count_trailing_zeros
trailing_mask k [] le some = absurd (omega arith)
trailing_mask zero (b ∷ bs) le some = absurd (omega arith)
trailing_mask (suc k) (true ∷ bs) le some = ap₂ (λ (x y : ℕ). under x (count_trailing_zeros k y)) (mask_low true (mask_of bs)) (mask_half true (mask_of bs))
trailing_mask (suc k) (false ∷ bs) le some =
    ap₂ (λ (x y : ℕ). under x (count_trailing_zeros k y)) (mask_low false (mask_of bs)) (mask_half false (mask_of bs))
    ∙ ap suc (trailing_mask k bs (omega arith) (omega arith))

first_lt : (bs : List Bool) → 0 < count_true bs → first_true bs < length bs
first_lt [] h = absurd (omega arith)
first_lt (true ∷ bs) h = omega arith
first_lt (false ∷ bs) h = let l = first_lt bs (omega arith) in omega arith

module _ (d s : ℕ) (V : View) where
  long : (i : ℕ) → length (bad_slots d s V i) ≡ i
  unfolding bad_slots
  long i = length-map-range_with_len (bad_slot d s V) 0 i

  mask_more : (i : ℕ) (b : Bool) → bad_slot d s V i ≡ b → mask_of (bad_slots d s V (i + 1)) ≡ cond b (2 ^ i) 0 + mask_of (bad_slots d s V i)
  unfolding bad_slots
  mask_more i b e =
      let f = bad_slot d s V in
      ap mask_of (map-range_with_len_more f 0 i i (omega arith)) ∙ mask_push (table i f) (f i)
      ∙ ap (λ n. cond (f i) (2 ^ n) 0 + mask_of (table i f)) (length-map-range_with_len f 0 i)
      ∙ ap (λ x. cond x (2 ^ i) 0 + mask_of (table i f)) e

  small : (i : ℕ) → mask_of (bad_slots d s V i) < 2 ^ i
  small i = subst (λ (n : ℕ). mask_of (bad_slots d s V i) < 2 ^ n) (long i) (mask_lt (bad_slots d s V i))

  pub mask_none : 0 ≡ mask_of (bad_slots d s V 0)
  unfolding bad_slots
  mask_none = refl

  pub mask_yes : (i m : ℕ) → i < 8 → bad_slot d s V i ≡ true → m ≡ mask_of (bad_slots d s V i) → bit_or m ((1 * 2 ^ i) % 2 ^ 8) ≡ mask_of (bad_slots d s V (i + 1))
  mask_yes i m h e inv =
      let lt = small i in
      let lt' : m < 2 ^ i = omega arith in
      ap (bit_or m) (shl_whole 1 1 i 8 (lit< tt) (omega arith)) ∙ or_shifted_r 1 i m lt' ∙ omega (arith, mask_more i true e)

  pub mask_no : (i m : ℕ) → bad_slot d s V i ≡ false → m ≡ mask_of (bad_slots d s V i) → m ≡ mask_of (bad_slots d s V (i + 1))
  mask_no i m e inv = omega (arith, mask_more i false e)

  pub mask_all : (i m : ℕ) → i ≡ d + 1 → m ≡ mask_of (bad_slots d s V i) → m ≡ mask_number d s V
  unfolding mask_number
  mask_all i m e inv = inv ∙ ap (λ n. mask_of (bad_slots d s V n)) e

  -- what the ones of the mask decide
  module _ (m : ℕ) (e : m ≡ mask_number d s V) where
    counted : ones m ≡ ones_in d s V
    unfolding mask_number ones_in
    counted = ap ones e ∙ ones_mask (bad_slots d s V (d + 1))

    pub clean : ones m ≡ 0 → Clean ≡ decision d s V
    unfolding decision
    clean h = ap (λ n. decided n (only_role d s V)) (sym h ∙ counted)

    some : ones m ≡ 1 → 0 < count_true (bad_slots d s V (d + 1))
    unfolding ones_in
    some h = omega (arith, counted)

    first : d ≤ 7 → ones m ≡ 1 → count_trailing_zeros 8 m ≡ first_true (bad_slots d s V (d + 1))
    unfolding mask_number
    first w h = ap (count_trailing_zeros 8) e ∙ trailing_mask 8 (bad_slots d s V (d + 1)) (omega (arith, long (d + 1))) (some h)

    pub low : d ≤ 7 → ones m ≡ 1 → count_trailing_zeros 8 m ≤ d
    low w h = let f = first_lt (bad_slots d s V (d + 1)) (some h) in omega (arith, long (d + 1), first w h)

    pub only : d ≤ 7 → ones m ≡ 1 → (r : Role) → r ≡ role_at d s (count_trailing_zeros 8 m) → Only r ≡ decision d s V
    unfolding decision only_role
    only w h r p = ap Only (p ∙ ap (role_at d s) (first w h)) ∙ ap (λ n. decided n (only_role d s V)) (sym h ∙ counted)

    pub gone : 2 ≤ ones m → Lost ≡ decision d s V
    unfolding decision
    gone h = go (ones_in d s V) (omega (arith, counted))
      where
        go : (n : ℕ) → 2 ≤ n → Lost ≡ decided n (only_role d s V)
        go zero l = absurd (omega arith)
        go (suc zero) l = absurd (omega arith)
        go (suc (suc n)) l = refl
