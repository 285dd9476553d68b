-- The worked cases of a stripe on three cards. Assumes nothing.
use Rattle.std.specs.Prelude.{Ok, Err}
use Rattle.std.proofs.Common.{◌≡◌, ℕ, Bool, false, cond, ◌||◌, eqb, ltb, List, [], ◌∷◌, replicate, refl, ap, ◌∙◌, ap₂}
use Rattle.block.specs.declared.shapes.Defect.TheVariants.{Broken, Foreign}
use Rattle.block.specs.declared.shapes.Role.{Role}
use Rattle.block.specs.declared.shapes.Role.TheVariants.{Parity, Data}
use Rattle.block.specs.Shapes.{Verdict}
use Rattle.block.specs.Judging.{Setup, broken_by, marks_fit, native_block, judged}
use Rattle.block.specs.Places.{role_at}
use Rattle.checksum.specs.Fletcher.{fletcher}
use Rattle.stripe.specs.Judge.{lags_at, leads_at, any_lead, parity_bad, bad_role, bad_slots, mask_number, ones_in, only_role, decided, decision}
use Rattle.stripe.specs.Masks.{mask_of, count_true, first_true}
use Rattle.stripe.specs.View.{View}
use Rattle.runs.specs.declared.shapes.Gathered.{Gathered}
use Rattle.runs.specs.Gather.{quick, patch_by, patch_of, as_found, as_rebuilt, gathered_quick, gathered_all, gathered}
use Rattle.worked.specs.Cases.{Mirrored, three_cards}

-- a block of zeros has its sum, and its kind is neither 1 nor 2
zero_whole : broken_by fletcher (replicate 128 0) ≡ false
unfolding broken_by
zero_whole = refl

zero_marks : (d m s : ℕ) (r : Role) → marks_fit d m s r (replicate 128 0) ≡ false
unfolding marks_fit
zero_marks d m s Parity = refl
zero_marks d m s (Data j) = refl

zero_native : (E : Setup) (s : ℕ) (r : Role) → native_block E s r (replicate 128 0) ≡ false
unfolding native_block
zero_native E s r = simp (zero_marks E.D E.mark s r)

pub zero_block : (E : Setup) (s : ℕ) (r : Role) → E.sum ≡ fletcher → judged E s r (replicate 128 0) ≡ Err Foreign
zero_block E s r e =
    ap₂ (λ (b n : Bool). cond b (Err Broken) (cond n (Ok (replicate 128 0)) (Err Foreign)))
    (ap (λ h. broken_by h (replicate 128 0)) e ∙ zero_whole) (zero_native E s r)

module _ (V : View) (x y p : List ℕ) (a b : ℕ) (M : Mirrored V x y p a b) where
  -- which blocks are bad, slot by slot
  abbrev bits : List Bool
  bits = ltb a 2 ∷ ltb b 1 ∷ (ltb 1 b || (ltb 2 a || false)) ∷ []

  first_bad : bad_role 2 V (Data 0) ≡ ltb a 2
  first_bad = ap₂ (λ v q. lags_at v q 0) M.first M.parity ∙ ap₂ ltb M.of_first M.mirrors_first

  second_bad : bad_role 2 V (Data 1) ≡ ltb b 1
  second_bad = ap₂ (λ v q. lags_at v q 1) M.second M.parity ∙ ap₂ ltb M.of_second M.mirrors_second

  parity_bad_lem : bad_role 2 V Parity ≡ (ltb 1 b || (ltb 2 a || false))
  unfolding any_lead
  parity_bad_lem =
      ap (λ q. parity_bad q V 2) M.parity
      ∙ ap₂ (λ v u. leads_at v p 1 || (leads_at u p 0 || false)) M.second M.first
      ∙ ap₂ (λ m n. m || (n || false)) (ap₂ ltb M.mirrors_second M.of_second) (ap₂ ltb M.mirrors_first M.of_first)

  all_bad : bad_slots 2 0 V 3 ≡ bits
  unfolding bad_slots
  all_bad = ap₂ (λ m n. m ∷ n ∷ bad_role 2 V Parity ∷ []) first_bad second_bad ∙ ap (λ n. ltb a 2 ∷ ltb b 1 ∷ n ∷ []) parity_bad_lem

  pub mask_is : mask_number 2 0 V ≡ mask_of bits
  unfolding mask_number
  mask_is = ap mask_of all_bad

  decides : decision 2 0 V ≡ decided (count_true bits) (role_at 2 0 (first_true bits))
  unfolding decision ones_in only_role
  decides = ap (λ bs. decided (count_true bs) (role_at 2 0 (first_true bs))) all_bad

  first_quick : quick (V (Data 0)) (V Parity) 0 ≡ eqb a 2
  first_quick = ap₂ (λ v q. quick v q 0) M.first M.parity ∙ ap₂ eqb M.of_first M.mirrors_first

  second_quick : quick (V (Data 1)) (V Parity) 1 ≡ eqb b 1
  second_quick = ap₂ (λ v q. quick v q 1) M.second M.parity ∙ ap₂ eqb M.of_second M.mirrors_second

  module _ (S t m : ℕ) (h : List ℕ → ℕ) where
    abbrev E : Setup
    E = three_cards S t m h

    abbrev found : ℕ → Bool → Bool → Verdict → Gathered
    found j q bad v =
        cond q (gathered_quick v) (record { obtained = cond bad (as_rebuilt (patch_of E 0 V)) (as_found v); looks = 3; patch = patch_of E 0 V })

    pub first_is : gathered E 0 V 0 ≡ found 0 (eqb a 2) (ltb a 2) (Ok x)
    unfolding gathered gathered_all
    first_is = ap₂ (λ q bad. found 0 q bad (V (Data 0))) first_quick first_bad ∙ ap (found 0 (eqb a 2) (ltb a 2)) M.first

    pub second_is : gathered E 0 V 1 ≡ found 1 (eqb b 1) (ltb b 1) (Ok y)
    unfolding gathered gathered_all
    second_is = ap₂ (λ q bad. found 1 q bad (V (Data 1))) second_quick second_bad ∙ ap (found 1 (eqb b 1) (ltb b 1)) M.second

    pub patch_is : patch_of E 0 V ≡ patch_by E 0 V (decided (count_true bits) (role_at 2 0 (first_true bits)))
    unfolding patch_of
    patch_is = ap (patch_by E 0 V) decides
