-- What the number of ones in a mask says of the blocks of a stripe.
use Rattle.std.proofs.Common.{◌≡◌, ℕ, zero, suc, ◌+◌, ◌<◌, ◌≤◌, Bool, true, false, List, [], ◌∷◌, length, get_or, sym, refl, ap, ◌∙◌, arith}
use Rattle.std.proofs.lemmas.List.FromFn.{get_or-map-range_with_len, length-map-range_with_len}
use Rattle.std.proofs.lemmas.Bool.{both_ways}
use Rattle.block.specs.declared.shapes.Role.{Role}
use Rattle.block.specs.Judging.{Setup}
use Rattle.block.specs.Places.{role_at, slot_of}
use Rattle.stripe.specs.declared.shapes.Decision.{Decision}
use Rattle.stripe.specs.declared.shapes.Decision.TheVariants.{Clean, Only, Lost}
use Rattle.stripe.specs.Judge.{bad_role, bad_slot, bad_slots, ones_in, only_role, decided, decision}
use Rattle.stripe.specs.Masks.{count_true, first_true}
use Rattle.stripe.specs.View.{View}
use Rattle.runs.specs.Runs.{InStripe}
use Rattle.runs.proofs.Places.{role_of_slot, slot_in, slot_of_role}

count_none : (bs : List Bool) → count_true bs ≡ 0 → (k : ℕ) → get_or bs k false ≡ false
count_none [] e k = refl
count_none (true ∷ bs) e k = absurd (omega arith)
count_none (false ∷ bs) e zero = refl
count_none (false ∷ bs) e (suc k) = count_none bs (omega arith) k

first_true_lem : (bs : List Bool) → 1 ≤ count_true bs → (first_true bs < length bs) × (get_or bs (first_true bs) false ≡ true)
first_true_lem [] h = absurd (omega arith)
first_true_lem (true ∷ bs) h = (omega arith, refl)
first_true_lem (false ∷ bs) h = let r = first_true_lem bs (omega arith) in (omega arith, r.1)

count_one : (bs : List Bool) → count_true bs ≡ 1 → (k : ℕ) → get_or bs k false ≡ true → k ≡ first_true bs
count_one [] e k t = absurd (omega arith)
count_one (true ∷ bs) e zero t = refl
count_one (true ∷ bs) e (suc k) t = absurd (both_ways (get_or bs k false) (count_none bs (omega arith) k) t)
count_one (false ∷ bs) e zero t = cc
count_one (false ∷ bs) e (suc k) t = ap suc (count_one bs (omega arith) k t)

count_two : (bs : List Bool) → 2 ≤ count_true bs
    → (i : ℕ) × (j : ℕ) × (i < j) × (j < length bs) × (get_or bs i false ≡ true) × (get_or bs j false ≡ true)
count_two [] h = absurd (omega arith)
count_two (true ∷ bs) h = let r = first_true_lem bs (omega arith) in (0, suc (first_true bs), omega arith, omega arith, refl, r.1)
count_two (false ∷ bs) h =
    let r = count_two bs (omega arith) in (suc r.0, suc r.1, omega (arith, r.2), omega (arith, r.3), r.4, r.5)

module _ (E : Setup) (s : ℕ) (V : View) where
  abbrev Bits : List Bool
  Bits = bad_slots E.D s V (E.D + 1)

  bit_at : (c : ℕ) → c < E.D + 1 → get_or Bits c false ≡ bad_role E.D V (role_at E.D s c)
  unfolding bad_slots
  bit_at c h = get_or-map-range_with_len (bad_slot E.D s V) 0 (E.D + 1) c c false h (omega arith)

  bit_of : (r : Role) → InStripe E r → get_or Bits (slot_of E.D s r) false ≡ bad_role E.D V r
  bit_of r i = bit_at (slot_of E.D s r) (slot_in E s r i) ∙ ap (bad_role E.D V) (role_of_slot E.D s r)

  bits_long : length Bits ≡ E.D + 1
  unfolding bad_slots
  bits_long = length-map-range_with_len (bad_slot E.D s V) 0 (E.D + 1)

  -- the stripe's only bad block
  pub record Alone (r : Role) : Type 0 where
    pub inside : InStripe E r
    pub itself : bad_role E.D V r ≡ true
    pub others : (q : Role) → InStripe E q → bad_role E.D V q ≡ true → q ≡ r

  -- two bad blocks
  pub record Several : Type 0 where
    pub one : Role
    pub other : Role
    pub one_in : InStripe E one
    pub other_in : InStripe E other
    pub apart : one ≡ other → ⊥
    pub one_bad : bad_role E.D V one ≡ true
    pub other_bad : bad_role E.D V other ≡ true

  -- what a decision says
  abbrev pub Says : Decision → Type 0
  Says Clean = (r : Role) → InStripe E r → bad_role E.D V r ≡ false
  Says (Only r) = Alone r
  Says Lost = Several

  says_first : count_true Bits ≡ 1 → Alone (role_at E.D s (first_true Bits))
  says_first e =
      let f = first_true_lem Bits (omega arith) in
      let l : first_true Bits < E.D + 1 = omega (arith, f.0, bits_long) in
      record {
        inside = (slot_of_role E s (first_true Bits) l).0;
        itself = sym (bit_at (first_true Bits) l) ∙ f.1;
        others =
            λ q i t.
            sym (role_of_slot E.D s q) ∙ ap (role_at E.D s) (count_one Bits e (slot_of E.D s q) (bit_of q i ∙ t));
      }

  says_two : 2 ≤ count_true Bits → Several
  says_two h =
      let r = count_two Bits h in
      let l : r.1 < E.D + 1 = omega (arith, r.3, bits_long) in
      let k : r.0 < E.D + 1 = omega (arith, r.2) in
      let i = slot_of_role E s r.0 k in
      let j = slot_of_role E s r.1 l in
      record {
        one = role_at E.D s r.0;
        other = role_at E.D s r.1;
        one_in = i.0;
        other_in = j.0;
        apart =
            λ e. let z : r.0 ≡ r.1 = sym i.1 ∙ (ap (slot_of E.D s) e ∙ j.1) in omega (arith, z, r.2);
        one_bad = sym (bit_at r.0 k) ∙ r.4;
        other_bad = sym (bit_at r.1 l) ∙ r.5;
      }

  pub says : Says (decision E.D s V)
  unfolding decision ones_in only_role
  says = go (count_true Bits) refl
    where
      go : (n : ℕ) → count_true Bits ≡ n → Says (decided n (role_at E.D s (first_true Bits)))
      go zero e = λ r i. sym (bit_of r i) ∙ count_none Bits e (slot_of E.D s r)
      go (suc zero) e = says_first e
      go (suc (suc n)) e = says_two (omega arith)

  -- no block is bad
  pub is_clean : ((r : Role) → InStripe E r → bad_role E.D V r ≡ false) → decision E.D s V ≡ Clean
  is_clean h = go (decision E.D s V) says
    where
      go : (x : Decision) → Says x → x ≡ Clean
      go Clean y = refl
      go (Only r) y = absurd (both_ways (bad_role E.D V r) (h r y.inside) y.itself)
      go Lost y = absurd (both_ways (bad_role E.D V y.one) (h y.one y.one_in) y.one_bad)

  -- r is the only bad block
  pub is_only : (r : Role) → Alone r → decision E.D s V ≡ Only r
  is_only r a = go (decision E.D s V) says
    where
      go : (x : Decision) → Says x → x ≡ Only r
      go Clean y = absurd (both_ways (bad_role E.D V r) (y r a.inside) a.itself)
      go (Only q) y = ap Only (a.others q y.inside y.itself)
      go Lost y =
          absurd (y.apart (a.others y.one y.one_in y.one_bad ∙ sym (a.others y.other y.other_in y.other_bad)))

  -- two blocks are bad
  pub is_lost : Several → decision E.D s V ≡ Lost
  is_lost a = go (decision E.D s V) says
    where
      go : (x : Decision) → Says x → x ≡ Lost
      go Clean y = absurd (both_ways (bad_role E.D V a.one) (y a.one a.one_in) a.one_bad)
      go (Only q) y =
          absurd (a.apart (y.others a.one a.one_in a.one_bad ∙ sym (y.others a.other a.other_in a.other_bad)))
      go Lost y = refl
