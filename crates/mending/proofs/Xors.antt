-- XORs block by block and byte by byte. Assumes nothing.
use Rattle.std.specs.Prelude.{Err}
use Rattle.std.proofs.Common.{◌≡◌, ℕ, ◌+◌, ◌<◌, ◌≤◌, List, length, get_or, set, replicate, sym, refl, ap, ◌∙◌, ap₂, add-one, arith, get_or-set_other}
use lib.Bits.{bit_xor, xor_zero_l, xor_zero_r, xor_comm, xor_assoc}
use Rattle.std.proofs.lemmas.List.FromFn.{get_or-map-range_with_len, fill_by_all}
use Rattle.std.proofs.lemmas.List.{get_or-replicate}
use Rattle.std.proofs.lemmas.Bool.{cond-true, cond-false, eq-eqb, ne_eqb}
use Rattle.block.specs.declared.shapes.Defect.{Defect}
use Rattle.block.specs.declared.shapes.Defect.TheVariants.{Blind}
use Rattle.block.specs.declared.shapes.Role.{Role}
use Rattle.block.specs.declared.shapes.Role.TheVariants.{Parity, Data}
use Rattle.block.specs.Shapes.{Verdict}
use Rattle.block.specs.Layout.{table}
use Rattle.stripe.specs.declared.shapes.Plan.{Plan}
use Rattle.stripe.specs.declared.shapes.Plan.TheVariants.{Lost, BySum, ByAll}
use Rattle.stripe.specs.Mend.{byte_in, owner_in, xors, at, others, others_row}
use Rattle.stripe.specs.Renew.{summed_row}
use Rattle.stripe.specs.View.{as_view}
use Rattle.stripe.proofs.Rows.{Filled, filled_none, filled_more, filled_all, table_same}
use Rattle.mending.specs.Rows.{xor_row, data_row, data_owner}

-- a payload whose first i bytes had f XORed in
pub record Xored (was : List ℕ) (f : ℕ → ℕ) (i : ℕ) (row : List ℕ) : Type 0 where
  pub done : Filled 80 (λ j. bit_xor (get_or was j 0) (f j)) i row
  pub rest : (j : ℕ) → i ≤ j → get_or row j 0 ≡ get_or was j 0

module _ (was : List ℕ) (f : ℕ → ℕ) where
  pub xored_none : length was ≡ 80 → Xored was f 0 was
  xored_none e = record { done = filled_none 80 _ was e; rest = λ j h. refl }

  pub xored_more : (i : ℕ) (row : List ℕ) (v : ℕ) → i < 80 → Xored was f i row → v ≡ bit_xor (get_or row i 0) (f i) → Xored was f (i + 1) (set row i v)
  xored_more i row v h x e = record {
    done = filled_more 80 _ i row v h x.done (e ∙ ap (λ b. bit_xor b (f i)) (x.rest i (omega arith)));
    rest = λ j l. get_or-set_other row i j v 0 (λ q. omega arith) ∙ x.rest j (omega arith);
  }

  pub xored_all : (i : ℕ) (row : List ℕ) → 80 ≡ i → Xored was f i row → row ≡ xor_row was f
  unfolding xor_row
  xored_all i row e x = filled_all 80 _ i row 0 e x.done

pub xors_none : (f : ℕ → ℕ) → 0 ≡ xors 0 f
unfolding xors
xors_none f = refl

pub xors_more : (f : ℕ → ℕ) (k x y : ℕ) → x ≡ xors k f → y ≡ f k → bit_xor x y ≡ xors (k + 1) f
unfolding xors
xors_more f k x y e h = ap₂ bit_xor e h ∙ sym (ap (λ n. xors n f) (add-one k))

pub at_here : (f : ℕ → ℕ) (j x k : ℕ) → k ≡ j → x ≡ at f j x k
at_here f j x k e = sym (cond-true _ _ _ (eq-eqb k j e))

pub at_other : (f : ℕ → ℕ) (j x k : ℕ) → (k ≡ j → ⊥) → f k ≡ at f j x k
at_other f j x k ne = sym (cond-false _ _ _ (ne_eqb k j ne))

xor_at : (row : List ℕ) (g : ℕ → ℕ) (i : ℕ) → i < 80 → get_or (xor_row row g) i 0 ≡ bit_xor (get_or row i 0) (g i)
unfolding xor_row
xor_at row g i l = get_or-map-range_with_len (λ n. bit_xor (get_or row n 0) (g n)) 0 80 i i 0 l (omega arith)

-- an unfit block changes nothing
pub xor_unfit : (row : List ℕ) (v : Verdict) (c : Defect) → length row ≡ 80 → v ≡ Err c → row ≡ xor_row row (λ i. byte_in v i)
unfolding xor_row
xor_unfit row v c l e =
    fill_by_all (λ i. bit_xor (get_or row i 0) (byte_in v i)) row 80 0 l
    (λ k h. sym (xor_zero_r (get_or row k 0)) ∙ ap (λ w. bit_xor (get_or row k 0) (byte_in w k)) (sym e))

turned : (x y z : ℕ) → bit_xor (bit_xor x y) z ≡ bit_xor (bit_xor z y) x
turned x y z = xor_comm (bit_xor x y) z ∙ ap (bit_xor z) (xor_comm x y) ∙ sym (xor_assoc z y x)

-- one more block of every byte's XOR
row_more : (F : ℕ → ℕ → ℕ) (k : ℕ) (row : List ℕ) (g : ℕ → ℕ) → row ≡ table 80 (λ i. xors k (F i)) → ((i : ℕ) → g i ≡ F i k) → xor_row row g ≡ table 80 (λ i. xors (k + 1) (F i))
unfolding xor_row
row_more F k row g e h =
    table_same 80 _ _ (λ i l. xors_more (F i) k _ _ (ap (λ r. get_or r i 0) e ∙ get_or-map-range_with_len (λ n. xors k (F n)) 0 80 i i 0 l (omega arith)) (h i))

module _ (vs : List Verdict) (j : ℕ) (p : List ℕ) where
  bytes : ℕ → ℕ → ℕ
  bytes i k = byte_in (get_or vs k (Err Blind)) i

  pub data_none : replicate 80 0 ≡ data_row vs 0 j p
  unfolding data_row xors
  data_none = refl

  pub data_here : (k : ℕ) (row : List ℕ) → row ≡ data_row vs k j p → k ≡ j → xor_row row (λ i. get_or p i 0) ≡ data_row vs (k + 1) j p
  unfolding data_row bytes
  data_here k row e q = row_more (λ i. at (bytes i) j (get_or p i 0)) k row _ e (λ i. at_here (bytes i) j (get_or p i 0) k q)

  pub data_other : (k : ℕ) (row : List ℕ) (v : Verdict) → row ≡ data_row vs k j p → (k ≡ j → ⊥) → v ≡ get_or vs k (Err Blind) → xor_row row (λ i. byte_in v i) ≡ data_row vs (k + 1) j p
  unfolding data_row bytes
  data_other k row v e ne q =
      row_more (λ i. at (bytes i) j (get_or p i 0)) k row _ e (λ i. ap (λ w. byte_in w i) q ∙ at_other (bytes i) j (get_or p i 0) k ne)

  data_at : (d i : ℕ) → i < 80 → get_or (data_row vs d j p) i 0 ≡ xors d (at (bytes i) j (get_or p i 0))
  unfolding data_row bytes
  data_at d i l = get_or-map-range_with_len (λ n. xors d (at (bytes n) j (get_or p n 0))) 0 80 i i 0 l (omega arith)

module _ (q : Verdict) (vs : List Verdict) (d : ℕ) where
  abbrev zeros : List ℕ
  zeros = replicate 80 0

  blank : (j i : ℕ) → i < 80 → xors d (at (bytes vs j zeros i) j (get_or zeros i 0)) ≡ xors d (at (bytes vs j zeros i) j 0)
  blank j i l = ap (λ x. xors d (at (bytes vs j zeros i) j x)) (get_or-replicate 80 i 0 0 l)

  pub others_parity : (r : Role) (row : List ℕ) → r ≡ Parity → row ≡ data_row vs d d zeros → row ≡ others_row d (as_view q vs) r
  unfolding others_row others data_row bytes
  others_parity r row is e = e ∙ table_same 80 _ _ (λ i l. blank d i l ∙ sym (xor_zero_l _)) ∙ ap (others_row d (as_view q vs)) (sym is)

  pub others_data : (r : Role) (j : ℕ) (row out : List ℕ) → r ≡ Data j → row ≡ data_row vs d j zeros → out ≡ xor_row row (λ i. byte_in q i) → out ≡ others_row d (as_view q vs) r
  unfolding others_row others xor_row bytes
  others_data r j row out is e h =
      h
      ∙ table_same 80 _ (λ i. bit_xor (byte_in q i) (xors d (at (bytes vs j zeros i) j 0)))
      (λ i l. xor_comm (get_or row i 0) (byte_in q i) ∙ ap (bit_xor (byte_in q i)) (ap (λ b. get_or b i 0) e ∙ data_at vs j zeros d i l ∙ blank j i l))
      ∙ ap (others_row d (as_view q vs)) (sym is)

  pub owners_parity : (r : Role) (x : ℕ) → r ≡ Parity → x ≡ data_owner vs d d 0 → x ≡ others d (as_view q vs) r owner_in
  unfolding others
  owners_parity r x is e = e ∙ sym (xor_zero_l _) ∙ ap (λ t. others d (as_view q vs) t owner_in) (sym is)

  pub owners_data : (r : Role) (j x y : ℕ) → r ≡ Data j → x ≡ owner_in q → y ≡ data_owner vs d j 0 → bit_xor x y ≡ others d (as_view q vs) r owner_in
  unfolding others
  owners_data r j x y is e h = ap₂ bit_xor e h ∙ ap (λ t. others d (as_view q vs) t owner_in) (sym is)

  module _ (plan : Plan) (j : ℕ) (p : List ℕ) where
    pub summed_lost : plan ≡ Lost → zeros ≡ summed_row plan d (as_view q vs) j p
    unfolding summed_row
    summed_lost is = ap (λ t. summed_row t d (as_view q vs) j p) (sym is)

    pub summed_all : (row : List ℕ) → plan ≡ ByAll → row ≡ data_row vs d j p → row ≡ summed_row plan d (as_view q vs) j p
    unfolding summed_row data_row
    summed_all row is e = e ∙ ap (λ t. summed_row t d (as_view q vs) j p) (sym is)

    pub summed_sum : (v : Verdict) (row out : List ℕ) → plan ≡ BySum → v ≡ get_or vs j (Err Blind) → row ≡ xor_row p (λ i. byte_in v i) → out ≡ xor_row row (λ i. byte_in q i) → out ≡ summed_row plan d (as_view q vs) j p
    unfolding summed_row xor_row
    summed_sum v row out is same e h =
        h
        ∙ table_same 80 _ (λ i. bit_xor (bit_xor (byte_in q i) (byte_in (get_or vs j (Err Blind)) i)) (get_or p i 0)) (λ i l.
        ap (λ x. bit_xor x (byte_in q i)) (ap (λ r. get_or r i 0) e ∙ xor_at p (λ n. byte_in v n) i l ∙ ap (λ w. bit_xor (get_or p i 0) (byte_in w i)) same)
        ∙ turned (get_or p i 0) (byte_in (get_or vs j (Err Blind)) i) (byte_in q i))
        ∙ ap (λ t. summed_row t d (as_view q vs) j p) (sym is)
