-- What a write to one place of an image leaves.
use Rattle.std.specs.Prelude.{◌≡◌, ℕ, ◌+◌, ◌-◌, ◌*◌, ◌/◌, ◌%◌, ◌<◌, ◌≤◌, min, true, cond, ◌≢◌, ◌⊎◌, List, [], ◌∷◌, ◌++◌, length, get_or, take, drop, ◌==◌, slice_index, slice_index_or, refl, Some, None}
use Rattle.std.proofs.Math.Path.{sym, ap, ap₂}
use Rattle.std.proofs.Common.{subst, ◌∙◌, inl, inr, length-take}
use Rattle.std.proofs.Math.Logic.{⊎_elim}
use native.Mathlib.Omega.{arith}
use Rattle.std.proofs.Math.ListN.{length-set, length-drop}
use Rattle.std.proofs.Math.Seq.{paste, get_or-set_other, get_or-set_same, get_or-take, get_or-drop, ext_get_or}
use Rattle.std.proofs.lemmas.List.{append-nil, get_or_append_left, get_or-append_right, length-append, length-take-le}
use Rattle.std.proofs.lemmas.List.Edits.{length-paste}
use Rattle.std.proofs.lemmas.Bool.{and_parts, and_from, ltb-true, lt-ltb, eqb-true, eq-eqb, cond-true, cond_both, cases_order}
use Rattle.std.proofs.lemmas.Nat.{div-mul-add, mod-mul-add}
use Rattle.shelf.specs.Model.{Write, OwnCard, Faithful}
use Rattle.image.specs.Sized.{place_lt, content_in}
use Rattle.image.specs.Seen.{cell_present}
use Rattle.image.specs.Layout.{accepts, cell_at, content_of, put_at, stored, replayed, image_conduct}

-- a place has one number
same_place : (s i j i' j' : ℕ) → j < s → j' < s → i * s + j ≡ i' * s + j' → (i ≡ i') × (j ≡ j')
same_place s i j i' j' h h' e =
    (sym (div-mul-add i s j h) ∙ ap (λ x. x / s) e ∙ div-mul-add i' s j' h', sym (mod-mul-add i s j h) ∙ ap (λ x. x % s) e ∙ mod-mul-add i' s j' h')

below_take : (n : ℕ) (xs : List ℕ) (k : ℕ) → k < length (take n xs) → k < n
below_take n xs k h = let l : k < min n (length xs) = subst (λ x. k < x) (length-take n xs) h in omega arith

apart : (q p k : ℕ) → q ≢ p → k < 128 → (q * 128 + k < p * 128) ⊎ (p * 128 + 128 ≤ q * 128 + k)
apart q p k ne h = ⊎_elim (λ e. absurd (ne e)) (⊎_elim (λ l. inl (omega arith)) (λ l. inr (omega arith))) (cases_order q p)

module _ (m : ℕ) (xs : List ℕ) (p : ℕ) (bs : List ℕ) (len : length xs ≡ m * 129) (lt : p < m) (b : length bs ≡ 128) where
  front : length (take (p * 128) xs) ≡ p * 128
  front = length-take-le (p * 128) xs (omega arith)

  front_mid : length (take (p * 128) xs ++ take 128 bs) ≡ p * 128 + 128
  front_mid = length-append _ _ ∙ ap₂ ◌+◌ front (length-take-le 128 bs (omega arith))

  pasted : length (paste xs (p * 128) bs 128) ≡ length xs
  pasted = length-paste xs (p * 128) bs 128 (omega arith) (omega arith)

  pub length_put_at : length (put_at m xs p bs) ≡ length xs
  unfolding put_at
  length_put_at = length-set _ _ _ ∙ pasted

  -- a byte that is neither of the block nor its flag
  get_d_put_at : (k d : ℕ) → k ≢ m * 128 + p → (k < p * 128) ⊎ (p * 128 + 128 ≤ k) → slice_index_or (put_at m xs p bs) k d ≡ slice_index_or xs k d
  unfolding put_at
  get_d_put_at k d ne way = get_or-set_other _ _ k 0 d ne ∙ ⊎_elim
      (λ h. get_or_append_left (take (p * 128) xs ++ take 128 bs) (drop (p * 128 + 128) xs) d k (omega (arith, front_mid))
      ∙ get_or_append_left (take (p * 128) xs) (take 128 bs) d k (omega (arith, front)) ∙ get_or-take (p * 128) xs k d h)
      (λ h. let at : p * 128 + 128 + (k - (p * 128 + 128)) ≡ k = omega arith in
      get_or-append_right (take (p * 128) xs ++ take 128 bs) (drop (p * 128 + 128) xs) (p * 128 + 128) k d front_mid h
      ∙ get_or-drop (p * 128 + 128) xs _ d ∙ ap (λ x. get_or xs x d) at)
      way

  -- a byte of the block
  get_d_put_at_here : (k : ℕ) → k < 128 → slice_index (put_at m xs p bs) (p * 128 + k) ≡ slice_index bs k
  unfolding put_at
  get_d_put_at_here k h =
      let at : p * 128 + k - p * 128 ≡ k = omega arith in
      get_or-set_other (paste xs (p * 128) bs 128) (m * 128 + p) (p * 128 + k) 0 0 (omega arith)
      ∙ get_or_append_left (take (p * 128) xs ++ take 128 bs) (drop (p * 128 + 128) xs) 0 (p * 128 + k) (omega (arith, front_mid))
      ∙ get_or-append_right (take (p * 128) xs) (take 128 bs) (p * 128) (p * 128 + k) 0 front (omega arith)
      ∙ ap (λ x. slice_index (take 128 bs) x) at ∙ get_or-take 128 bs k 0 h

  flag_put_at : get_or (put_at m xs p bs) (m * 128 + p) 1 ≡ 0
  unfolding put_at
  flag_put_at = get_or-set_same (paste xs (p * 128) bs 128) (m * 128 + p) 0 1 (omega (arith, pasted))

  cell_put_at : cell_at m (put_at m xs p bs) p ≡ Some bs
  cell_put_at =
      let l = put_at m xs p bs in
      let long : length (take 128 (drop (p * 128) l)) ≡ 128 =
      length-take-le 128 _ (let d : length (drop (p * 128) l) ≡ length l - p * 128 = length-drop (p * 128) l in omega (arith, length_put_at))
      in
      cell_present m l p flag_put_at
      ∙ ap Some (ext_get_or 0 _ _ (long ∙ sym b) (λ k h. let kk : k < 128 = omega arith in get_or-take 128 _ k 0 kk ∙ get_or-drop (p * 128) l k 0 ∙ get_d_put_at_here k kk))

  cell_put_at_other : (q : ℕ) → q < m → q ≢ p → cell_at m (put_at m xs p bs) q ≡ cell_at m xs q
  unfolding cell_at
  cell_put_at_other q h ne =
      let flag : get_or (put_at m xs p bs) (m * 128 + q) 1 ≡ get_or xs (m * 128 + q) 1 = get_d_put_at (m * 128 + q) 1 (omega arith) (inr (omega arith)) in
      let block : take 128 (drop (q * 128) (put_at m xs p bs)) ≡ take 128 (drop (q * 128) xs) =
      ext_get_or 0 _ _
      (simp (length-take, length-drop, length_put_at))
      (λ k l. let kk : k < 128 = below_take 128 _ k l in
      get_or-take 128 _ k 0 kk ∙ get_or-drop (q * 128) _ k 0 ∙ get_d_put_at (q * 128 + k) 0 (omega arith) (apart q p k ne kk)
      ∙ sym (get_or-drop (q * 128) _ k 0) ∙ sym (get_or-take 128 _ k 0 kk))
      in
      ap₂ (λ f l. cond (f == 0) (Some l) None) flag block

module _ (n s : ℕ) where
  accepted_within : (w : Write) → accepts n s w ≡ true → (w.slot < n) × (w.block < s) × (length w.bytes ≡ 128)
  accepted_within w t =
      let both = and_parts _ _ t in
      let ins = and_parts _ _ both.0 in
      (ltb-true _ _ ins.0, ltb-true _ _ ins.1, eqb-true _ _ both.1)

  -- an accepted write
  pub stored_in : (xs : List ℕ) (w : Write) → w.slot < n → w.block < s → length w.bytes ≡ 128 → stored n s xs w ≡ put_at (n * s) xs (w.slot * s + w.block) w.bytes
  unfolding stored
  stored_in xs w hi hj b = cond-true _ _ _ (and_from _ _ (and_from _ _ (lt-ltb _ n hi) (lt-ltb _ s hj)) (eq-eqb _ 128 b))

  length_stored : (xs : List ℕ) (w : Write) → length xs ≡ n * s * 129 → length (stored n s xs w) ≡ n * s * 129
  unfolding stored
  length_stored xs w len = cond_both (accepts n s w) (put_at (n * s) xs (w.slot * s + w.block) w.bytes) xs (λ l. length l ≡ n * s * 129)
      (λ t. let a = accepted_within w t in length_put_at (n * s) xs _ w.bytes len (place_lt n s _ _ a.0 a.1) a.2 ∙ len)
      (λ _. len)

  length_replayed : (ws : List Write) (xs : List ℕ) → length xs ≡ n * s * 129 → length (replayed n s xs ws) ≡ n * s * 129
  length_replayed [] xs len = len
  length_replayed (w ∷ ws) xs len = length_replayed ws (stored n s xs w) (length_stored xs w len)

  replayed_push : (ws : List Write) (w : Write) (xs : List ℕ) → replayed n s xs (ws ++ w ∷ []) ≡ stored n s (replayed n s xs ws) w
  replayed_push [] w xs = refl
  replayed_push (v ∷ ws) w xs = replayed_push ws w (stored n s xs v)

  -- every place that a write does not name
  stored_other : (xs : List ℕ) (w : Write) (i j : ℕ) → length xs ≡ n * s * 129 → i < n → j < s → ((i ≡ w.slot) × (j ≡ w.block) → ⊥) → content_of n s (stored n s xs w) i j ≡ content_of n s xs i j
  unfolding stored
  stored_other xs w i j len hi hj ne =
      cond_both (accepts n s w) (put_at (n * s) xs (w.slot * s + w.block) w.bytes) xs (λ l. content_of n s l i j ≡ content_of n s xs i j)
      (λ t. let a = accepted_within w t in
      content_in n s _ i j hi hj
      ∙ cell_put_at_other (n * s) xs _ w.bytes len (place_lt n s _ _ a.0 a.1) a.2 (i * s + j) (place_lt n s i j hi hj) (λ e. ne (same_place s i j _ _ hj a.1 e))
      ∙ sym (content_in n s xs i j hi hj))
      (λ _. refl)

  module _ (xs : List ℕ) (len : length xs ≡ n * s * 129) where
    -- the last write of a list, at a place that it does not name
    last_other : (ws : List Write) (w : Write) (i j : ℕ) → i < n → j < s → ((i ≡ w.slot) × (j ≡ w.block) → ⊥) → image_conduct n s xs (ws ++ w ∷ []) i j ≡ image_conduct n s xs ws i j
    last_other ws w i j hi hj ne = ap (λ l. content_of n s l i j) (replayed_push ws w xs) ∙ stored_other (replayed n s xs ws) w i j (length_replayed ws xs len) hi hj ne

    pub image_own : OwnCard n s (image_conduct n s xs)
    image_own ws w i j hi hj ne = last_other ws w i j hi hj (λ e. ne e.0)

    pub image_faithful : Faithful n s (image_conduct n s xs)
    image_faithful ws w hi hj b =
        let ys = replayed n s xs ws in
        let put = replayed_push ws w xs ∙ stored_in ys w hi hj b in
        record {
          there = ap (λ l. content_of n s l w.slot w.block) put ∙ content_in n s _ w.slot w.block hi hj
              ∙ cell_put_at (n * s) ys _ w.bytes (length_replayed ws xs len) (place_lt n s _ _ hi hj) b;
          elsewhere = λ i j hi' hj' ne. last_other ws w i j hi' hj' ne ∙ sym (ap (λ l. image_conduct n s xs l i j) (append-nil ws));
        }
