-- Where no stripe has bad parity beside bad data, the mask is exactly the set of bad blocks.
use Rattle.std.proofs.Common.{◌≡◌, ℕ, zero, suc, ◌<◌, Bool, true, false, ◌||◌, ◌⊎◌, List, refl, ap, ◌∙◌, ap₂, inl, inr, arith}
use Rattle.std.proofs.lemmas.Bool.{ne_eqb, lt-ltb, le-ltb, cases_eq, false_from_ne_true, or_from, or_left, or_right, both_ways}
use Rattle.block.specs.declared.shapes.Role.{Role}
use Rattle.block.specs.declared.shapes.Role.TheVariants.{Parity, Data}
use Rattle.block.specs.Judging.{Setup}
use Rattle.block.specs.Layout.{version_of}
use Rattle.stripe.specs.Judge.{lags_at, leads_at, any_lead, parity_bad, bad_role}
use Rattle.stripe.specs.View.{View}
use Rattle.runs.specs.Book.{Rec, Fits, rec_at, data_of, parity_of}
use Rattle.runs.specs.Gather.{quick}
use Rattle.runs.specs.Runs.{InStripe}
use Rattle.runs.proofs.CodecLaws.{CodecLaws}
use Rattle.runs.proofs.Fields.{Fine, Poor, unfit, behind, ver_data, ver_parity}

-- a stripe whose blocks are good or bad, of which bad parity does not stand beside bad data
pub data Sorted (E : Setup) (s : ℕ) (f : ℕ → Rec) (V : View) : Type 0 where
  good_parity : Fine E s f V Parity → ((j : ℕ) → j < E.D → Fine E s f V (Data j) ⊎ Poor E s f V (Data j)) → Sorted E s f V
  bad_parity : Poor E s f V Parity → ((j : ℕ) → j < E.D → Fine E s f V (Data j)) → Sorted E s f V

no_lead : (V : View) (p : List ℕ) (n : ℕ) → ((j : ℕ) → j < n → leads_at (V (Data j)) p j ≡ false) → any_lead V p n ≡ false
unfolding any_lead
no_lead V p zero h = refl
no_lead V p (suc n) h =
    or_from (leads_at (V (Data n)) p n) (any_lead V p n) (h n (omega arith)) (no_lead V p n (λ j l. h j (omega arith)))

some_lead : (V : View) (p : List ℕ) (n j : ℕ) → j < n → leads_at (V (Data j)) p j ≡ true → any_lead V p n ≡ true
unfolding any_lead
some_lead V p zero j l h = absurd (omega arith)
some_lead V p (suc n) j l h = go (cases_eq n j) (some_lead V p n j)
  where
    go : (n ≡ j) ⊎ (n ≡ j → ⊥) → (j < n → leads_at (V (Data j)) p j ≡ true → any_lead V p n ≡ true)
        → (leads_at (V (Data n)) p n || any_lead V p n) ≡ true
    go (inl e) r = or_left (leads_at (V (Data n)) p n) (any_lead V p n) (ap (λ z. leads_at (V (Data z)) p z) e ∙ h)
    go (inr d) r = or_right (leads_at (V (Data n)) p n) (any_lead V p n) (r (omega arith) h)

module _ (E : Setup) (C : CodecLaws E) (s : ℕ) (a : s < E.S) (f : ℕ → Rec) (F : (L : ℕ) → Fits (f L)) (V : View) where
  abbrev R : ℕ → Rec
  R k = rec_at E f s k

  abbrev Ok : Role → Type 0
  Ok r = Fine E s f V r

  abbrev No : Role → Type 0
  No r = Poor E s f V r

  abbrev bad : Role → Bool
  bad r = bad_role E.D V r

  -- the mask where parity is good
  good_data : (j : ℕ) → j < E.D → Ok Parity → Ok (Data j) → bad (Data j) ≡ false
  good_data j l p d =
      ap₂ (λ v q. lags_at v q j) d p
      ∙ le-ltb (version_of (data_of E s j (R j)) 0) (version_of (parity_of E s R) j)
      (omega (arith, ver_data E C s a f F j l, ver_parity E C s a f F j l))

  poor_data : (j : ℕ) → j < E.D → Ok Parity → No (Data j) → bad (Data j) ≡ true
  poor_data j l p (unfit c e) = ap (λ v. lags_at v (V Parity) j) e
  poor_data j l p (behind b e h) =
      ap₂ (λ v q. lags_at v q j) e p
      ∙ lt-ltb (version_of b 0) (version_of (parity_of E s R) j) (omega (arith, h, ver_parity E C s a f F j l))

  poor_slow : (j : ℕ) → j < E.D → Ok Parity → No (Data j) → quick (V (Data j)) (V Parity) j ≡ false
  poor_slow j l p (unfit c e) = ap (λ v. quick v (V Parity) j) e
  poor_slow j l p (behind b e h) =
      ap₂ (λ v q. quick v q j) e p
      ∙ ne_eqb (version_of b 0) (version_of (parity_of E s R) j) (λ z. omega (arith, z, h, ver_parity E C s a f F j l))

  leads_not : (j : ℕ) → j < E.D → Ok (Data j) ⊎ No (Data j) → leads_at (V (Data j)) (parity_of E s R) j ≡ false
  leads_not j l (inl d) =
      ap (λ v. leads_at v (parity_of E s R) j) d
      ∙ le-ltb (version_of (parity_of E s R) j) (version_of (data_of E s j (R j)) 0)
      (omega (arith, ver_data E C s a f F j l, ver_parity E C s a f F j l))
  leads_not j l (inr (unfit c e)) = ap (λ v. leads_at v (parity_of E s R) j) e
  leads_not j l (inr (behind b e h)) =
      ap (λ v. leads_at v (parity_of E s R) j) e
      ∙ le-ltb (version_of (parity_of E s R) j) (version_of b 0) (omega (arith, h, ver_parity E C s a f F j l))

  good_par : Ok Parity → ((j : ℕ) → j < E.D → Ok (Data j) ⊎ No (Data j)) → bad Parity ≡ false
  good_par p h = ap (λ q. parity_bad q V E.D) p ∙ no_lead V (parity_of E s R) E.D (λ j l. leads_not j l (h j l))

  -- the mask where parity is bad
  poor_par : No Parity → ((j : ℕ) → j < E.D → Ok (Data j)) → bad Parity ≡ true
  poor_par (unfit c e) h = ap (λ q. parity_bad q V E.D) e
  poor_par (behind b e v) h =
      ap (λ q. parity_bad q V E.D) e
      ∙ some_lead V b E.D v.1.0 v.1.1
      (ap (λ q. leads_at q b v.1.0) (h v.1.0 v.1.1)
      ∙ lt-ltb (version_of b v.1.0) (version_of (data_of E s v.1.0 (R v.1.0)) 0)
      (omega (arith, v.1.2, ver_data E C s a f F v.1.0 v.1.1)))

  beside_poor : (j : ℕ) → j < E.D → No Parity → Ok (Data j) → bad (Data j) ≡ false
  beside_poor j l (unfit c e) d = ap₂ (λ v q. lags_at v q j) d e
  beside_poor j l (behind b e v) d =
      ap₂ (λ v q. lags_at v q j) d e
      ∙ le-ltb (version_of (data_of E s j (R j)) 0) (version_of b j) (omega (arith, ver_data E C s a f F j l, v.0 j l))

  -- what is good is outside the mask
  pub fine_clear : (r : Role) → InStripe E r → Sorted E s f V → Ok r → bad r ≡ false
  fine_clear Parity i (good_parity p h) d = good_par p h
  fine_clear Parity i (bad_parity p h) d = good_par d (λ j l. inl (h j l))
  fine_clear (Data j) i (good_parity p h) d = good_data j i p d
  fine_clear (Data j) i (bad_parity p h) d = beside_poor j i p d

  -- what is bad is in the mask
  pub poor_set : (r : Role) → InStripe E r → Sorted E s f V → No r → bad r ≡ true
  poor_set Parity i (good_parity p h) d = absurd (never p d)
    where
      never : Ok Parity → No Parity → ⊥
      never p (unfit c e) = cc
      never p (behind b e v) =
          let z : b ≡ parity_of E s R = cc in
          omega (arith, v.1.2, ver_parity E C s a f F v.1.0 v.1.1, ap (λ x. version_of x v.1.0) z)
  poor_set Parity i (bad_parity p h) d = poor_par d h
  poor_set (Data j) i (good_parity p h) d = poor_data j i p d
  poor_set (Data j) i (bad_parity p h) d = absurd (never (h j i) d)
    where
      never : Ok (Data j) → No (Data j) → ⊥
      never p (unfit c e) = cc
      never p (behind b e v) =
          let z : b ≡ data_of E s j (R j) = cc in omega (arith, v, ver_data E C s a f F j i, ap (λ x. version_of x 0) z)

  each : (r : Role) → InStripe E r → Sorted E s f V → Ok r ⊎ No r
  each Parity i (good_parity p h) = inl p
  each Parity i (bad_parity p h) = inr p
  each (Data j) i (good_parity p h) = h j i
  each (Data j) i (bad_parity p h) = inl (h j i)

  -- what is outside the mask is good
  pub clear_fine : (r : Role) → InStripe E r → Sorted E s f V → bad r ≡ false → Ok r
  clear_fine r i o z = go (each r i o)
    where
      go : Ok r ⊎ No r → Ok r
      go (inl d) = d
      go (inr d) = absurd (both_ways (bad r) z (poor_set r i o d))

  -- beside a data block in the mask parity is good
  pub set_parity : (j : ℕ) → j < E.D → Sorted E s f V → bad (Data j) ≡ true → Ok Parity
  set_parity j l (good_parity p h) z = p
  set_parity j l (bad_parity p h) z = absurd (both_ways (bad (Data j)) (beside_poor j l p (h j l)) z)

  -- what the quick path takes is good
  pub swift_fine : (j : ℕ) → j < E.D → Sorted E s f V → quick (V (Data j)) (V Parity) j ≡ true → Ok (Data j)
  swift_fine j l (good_parity p h) z = go (h j l)
    where
      go : Ok (Data j) ⊎ No (Data j) → Ok (Data j)
      go (inl d) = d
      go (inr d) = absurd (both_ways (quick (V (Data j)) (V Parity) j) (poor_slow j l p d) z)
  swift_fine j l (bad_parity p h) z = h j l

  -- where a data block is in the mask, the quick path is not taken
  pub set_slow : (j : ℕ) → j < E.D → Sorted E s f V → bad (Data j) ≡ true → quick (V (Data j)) (V Parity) j ≡ false
  set_slow j l o z =
      false_from_ne_true (quick (V (Data j)) (V Parity) j)
      (λ t. both_ways (bad (Data j)) (fine_clear (Data j) l o (swift_fine j l o t)) z)
