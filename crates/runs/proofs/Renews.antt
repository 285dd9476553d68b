-- What a write makes is exactly the blocks of the new records.
use Rattle.std.proofs.Common.{◌≡◌, ℕ, suc, ◌<◌, Bool, true, false, cond, ◌⊎◌, List, get_or, sym, refl, ap, ◌∙◌, subst, ap₂, inl, inr}
use lib.Bits.{bit_xor}
use Rattle.std.proofs.lemmas.Bool.{cases_eq, cases_Bool, cond-true, cond-false, both_ways, or_cases, or_parts, or_right}
use Rattle.block.specs.declared.shapes.Role.{Role}
use Rattle.block.specs.declared.shapes.Role.TheVariants.{Parity, Data}
use Rattle.block.specs.Shapes.{Verdict}
use Rattle.block.specs.Judging.{Setup}
use Rattle.stripe.specs.declared.shapes.Decision.{Decision}
use Rattle.stripe.specs.declared.shapes.Decision.TheVariants.{Clean, Only, Lost as TwoBad}
use Rattle.stripe.specs.declared.shapes.Plan.{Plan}
use Rattle.stripe.specs.declared.shapes.Plan.TheVariants.{Lost as NoPlan, BySum, ByAll}
use Rattle.stripe.specs.Judge.{bad_role, decision}
use Rattle.stripe.specs.Mend.{byte_in, owner_in, xors, at}
use Rattle.stripe.specs.Renew.{
  touched,
  plan_for,
  plan_of,
  base_version,
  summed,
  summed_row,
  other_version,
  new_versions,
  new_data,
  new_parity,
}
use Rattle.stripe.specs.View.{View}
use Rattle.runs.specs.declared.shapes.Way.{Way}
use Rattle.runs.specs.declared.shapes.Way.TheVariants.{Subtractive, Additive}
use Rattle.runs.specs.Book.{Rec, Fits, rec_at, data_of, parity_of}
use Rattle.runs.specs.Gather.{quick}
use Rattle.runs.specs.Runs.{InStripe}
use Rattle.runs.specs.Writes.{swift, write_plan, parity_masked, new_version}
use Rattle.runs.proofs.CodecLaws.{CodecLaws, parity_with}
use Rattle.runs.proofs.Decisions.{Alone, Says, says, is_only}
use Rattle.runs.proofs.Fields.{Fine, Poor, byte_data, own_data, vers_data, byte_parity, own_parity, vers_parity}
use Rattle.runs.proofs.Masks.{Sorted, bad_parity, fine_clear, poor_set, clear_fine, set_parity, swift_fine}
use Rattle.runs.proofs.Mends.{parity_ext, data_ext, alone_beside}
use Rattle.runs.proofs.Xors.{at_same, at_other, at_ext, xors_ext, xors_at}

module _ (E : Setup) (C : CodecLaws E) (s : ℕ) (a : s < E.S) (f : ℕ → Rec) (F : (L : ℕ) → Fits (f L)) (V : View) where
  abbrev R : ℕ → Rec
  R k = rec_at E f s k

  abbrev Ok : Role → Type 0
  Ok r = Fine E s f V r

  abbrev bad : Role → Bool
  bad r = bad_role E.D V r

  pub base_version_lem : (j : ℕ) → j < E.D → Sorted E s f V → base_version E.D V j ≡ (R j).version
  base_version_lem j l o = go (cases_Bool (bad (Data j)))
    where
      go : (bad (Data j) ≡ true) ⊎ (bad (Data j) ≡ false) → base_version E.D V j ≡ (R j).version
      go (inl t) = cond-true (bad (Data j)) _ _ t ∙ vers_parity E C s a f F V j l (set_parity E C s a f F V j l o t)
      go (inr t) = cond-false (bad (Data j)) _ _ t ∙ vers_data E C s a f F V j l (clear_fine E C s a f F V (Data j) l o t)

  swift_quick : (y : Way) (j : ℕ) → swift y V j ≡ true → quick (V (Data j)) (V Parity) j ≡ true
  swift_quick Subtractive j t = t
  swift_quick Additive j t = cc

  module _ (j : ℕ) (l : j < E.D) (o : Sorted E s f V) where
    abbrev Others : Type 0
    Others = (k : ℕ) → k < E.D → (k ≡ j → ⊥) → Ok (Data k)

    -- a plan goes by good blocks
    abbrev Sound : Plan → Type 0
    Sound NoPlan = Unit {0}
    Sound BySum = Ok (Data j)
    Sound ByAll = Others

    touched_plan : bad Parity ≡ false → (t : Bool) → touched E.D V j ≡ t → (x : Decision) → Says E s V x → Sound (plan_for t x)
    touched_plan q t e Clean y = λ k m d. clear_fine E C s a f F V (Data k) m o (y (Data k) m)
    touched_plan q true e (Only r) y = go (or_cases (bad (Data j)) (bad Parity) e)
      where
        go : (bad (Data j) ≡ true) ⊎ (bad Parity ≡ true) → Others
        go (inl t) =
            λ k m d. alone_beside E C s a f F V r o y (Data k) m (λ z. d (cc (y.others (Data j) l t)))
        go (inr t) = absurd (both_ways (bad Parity) q t)
    touched_plan q false e (Only r) y = clear_fine E C s a f F V (Data j) l o (or_parts (bad (Data j)) (bad Parity) e).0
    touched_plan q true e TwoBad y = tt
    touched_plan q false e TwoBad y = clear_fine E C s a f F V (Data j) l o (or_parts (bad (Data j)) (bad Parity) e).0

    sound_plan : (y : Way) → Ok Parity → Sound (write_plan E s V j y)
    unfolding write_plan plan_of
    sound_plan y p = go (cases_Bool (swift y V j))
      where
        go : (swift y V j ≡ true) ⊎ (swift y V j ≡ false) → Sound (write_plan E s V j y)
        go (inl t) =
            subst Sound (sym (cond-true (swift y V j) BySum (plan_of E.D s V j) t)) (swift_fine E C s a f F V j l o (swift_quick y j t))
        go (inr t) =
            subst Sound (sym (cond-false (swift y V j) BySum (plan_of E.D s V j) t))
            (touched_plan (fine_clear E C s a f F V Parity tt o p) (touched E.D V j) refl (decision E.D s V) (says E s V))

    -- the new parity's XOR, of any part of the blocks, by any plan
    summed_is : (p : Plan) (g : Verdict → ℕ) (h : Rec → ℕ) (x : ℕ) → Sound p → (p ≡ NoPlan → ⊥) → g (V Parity) ≡ xors E.D (λ k. h (R k))
        → ((k : ℕ) → k < E.D → Ok (Data k) → g (V (Data k)) ≡ h (R k))
        → summed p E.D V j g x ≡ xors E.D (at (λ k. h (R k)) j x)
    summed_is NoPlan g h x z n b d = absurd (n refl)
    summed_is BySum g h x z n b d =
        ap₂ (λ y z. bit_xor (bit_xor y z) x) b (d j l z) ∙ sym (xors_at E.D (λ k. h (R k)) j x l)
    summed_is ByAll g h x z n b d = at_ext E.D (λ k. g (V (Data k))) (λ k. h (R k)) j x (λ k m e. d k m (z k m e))

    module _ (R' : ℕ → Rec) (payload : List ℕ) (owner : ℕ)
        (e : R' j ≡ record { payload = payload; owner = owner; version = suc (R j).version }) where
      pub new_data_lem : new_data E s j payload owner (new_version E V j) ≡ data_of E s j (R' j)
      unfolding new_data data_of
      new_data_lem =
          data_ext E s j payload (R' j).payload owner (R' j).owner (new_version E V j) (R' j).version
          (sym (ap (λ r. r.payload) e)) (sym (ap (λ r. r.owner) e))
          (ap suc (base_version_lem j l o) ∙ sym (ap (λ r. r.version) e))

      module _ (h : (k : ℕ) → (k ≡ j → ⊥) → R' k ≡ R k) where
        moved : (g : Rec → ℕ) (x : ℕ) → g (R' j) ≡ x → xors E.D (at (λ k. g (R k)) j x) ≡ xors E.D (λ k. g (R' k))
        moved g x q = xors_ext E.D (at (λ k. g (R k)) j x) (λ k. g (R' k)) (λ k m. each k (cases_eq k j))
          where
            each : (k : ℕ) → (k ≡ j) ⊎ (k ≡ j → ⊥) → at (λ i. g (R i)) j x k ≡ g (R' k)
            each k (inl d) = ap (at (λ i. g (R i)) j x) d ∙ (at_same (λ i. g (R i)) j x ∙ (sym q ∙ ap (λ i. g (R' i)) (sym d)))
            each k (inr d) = at_other (λ i. g (R i)) j x k d ∙ ap g (sym (h k d))

        -- the parity block written, by a plan that gives the right XOR and with the right versions of the others
        written : (p : Plan) (b : Bool)
            → ((i : ℕ) → i < 80
            → summed p E.D V j (λ v. byte_in v i) (get_or payload i 0)
            ≡ xors E.D (at (λ k. get_or (R k).payload i 0) j (get_or payload i 0)))
            → summed p E.D V j owner_in owner ≡ xors E.D (at (λ k. (R k).owner) j owner)
            → ((k : ℕ) → k < E.D → other_version b V k ≡ (R k).version)
            → new_parity E s V j p b payload owner (new_version E V j) ≡ parity_of E s R'
        unfolding new_parity parity_of parity_with summed_row new_versions
        written p b x y other =
            parity_ext E s (λ i. summed p E.D V j (λ v. byte_in v i) (get_or payload i 0))
            (λ i. xors E.D (λ k. get_or (R' k).payload i 0)) (summed p E.D V j owner_in owner)
            (xors E.D (λ k. (R' k).owner)) (at (other_version b V) j (new_version E V j)) (λ k. (R' k).version)
            (λ i m. x i m ∙ moved (λ r. get_or r.payload i 0) (get_or payload i 0) (ap (λ r. get_or r.payload i 0) e))
            (y ∙ moved (λ r. r.owner) owner (ap (λ r. r.owner) e)) (λ k m. versions k m (cases_eq k j))
          where
            versions : (k : ℕ) → k < E.D → (k ≡ j) ⊎ (k ≡ j → ⊥) → at (other_version b V) j (new_version E V j) k ≡ (R' k).version
            versions k m (inl d) =
                ap (at (other_version b V) j (new_version E V j)) d
                ∙ (at_same (other_version b V) j (new_version E V j)
                ∙ (ap suc (base_version_lem j l o) ∙ (sym (ap (λ r. r.version) e) ∙ ap (λ i. (R' i).version) (sym d))))
            versions k m (inr d) =
                at_other (other_version b V) j (new_version E V j) k d ∙ (other k m ∙ ap (λ r. r.version) (sym (h k d)))

        masked_not : (y : Way) → bad Parity ≡ false → parity_masked E V j y ≡ false
        masked_not y t = go (swift y V j)
          where
            go : (b : Bool) → cond b false (bad Parity) ≡ false
            go true = refl
            go false = t

        -- where parity is good
        pub new_parity_lem : (y : Way) → Ok Parity → (write_plan E s V j y ≡ NoPlan → ⊥)
            → new_parity E s V j (write_plan E s V j y) (parity_masked E V j y) payload owner (new_version E V j) ≡ parity_of E s R'
        new_parity_lem y p n =
            let z : Sound (write_plan E s V j y) = sound_plan y p in
            written (write_plan E s V j y) (parity_masked E V j y)
            (λ i m.
            summed_is (write_plan E s V j y) (λ v. byte_in v i) (λ r. get_or r.payload i 0) (get_or payload i 0) z n
            (byte_parity E C s a f F V i m p) (λ k q. byte_data E C s a f F V k i q m))
            (summed_is (write_plan E s V j y) owner_in (λ r. r.owner) owner z n (own_parity E C s a f F V p) (own_data E C s a f F V))
            (λ k m.
            cond-false (parity_masked E V j y) _ _ (masked_not y (fine_clear E C s a f F V Parity tt o p)) ∙ vers_parity E C s a f F V k m p)

        -- beside bad parity, off the quick path
        pub new_parity_poor : (y : Way) → Poor E s f V Parity → ((k : ℕ) → k < E.D → Ok (Data k)) → swift y V j ≡ false
            → new_parity E s V j (write_plan E s V j y) (parity_masked E V j y) payload owner (new_version E V j) ≡ parity_of E s R'
        unfolding write_plan plan_of
        new_parity_poor y p d t =
            written (write_plan E s V j y) (parity_masked E V j y)
            (λ i m.
            ap (λ z. summed z E.D V j (λ v. byte_in v i) (get_or payload i 0)) by_all
            ∙ at_ext E.D (λ k. byte_in (V (Data k)) i) (λ k. get_or (R k).payload i 0) j (get_or payload i 0)
            (λ k q _. byte_data E C s a f F V k i q m (d k q)))
            (ap (λ z. summed z E.D V j owner_in owner) by_all
            ∙ at_ext E.D (λ k. owner_in (V (Data k))) (λ k. (R k).owner) j owner (λ k q _. own_data E C s a f F V k q (d k q)))
            (λ k q.
            cond-true (parity_masked E V j y) _ _ (cond-false (swift y V j) false (bad Parity) t ∙ worse)
            ∙ vers_data E C s a f F V k q (d k q))
          where
            worse : bad Parity ≡ true
            worse = poor_set E C s a f F V Parity tt (bad_parity p d) p

            lone : Alone E s V Parity
            lone = record { inside = tt; itself = worse; others = them }
              where
                them : (q : Role) → InStripe E q → bad q ≡ true → q ≡ Parity
                them Parity i z = refl
                them (Data k) i z = absurd (both_ways (bad (Data k)) (fine_clear E C s a f F V (Data k) i (bad_parity p d) (d k i)) z)

            by_all : write_plan E s V j y ≡ ByAll
            by_all =
                cond-false (swift y V j) BySum (plan_of E.D s V j) t
                ∙ (ap (plan_for (touched E.D V j)) (is_only E s V Parity lone)
                ∙ cond-true (touched E.D V j) ByAll BySum (or_right (bad (Data j)) (bad Parity) worse))
