-- What is mended or given is exactly the block of the records.
use Rattle.std.proofs.Common.{◌≡◌, ℕ, ◌+◌, ◌*◌, ◌<◌, ◌≤◌, Bool, true, false, cond, ltb, ◌⊎◌, List, get_or, Some, sym, refl, ap, ◌∙◌, subst, ap₂, inl, inr}
use lib.Bits.{bit_xor, xor_zero_l}
use Rattle.std.proofs.lemmas.Bool.{le-ltb, cases_lt, cases_Bool, false_from_ne_true, cond-true, cond-false}
use Rattle.block.specs.declared.shapes.Role.{Role}
use Rattle.block.specs.declared.shapes.Role.TheVariants.{Parity, Data}
use Rattle.block.specs.Shapes.{Verdict}
use Rattle.block.specs.Judging.{Setup, block_with}
use Rattle.block.specs.Layout.{table}
use Rattle.block.specs.Places.{slot_of}
use Rattle.stripe.specs.declared.shapes.Decision.{Decision}
use Rattle.stripe.specs.declared.shapes.Decision.TheVariants.{Clean, Only, Lost as TwoBad}
use Rattle.stripe.specs.Judge.{bad_role, decision}
use Rattle.stripe.specs.Mend.{byte_in, owner_in, version_in, xors, at, others, others_row, mended_versions, mended}
use Rattle.stripe.specs.Renew.{data_version}
use Rattle.stripe.specs.View.{View}
use Rattle.runs.specs.declared.shapes.Obtained.TheVariants.{Lost, Found, Rebuilt}
use Rattle.runs.specs.declared.shapes.Patch.{Patch}
use Rattle.runs.specs.Book.{Rec, Fits, rec_at, data_of, parity_of, block_of}
use Rattle.runs.specs.Gather.{quick, patch_by, patch_of, as_found, as_rebuilt, gathered_all, gathered_quick, gathered}
use Rattle.runs.specs.Runs.{InStripe}
use Rattle.runs.proofs.CodecLaws.{CodecLaws, parity_with}
use Rattle.runs.proofs.Decisions.{Alone, Says, says, is_only}
use Rattle.runs.proofs.Fields.{Fine, byte_data, own_data, vers_data, byte_parity, own_parity, vers_parity}
use Rattle.runs.proofs.Masks.{Sorted, fine_clear, clear_fine, set_slow}
use Rattle.runs.proofs.Xors.{table_ext, table_own, at_ext, at_beyond, xors_ext, xors_others}

pub parity_ext : (E : Setup) (s : ℕ) (f g : ℕ → ℕ) (o q : ℕ) (v u : ℕ → ℕ) → ((i : ℕ) → i < 80 → f i ≡ g i) → o ≡ q
    → ((k : ℕ) → k < E.D → v k ≡ u k) → parity_with E s f o v ≡ parity_with E s g q u
unfolding parity_with
parity_ext E s f g o q v u a b c =
    ap (λ p. block_with E s Parity p o (table 7 (λ k. cond (ltb k E.D) (v k) 0))) (table_ext 80 f g a)
    ∙ ap₂ (λ z t. block_with E s Parity (table 80 g) z t) b
    (table_ext 7 (λ k. cond (ltb k E.D) (v k) 0) (λ k. cond (ltb k E.D) (u k) 0) (λ k l. go k (cases_lt k E.D)))
  where
    go : (k : ℕ) → (k < E.D) ⊎ (E.D ≤ k) → cond (ltb k E.D) (v k) 0 ≡ cond (ltb k E.D) (u k) 0
    go k (inl l) = ap (λ z. cond (ltb k E.D) z 0) (c k l)
    go k (inr l) =
        cond-false (ltb k E.D) (v k) 0 (le-ltb k E.D l) ∙ sym (cond-false (ltb k E.D) (u k) 0 (le-ltb k E.D l))

pub data_ext : (E : Setup) (s j : ℕ) (p q : List ℕ) (o n v u : ℕ) → p ≡ q → o ≡ n → v ≡ u
    → block_with E s (Data j) p o (table 7 (data_version v)) ≡ block_with E s (Data j) q n (table 7 (data_version u))
data_ext E s j p q o n v u a b c =
    ap₂ (λ x y. block_with E s (Data j) x y (table 7 (data_version v))) a b
    ∙ ap (λ z. block_with E s (Data j) q n (table 7 (data_version z))) c

module _ (E : Setup) (C : CodecLaws E) (s : ℕ) (a : s < E.S) (f : ℕ → Rec) (F : (L : ℕ) → Fits (f L)) (V : View) where
  abbrev R : ℕ → Rec
  R k = rec_at E f s k

  abbrev Ok : Role → Type 0
  Ok r = Fine E s f V r

  -- every other block is good
  abbrev pub Beside : Role → Type 0
  Beside r = (q : Role) → InStripe E q → (q ≡ r → ⊥) → Ok q

  -- the XOR of all the others, of any part of the blocks
  others_data : (j : ℕ) (g : Verdict → ℕ) (h : Rec → ℕ) → j < E.D → Beside (Data j) → g (V Parity) ≡ xors E.D (λ k. h (R k))
      → ((k : ℕ) → k < E.D → Ok (Data k) → g (V (Data k)) ≡ h (R k)) → others E.D V (Data j) g ≡ h (R j)
  unfolding others
  others_data j g h l b p d =
      ap₂ bit_xor p (at_ext E.D (λ k. g (V (Data k))) (λ k. h (R k)) j 0 (λ k n x. d k n (b (Data k) n (λ e. x cc))))
      ∙ xors_others E.D (λ k. h (R k)) j l

  others_parity : (g : Verdict → ℕ) (h : Rec → ℕ) → Beside Parity → ((k : ℕ) → k < E.D → Ok (Data k) → g (V (Data k)) ≡ h (R k))
      → others E.D V Parity g ≡ xors E.D (λ k. h (R k))
  unfolding others
  others_parity g h b d =
      xor_zero_l (xors E.D (at (λ k. g (V (Data k))) E.D 0))
      ∙ (at_beyond E.D (λ k. g (V (Data k))) 0
      ∙ xors_ext E.D (λ k. g (V (Data k))) (λ k. h (R k)) (λ k l. d k l (b (Data k) l (λ e. cc))))

  pub mend_exact : (r : Role) → InStripe E r → Beside r → mended E s V r ≡ block_of E f s r
  unfolding mended data_of parity_of parity_with others_row mended_versions
  mend_exact Parity i b =
      parity_ext E s (λ n. others E.D V Parity (λ v. byte_in v n)) (λ n. xors E.D (λ k. get_or (R k).payload n 0))
      (others E.D V Parity owner_in) (xors E.D (λ k. (R k).owner)) (λ k. version_in (V (Data k)) 0) (λ k. (R k).version)
      (λ n m. others_parity (λ v. byte_in v n) (λ r. get_or r.payload n 0) b (λ k l. byte_data E C s a f F V k n l m))
      (others_parity owner_in (λ r. r.owner) b (own_data E C s a f F V))
      (λ k l. vers_data E C s a f F V k l (b (Data k) l (λ e. cc)))
  mend_exact (Data j) i b =
      let p : Ok Parity = b Parity tt (λ e. cc) in
      data_ext E s j (table 80 (λ n. others E.D V (Data j) (λ v. byte_in v n))) (R j).payload
      (others E.D V (Data j) owner_in) (R j).owner (version_in (V Parity) j) (R j).version
      (table_ext 80 (λ n. others E.D V (Data j) (λ v. byte_in v n)) (λ n. get_or (R j).payload n 0)
      (λ n m.
      others_data j (λ v. byte_in v n) (λ r. get_or r.payload n 0) i b (byte_parity E C s a f F V n m p)
      (λ k l. byte_data E C s a f F V k n l m))
      ∙ table_own (R j).payload 80 (F (s * E.D + j)).long)
      (others_data j owner_in (λ r. r.owner) i b (own_parity E C s a f F V p) (own_data E C s a f F V))
      (vers_parity E C s a f F V j i p)

  -- a block alone in the mask: every other is good
  pub alone_beside : (r : Role) → Sorted E s f V → Alone E s V r → Beside r
  alone_beside r o x q i d =
      clear_fine E C s a f F V q i o (false_from_ne_true (bad_role E.D V q) (λ t. d (x.others q i t)))

  pub alone_exact : (r : Role) → Sorted E s f V → Alone E s V r → mended E s V r ≡ block_of E f s r
  alone_exact r o x = mend_exact r x.inside (alone_beside r o x)

  -- the patch, if there is one, is the block of the records
  pub patch_exact : Sorted E s f V → (p : Patch) → patch_of E s V ≡ Some p
      → (r : Role) × (InStripe E r) × (p.slot ≡ slot_of E.D s r) × (p.bytes ≡ block_of E f s r)
  unfolding patch_of
  patch_exact o p e = go (decision E.D s V) (says E s V) e
    where
      go : (x : Decision) → Says E s V x → patch_by E s V x ≡ Some p
          → (r : Role) × (InStripe E r) × (p.slot ≡ slot_of E.D s r) × (p.bytes ≡ block_of E f s r)
      go Clean y e = cc
      go (Only r) y e =
          let q : p ≡ record { slot = slot_of E.D s r; bytes = mended E s V r } = cc in
          (r, y.inside, ap (λ x. x.slot) q, ap (λ x. x.bytes) q ∙ alone_exact r o y)
      go TwoBad y e = cc

  -- what a read obtains
  module _ (j : ℕ) (l : j < E.D) (o : Sorted E s f V) where
    abbrev swift : Bool
    swift = quick (V (Data j)) (V Parity) j

    pub obtained_good : Ok (Data j) → (gathered E s V j).obtained ≡ Found (data_of E s j (R j))
    unfolding gathered gathered_all
    obtained_good d = go (cases_Bool swift)
      where
        go : (swift ≡ true) ⊎ (swift ≡ false) → (gathered E s V j).obtained ≡ Found (data_of E s j (R j))
        go (inl t) =
            ap (λ g. g.obtained) (cond-true swift (gathered_quick (V (Data j))) (gathered_all E s V j) t) ∙ ap as_found d
        go (inr t) =
            ap (λ g. g.obtained) (cond-false swift (gathered_quick (V (Data j))) (gathered_all E s V j) t)
            ∙ (cond-false (bad_role E.D V (Data j)) (as_rebuilt (patch_of E s V)) (as_found (V (Data j))) (fine_clear E C s a f F V (Data j) l o d)
            ∙ ap as_found d)

    obtained_bad : bad_role E.D V (Data j) ≡ true → (gathered E s V j).obtained ≡ as_rebuilt (patch_of E s V)
    unfolding gathered gathered_all
    obtained_bad t =
        ap (λ g. g.obtained) (cond-false swift (gathered_quick (V (Data j))) (gathered_all E s V j) (set_slow E C s a f F V j l o t))
        ∙ cond-true (bad_role E.D V (Data j)) (as_rebuilt (patch_of E s V)) (as_found (V (Data j))) t

    -- a read of a block in the mask looks at all places
    pub looks_bad : bad_role E.D V (Data j) ≡ true → (gathered E s V j).looks ≡ E.D + 1
    unfolding gathered gathered_all
    looks_bad t =
        ap (λ g. g.looks) (cond-false swift (gathered_quick (V (Data j))) (gathered_all E s V j) (set_slow E C s a f F V j l o t))

    pub obtained_alone : Alone E s V (Data j) → (gathered E s V j).obtained ≡ Rebuilt (data_of E s j (R j))
    unfolding patch_of
    obtained_alone x =
        obtained_bad x.itself
        ∙ (ap (λ z. as_rebuilt (patch_by E s V z)) (is_only E s V (Data j) x) ∙ ap Rebuilt (alone_exact (Data j) o x))

    pub obtained_lost : bad_role E.D V (Data j) ≡ true → (Alone E s V (Data j) → ⊥) → (gathered E s V j).obtained ≡ Lost
    unfolding patch_of
    obtained_lost t n = obtained_bad t ∙ go (decision E.D s V) (says E s V)
      where
        go : (x : Decision) → Says E s V x → as_rebuilt (patch_by E s V x) ≡ Lost
        go Clean y = refl
        go (Only r) y = absurd (n (subst (Alone E s V) (sym (y.others (Data j) l t)) y))
        go TwoBad y = refl
