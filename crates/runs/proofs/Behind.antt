-- Parity that is behind at another index stays behind there after a write that took the quick path.
use Rattle.std.specs.Prelude.{Some, None, Ok}
use Rattle.std.proofs.Common.{◌≡◌, ℕ, suc, ◌+◌, ◌*◌, ◌/◌, ◌%◌, ◌^◌, ◌<◌, ◌≤◌, Bool, true, false, cond, ltb, ◌⊎◌, List, [], get_or, sym, refl, ap, ◌∙◌, subst, ap₂, inl, inr, arith, pow_pos}
use lib.Bits.{bit_xor, xor_lt}
use Rattle.std.proofs.lemmas.Bool.{lt-ltb, ltb-true, cases_eq, cases_Bool, cond-true, cond-false}
use Rattle.block.specs.Shapes.{Cell, Verdict}
use Rattle.block.specs.declared.shapes.Role.{Role}
use Rattle.block.specs.declared.shapes.Role.TheVariants.{Parity, Data}
use Rattle.block.specs.Judging.{Setup, alone}
use Rattle.block.specs.Layout.{version_of}
use Rattle.block.specs.Places.{slot_of}
use Rattle.checksum.specs.Rows.{word_at}
use Rattle.stripe.specs.declared.shapes.Finding.{Finding}
use Rattle.stripe.specs.declared.shapes.Plan.TheVariants.{BySum}
use Rattle.stripe.specs.declared.shapes.SlotState.{SlotState}
use Rattle.stripe.specs.Judge.{bad_role}
use Rattle.stripe.specs.Mend.{byte_in, owner_in, version_in, at}
use Rattle.stripe.specs.Renew.{plan_of, summed_row, other_version, new_versions, new_parity}
use Rattle.stripe.specs.View.{View, takes_at, seen_at}
use Rattle.runs.specs.declared.shapes.Way.TheVariants.{Subtractive}
use Rattle.runs.specs.Book.{Rec, rec_at}
use Rattle.runs.specs.Companions.{BehindAt, DidAll}
use Rattle.runs.specs.Law.{InRange}
use Rattle.runs.specs.Runs.{write, World, next, handed, accepted, next_shelf, cell_of, Orderly, Starts}
use Rattle.runs.specs.Writes.{swift, write_plan, new_version, parity_write}
use Rattle.runs.proofs.CodecLaws.{CodecLaws, parity_with}
use Rattle.runs.proofs.Fields.{Fine, byte_data, own_data}
use Rattle.runs.proofs.Lands.{did_all}
use Rattle.runs.proofs.Masks.{swift_fine}
use Rattle.runs.proofs.Mends.{parity_ext}
use Rattle.runs.proofs.Outcomes.{Accepted}
use Rattle.runs.proofs.Puts.{bytes_seen}
use Rattle.runs.proofs.Renews.{base_version_lem}
use Rattle.runs.proofs.Worlds.{view_in, judged}
use Rattle.runs.proofs.Writing.{l₀, a₀, O₀, f', B', new_rec, old_rec, put_parity, landed, takes_after, told_accepted}
use Rattle.runs.proofs.Xors.{at_same, at_other}

word_small : (b : List ℕ) (n : ℕ) → ((i : ℕ) → get_or b i 0 < 2 ^ 8) → word_at b n < 2 ^ 32
word_small b n h = omega (arith, h n, h (n + 1), h (n + 2), h (n + 3))

-- a readable block is seen
readable_takes : (E : Setup) (s : ℕ) (r : Role) (x : Cell) (t : SlotState) (b : List ℕ) → alone E s r (seen_at x t s) ≡ Ok b
    → takes_at t s ≡ true
readable_takes E s r x t b e = go (takes_at t s) e
  where
    go : (y : Bool) → alone E s r (cond y x None) ≡ Ok b → y ≡ true
    go true h = refl
    go false h = cc

module _ (E : Setup) (G : InRange E) (C : CodecLaws E) (w : World) (I : Starts E w) (O : Orderly E w) (L : ℕ) (p : List ℕ) (o : ℕ)
    (fs : List Finding) (hp : (i : ℕ) → get_or p i 0 < 2 ^ 8) (ho : o < 2 ^ 32)
    (t : accepted E w.shelf w.array (write L p o Subtractive fs) ≡ true)
    (q : swift Subtractive (view_in E w (L / E.D)) (L % E.D) ≡ true) (k : ℕ) (b : List ℕ) (lk : k < E.D) (nk : k ≡ L % E.D → ⊥)
    (hb : (i : ℕ) → get_or b i 0 < 2 ^ 8) (x : BehindAt E w (L / E.D) k b)
    (n : DidAll E w (write L p o Subtractive fs) (slot_of E.D (L / E.D) Parity)) where
  abbrev s : ℕ
  s = L / E.D

  abbrev j : ℕ
  j = L % E.D

  abbrev V : View
  V = view_in E w s

  abbrev R : ℕ → Rec
  R i = rec_at E w.book.records s i

  W : Accepted E V w.array.slots L p o Subtractive (handed E w.shelf w.array (write L p o Subtractive fs))
  W = told_accepted E G C w I O L p o Subtractive fs t

  a : s < E.S
  a = a₀ E G C w I O L p o Subtractive fs W

  l : j < E.D
  l = l₀ E G C w I O L p o Subtractive fs

  parity_is : V Parity ≡ Ok b
  parity_is = judged E C w I s Parity tt ∙ x.readable

  fine : Fine E s w.book.records V (Data j)
  fine = swift_fine E C s a w.book.records I.fits V j l (O₀ E G C w I O L p o Subtractive fs W) q

  -- the new parity's row, owner and versions
  abbrev part : (Verdict → ℕ) → ℕ → ℕ
  part g y = bit_xor (bit_xor (g (V Parity)) (g (V (Data j)))) y

  abbrev row : ℕ → ℕ
  row i = cond (ltb i 80) (part (λ v. byte_in v i) (get_or p i 0)) 0

  abbrev owner : ℕ
  owner = part owner_in o

  abbrev versions : ℕ → ℕ
  versions = at (other_version false V) j (new_version E V j)

  part_small : (m : ℕ) (g : Verdict → ℕ) (y : ℕ) → g (Ok b) < 2 ^ m → g (V (Data j)) < 2 ^ m → y < 2 ^ m → part g y < 2 ^ m
  part_small m g y u v z =
      xor_lt m (bit_xor (g (V Parity)) (g (V (Data j)))) y
      (xor_lt m (g (V Parity)) (g (V (Data j))) (subst (λ r. g r < 2 ^ m) (sym parity_is) u) v) z

  row_small : (i : ℕ) → row i < 2 ^ 8
  row_small i = go (cases_Bool (ltb i 80))
    where
      go : (ltb i 80 ≡ true) ⊎ (ltb i 80 ≡ false) → row i < 2 ^ 8
      go (inr z) = subst (λ r. r < 2 ^ 8) (sym (cond-false (ltb i 80) (part (λ v. byte_in v i) (get_or p i 0)) 0 z)) (pow_pos 8)
      go (inl z) =
          subst (λ r. r < 2 ^ 8) (sym (cond-true (ltb i 80) (part (λ v. byte_in v i) (get_or p i 0)) 0 z))
          (part_small 8 (λ v. byte_in v i) (get_or p i 0) (hb i)
          (subst (λ r. r < 2 ^ 8) (sym (byte_data E C s a w.book.records I.fits V j i l (ltb-true i 80 z) fine))
          ((I.fits (s * E.D + j)).bytes i))
          (hp i))

  owner_small : owner < 2 ^ 32
  owner_small =
      part_small 32 owner_in o (word_small b 88 hb)
      (subst (λ r. r < 2 ^ 32) (sym (own_data E C s a w.book.records I.fits V j l fine)) (I.fits (s * E.D + j)).owned) ho

  version_own : versions j ≡ suc (R j).version
  version_own =
      at_same (other_version false V) j (new_version E V j)
      ∙ ap suc (base_version_lem E C s a w.book.records I.fits V j l (O₀ E G C w I O L p o Subtractive fs W))

  version_other : (i : ℕ) → (i ≡ j → ⊥) → versions i ≡ version_of b i
  version_other i d = at_other (other_version false V) j (new_version E V j) i d ∙ ap (λ v. version_in v i) parity_is

  versions_small : (i : ℕ) → i < E.D → versions i < 2 ^ 32
  versions_small i h = go (cases_eq i j)
    where
      go : (i ≡ j) ⊎ (i ≡ j → ⊥) → versions i < 2 ^ 32
      go (inl e) = subst (λ z. z < 2 ^ 32) (sym (ap versions e ∙ at_same (other_version false V) j (new_version E V j))) W.small
      go (inr d) = subst (λ z. z < 2 ^ 32) (sym (version_other i d)) (word_small b (92 + 4 * i) hb)

  -- the parity block that is written
  abbrev b' : List ℕ
  b' = parity_with E s row owner versions

  written : (parity_write E s V j Subtractive p o).bytes ≡ b'
  unfolding new_parity parity_with summed_row new_versions write_plan
  written =
      ap₂ (λ y z. new_parity E s V j y z p o (new_version E V j)) (cond-true (swift Subtractive V j) BySum (plan_of E.D s V j) q)
      (cond-true (swift Subtractive V j) false (bad_role E.D V Parity) q)
      ∙ parity_ext E s (λ i. part (λ v. byte_in v i) (get_or p i 0)) row owner owner versions versions
      (λ i h. sym (cond-true (ltb i 80) (part (λ v. byte_in v i) (get_or p i 0)) 0 (lt-ltb i 80 h))) refl (λ _ _. refl)

  takes : takes_at (w.book.slots (slot_of E.D s Parity)) s ≡ true
  takes = readable_takes E s Parity (w.shelf [] (slot_of E.D s Parity) s) (w.book.slots (slot_of E.D s Parity)) b x.readable

  cell_is : cell_of E (next E w (write L p o Subtractive fs)) s Parity ≡ Some b'
  cell_is =
      bytes_seen (next_shelf E w.shelf w.array (write L p o Subtractive fs) [] (slot_of E.D s Parity) s)
      ((next E w (write L p o Subtractive fs)).book.slots (slot_of E.D s Parity)) s b'
      (takes_after E G C w I O L p o Subtractive fs (slot_of E.D s Parity) s takes)
      (landed E G C w I O L p o Subtractive fs Parity tt W (did_all E w (write L p o Subtractive fs) (slot_of E.D s Parity) n)
      ∙ put_parity E G C w I O L p o Subtractive fs W (w.shelf [] (slot_of E.D s Parity) s) b'
      (ap (λ z. takes_at z s) (I.same (slot_of E.D s Parity)) ∙ takes) written)

  version_is : (i : ℕ) → i < E.D → version_of b' i ≡ versions i
  version_is i h = C.parity_version s row owner versions a row_small owner_small versions_small i h

  -- the records after the write
  abbrev R' : ℕ → Rec
  R' i = rec_at E (f' E G C w I O L p o Subtractive fs) s i

  records_are : (i : ℕ) → rec_at E (next E w (write L p o Subtractive fs)).book.records s i ≡ R' i
  records_are i = ap (λ z. rec_at E (B' E G C w I O L p o Subtractive fs z).records s i) t

  old : (i : ℕ) → (i ≡ j → ⊥) → (R' i).version ≡ (R i).version
  old i d = ap (λ r. r.version) (old_rec E G C w I O L p o Subtractive fs i d)

  bounded : (i : ℕ) → i < E.D → (i ≡ j) ⊎ (i ≡ j → ⊥) → version_of b' i ≤ (R' i).version
  bounded i h (inl e) =
      let v : (R' j).version ≡ suc (R j).version = ap (λ r. r.version) (new_rec E G C w I O L p o Subtractive fs) in
      omega (arith, version_is i h, ap versions e, version_own, v, ap (λ z. (R' z).version) e)
  bounded i h (inr d) = omega (arith, version_is i h, version_other i d, old i d, x.highest i h)

  pub behind_stays : BehindAt E (next E w (write L p o Subtractive fs)) s k b'
  behind_stays = record {
    readable = ap (alone E s Parity) cell_is ∙ C.parity_fit s row owner versions a row_small owner_small versions_small;
    highest = λ i h. subst (λ r. version_of b' i ≤ r.version) (sym (records_are i)) (bounded i h (cases_eq i j));
    lower =
        subst (λ r. version_of b' k < r.version) (sym (records_are k))
        (omega (arith, version_is k lk, version_other k nk, old k nk, x.lower));
  }
