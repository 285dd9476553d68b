-- The fields of the blocks of the book's records, in a stripe.
use Rattle.std.specs.Prelude.{Some, Ok, Err}
use Rattle.std.proofs.Common.{◌≡◌, ℕ, ◌+◌, ◌*◌, ◌^◌, ◌<◌, true, List, get_or, take, set, ap, ◌∙◌}
use Rattle.block.specs.declared.shapes.Defect.{Defect}
use Rattle.block.specs.declared.shapes.Role.{Role}
use Rattle.block.specs.declared.shapes.Role.TheVariants.{Parity, Data}
use Rattle.block.specs.Judging.{Setup, alone, broken_by}
use Rattle.block.specs.Layout.{owner_of, version_of}
use Rattle.stripe.specs.Mend.{byte_in, owner_in, version_in, xors}
use Rattle.stripe.specs.View.{View}
use Rattle.runs.specs.Book.{Rec, Fits, rec_at, data_of, parity_of, block_of}
use Rattle.runs.specs.Runs.{InStripe, Lower}
use Rattle.runs.proofs.CodecLaws.{CodecLaws, parity_with}
use Rattle.runs.proofs.Xors.{xors_lt}

-- a block is judged to be the block of the records
abbrev pub Fine : Setup → ℕ → (ℕ → Rec) → View → Role → Type 0
Fine E s f V r = V r ≡ Ok (block_of E f s r)

-- a block is judged unfit, or has lower versions than the records
pub data Poor (E : Setup) (s : ℕ) (f : ℕ → Rec) (V : View) (r : Role) : Type 0 where
  unfit : (c : Defect) → V r ≡ Err c → Poor E s f V r
  behind : (b : List ℕ) → V r ≡ Ok b → Lower E f s r b → Poor E s f V r

module _ (E : Setup) (C : CodecLaws E) (s : ℕ) (a : s < E.S) (f : ℕ → Rec) (F : (L : ℕ) → Fits (f L)) where
  abbrev R : ℕ → Rec
  R k = rec_at E f s k

  abbrev row : ℕ → ℕ
  row i = xors E.D (λ k. get_or (R k).payload i 0)

  abbrev owner : ℕ
  owner = xors E.D (λ k. (R k).owner)

  pub row_small : (i : ℕ) → row i < 2 ^ 8
  row_small i = xors_lt E.D 8 (λ k. get_or (R k).payload i 0) (λ k _. (F (s * E.D + k)).bytes i)

  pub owner_small : owner < 2 ^ 32
  owner_small = xors_lt E.D 32 (λ k. (R k).owner) (λ k _. (F (s * E.D + k)).owned)

  pub vers_small : (k : ℕ) → k < E.D → (R k).version < 2 ^ 32
  vers_small k _ = (F (s * E.D + k)).versioned

  pub block_fit : (r : Role) → InStripe E r → alone E s r (Some (block_of E f s r)) ≡ Ok (block_of E f s r)
  unfolding parity_of parity_with
  block_fit Parity i = C.parity_fit s row owner (λ k. (R k).version) a row_small owner_small vers_small
  block_fit (Data j) i = C.data_fit s j (R j) a i (F (s * E.D + j))

  pub block_broken : (r : Role) (i v : ℕ) → InStripe E r → i < 128 → v < 2 ^ 8 → (get_or (block_of E f s r) i 0 ≡ v → ⊥)
      → broken_by E.sum (set (block_of E f s r) i v) ≡ true
  unfolding parity_of parity_with
  block_broken Parity i v h b c d = C.parity_broken s row owner (λ k. (R k).version) a row_small owner_small vers_small i v b c d
  block_broken (Data j) i v h b c d = C.data_broken s j (R j) i v a h (F (s * E.D + j)) b c d

  pub ver_data : (j : ℕ) → j < E.D → version_of (data_of E s j (R j)) 0 ≡ (R j).version
  ver_data j l = C.data_version_lem s j (R j) a l (F (s * E.D + j))

  pub ver_parity : (k : ℕ) → k < E.D → version_of (parity_of E s R) k ≡ (R k).version
  unfolding parity_of parity_with
  ver_parity k l = C.parity_version s row owner (λ n. (R n).version) a row_small owner_small vers_small k l

  pub own_of_data : (j : ℕ) → j < E.D → owner_of (data_of E s j (R j)) ≡ (R j).owner
  own_of_data j l = C.data_owner_lem s j (R j) a l (F (s * E.D + j))

  pub pay_of_data : (j : ℕ) → j < E.D → take 80 (data_of E s j (R j)) ≡ (R j).payload
  pay_of_data j l = C.data_payload s j (R j) a l (F (s * E.D + j))

  module _ (V : View) where
    pub byte_data : (j i : ℕ) → j < E.D → i < 80 → Fine E s f V (Data j) → byte_in (V (Data j)) i ≡ get_or (R j).payload i 0
    byte_data j i l m e = ap (λ v. byte_in v i) e ∙ C.data_row_lem s j (R j) i a l (F (s * E.D + j)) m

    pub own_data : (j : ℕ) → j < E.D → Fine E s f V (Data j) → owner_in (V (Data j)) ≡ (R j).owner
    own_data j l e = ap owner_in e ∙ own_of_data j l

    pub vers_data : (j : ℕ) → j < E.D → Fine E s f V (Data j) → version_in (V (Data j)) 0 ≡ (R j).version
    vers_data j l e = ap (λ v. version_in v 0) e ∙ ver_data j l

    pub byte_parity : (i : ℕ) → i < 80 → Fine E s f V Parity → byte_in (V Parity) i ≡ row i
    unfolding parity_of parity_with
    byte_parity i m e = ap (λ v. byte_in v i) e ∙ C.parity_row s row owner (λ n. (R n).version) i m

    pub own_parity : Fine E s f V Parity → owner_in (V Parity) ≡ owner
    unfolding parity_of parity_with
    own_parity e = ap owner_in e ∙ C.parity_owner s row owner (λ n. (R n).version) a row_small owner_small vers_small

    pub vers_parity : (k : ℕ) → k < E.D → Fine E s f V Parity → version_in (V Parity) k ≡ (R k).version
    vers_parity k l e = ap (λ v. version_in v k) e ∙ ver_parity k l
