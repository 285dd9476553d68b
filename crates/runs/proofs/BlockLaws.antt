-- What the 128 bytes of a block say, and that they are judged readable.
use Rattle.std.specs.Prelude.{Ok}
use Rattle.std.proofs.Common.{◌≡◌, ℕ, zero, suc, ◌+◌, ◌-◌, ◌*◌, ◌^◌, ◌<◌, ◌≤◌, true, false, not, List, [], ◌∷◌, ◌++◌, length, get_or, take, set, sym, refl, ap, ◌∙◌, arith}
use lib.Lanes.{Each1}
use Rattle.std.proofs.lemmas.List.{append_assoc, length-append, get_or-take, take_at}
use Rattle.std.proofs.lemmas.Bool.{eq-eqb, and_from, cond-true, cond-false}
use Rattle.checksum.specs.Rows.{word_at, Bytes, Row, OneApart}
use Rattle.block.specs.declared.shapes.Fields.{Fields}
use Rattle.block.specs.declared.shapes.Role.{Role}
use Rattle.block.specs.declared.shapes.Role.TheVariants.{Parity, Data}
use Rattle.block.specs.Judging.{
  Setup,
  kind_of,
  used_of,
  fields_of,
  block_with,
  broken_by,
  RightSum,
  marks_fit,
  unused_zero,
  native_block,
  judged,
}
use Rattle.block.specs.Layout.{body, bytes_of, bytes_of_all, encoded, sealed_by, words_at, decoded, owner_of, version_of, Sound}
use Rattle.block.specs.Places.{slot_of}
use Rattle.block.proofs.LayoutLaws.{word_back, there_and_back, length_body}
use Rattle.block.proofs.OneByte.{changed_is_broken}

-- rows of bytes stay rows of bytes
pub bytes_append : (xs ys : List ℕ) → Bytes xs → Bytes ys → Bytes (xs ++ ys)
bytes_append [] ys h k = k
bytes_append (x ∷ xs) ys h k = (h.0, bytes_append xs ys h.1 k)

pub bytes_set : (xs : List ℕ) (i v : ℕ) → Bytes xs → v < 256 → Bytes (set xs i v)
bytes_set [] i v h l = tt
bytes_set (x ∷ xs) zero v h l = (l, h.1)
bytes_set (x ∷ xs) (suc i) v h l = (h.0, bytes_set xs i v h.1 l)

bytes_word : (n : ℕ) → Bytes (bytes_of n)
bytes_word n = (omega arith, (omega arith, (omega arith, (omega arith, tt))))

bytes_words : (ns : List ℕ) → Bytes (bytes_of_all ns)
bytes_words [] = tt
bytes_words (n ∷ ns) = bytes_append (bytes_of n) (bytes_of_all ns) (bytes_word n) (bytes_words ns)

-- the kind fits a byte
kind_small : (r : Role) → kind_of r < 256
kind_small Parity = omega arith
kind_small (Data j) = omega arith

-- word k of those that stand in a row
get_d_words : (n : ℕ) (b : List ℕ) (i k : ℕ) → k < n → get_or (words_at n b i) k 0 ≡ word_at b (i + 4 * k)
get_d_words zero b i k h = absurd (omega arith)
get_d_words (suc n) b i zero h = let e : i ≡ i + 4 * 0 = omega arith in ap (word_at b) e
get_d_words (suc n) b i (suc k) h = let e : i + 4 + 4 * k ≡ i + 4 * suc k = omega arith in get_d_words n b (i + 4) k (omega arith) ∙ ap (word_at b) e

-- versions that are 0 from k on count as unused
unused_from : (b : List ℕ) (k n : ℕ) → ((i : ℕ) → k ≤ i → i < k + n → version_of b i ≡ 0) → unused_zero b k n ≡ true
unfolding unused_zero
unused_from b k zero h = refl
unused_from b k (suc n) h = and_from _ _ (eq-eqb _ _ (h k (omega arith) (omega arith))) (unused_from b (k + 1) n (λ i l m. h i (omega arith) (omega arith)))

-- the payload stands first, whatever follows
first_80 : (f : Fields) (sum : ℕ) → length f.payload ≡ 80 → take 80 (encoded f sum) ≡ f.payload
first_80 f sum h =
    let q = f.kind ∷ f.mark ∷ f.slot ∷ f.cards ∷ [] in
    let rest = q ++ (bytes_of f.block ++ (bytes_of f.owner ++ (bytes_of_all f.versions ++ (bytes_of f.tag ++ bytes_of sum)))) in
    let e : encoded f sum ≡ f.payload ++ rest = simp append_assoc in
    ap (take 80) e ∙ take_at f.payload rest 80 h

pub block_payload : (E : Setup) (s : ℕ) (r : Role) (payload : List ℕ) (owner : ℕ) (versions : List ℕ) → length payload ≡ 80
    → take 80 (block_with E s r payload owner versions) ≡ payload
unfolding block_with sealed_by
block_payload E s r payload owner versions h = first_80 (fields_of E s r payload owner versions) _ h

pub block_byte : (E : Setup) (s : ℕ) (r : Role) (payload : List ℕ) (owner : ℕ) (versions : List ℕ) → length payload ≡ 80 → (i : ℕ) → i < 80
    → get_or (block_with E s r payload owner versions) i 0 ≡ get_or payload i 0
block_byte E s r payload owner versions h i l =
    sym (get_or-take 80 _ i 0 l) ∙ ap (λ p. get_or p i 0) (block_payload E s r payload owner versions h)

-- what is put into a block has the widths of its fields
pub record Plain (E : Setup) (s : ℕ) (r : Role) (payload : List ℕ) (owner : ℕ) (versions : List ℕ) : Type 0 where
  pub long : length payload ≡ 80
  pub bytes : Bytes payload
  pub owned : owner < 2 ^ 32
  pub seven : length versions ≡ 7
  pub each : Each1 (λ v. v < 2 ^ 32) versions
  pub block : s < 2 ^ 32
  pub slot : slot_of E.D s r < 256
  pub cards : E.D + 1 < 256
  pub marked : E.mark < 256
  pub tagged : E.tag < 2 ^ 32
  pub narrow : (bs : List ℕ) → Row bs → E.sum bs < 2 ^ 32

module _ (E : Setup) (s : ℕ) (r : Role) (payload : List ℕ) (owner : ℕ) (versions : List ℕ) (h : Plain E s r payload owner versions) where
  abbrev fields : Fields
  fields = fields_of E s r payload owner versions

  abbrev bytes128 : List ℕ
  bytes128 = block_with E s r payload owner versions

  sound : Sound fields
  sound = record { payload = h.long; versions = h.seven; block = h.block; owner = h.owned; tag = h.tagged; each = h.each }

  bytes_body : Bytes (body fields)
  bytes_body =
      let marks : Bytes (kind_of r ∷ E.mark ∷ slot_of E.D s r ∷ (E.D + 1) ∷ []) = (kind_small r, (h.marked, (h.slot, (h.cards, tt)))) in
      bytes_append _ (bytes_of E.tag)
      (bytes_append _ (bytes_of_all versions)
      (bytes_append _ (bytes_of owner)
      (bytes_append _ (bytes_of s) (bytes_append payload _ h.bytes marks) (bytes_word s)) (bytes_word owner)) (bytes_words versions))
      (bytes_word E.tag)

  row_body : Row (body fields)
  row_body = record { long = length_body fields sound; bytes = bytes_body }

  pub block_length : length bytes128 ≡ 128
  unfolding block_with sealed_by
  block_length = length-append (body fields) (bytes_of (E.sum (body fields))) ∙ ap (λ n. n + 4) row_body.long

  pub block_bytes : Bytes bytes128
  unfolding block_with sealed_by
  block_bytes = bytes_append (body fields) (bytes_of (E.sum (body fields))) bytes_body (bytes_word (E.sum (body fields)))

  block_front : take 124 bytes128 ≡ body fields
  unfolding block_with sealed_by
  block_front = take_at (body fields) (bytes_of (E.sum (body fields))) 124 row_body.long

  block_sum : word_at bytes128 124 ≡ E.sum (body fields)
  unfolding block_with sealed_by
  block_sum = word_back (body fields) [] 124 (E.sum (body fields)) row_body.long (h.narrow (body fields) row_body)

  pub block_right : RightSum E.sum bytes128
  block_right = record { long = block_length; bytes = block_bytes; sum = block_sum ∙ ap E.sum (sym block_front) }

  -- the fields are read back
  pub block_decoded : decoded bytes128 ≡ fields
  unfolding block_with sealed_by
  block_decoded = there_and_back fields (E.sum (body fields)) sound

  pub block_owner : owner_of bytes128 ≡ owner
  block_owner = ap (λ f. f.owner) block_decoded

  pub block_version : (k : ℕ) → k < 7 → version_of bytes128 k ≡ get_or versions k 0
  block_version k l = sym (get_d_words 7 bytes128 92 k l) ∙ ap (λ f. get_or f.versions k 0) block_decoded

  -- the block is judged readable
  pub block_whole : broken_by E.sum bytes128 ≡ false
  unfolding broken_by
  block_whole = ap not (eq-eqb _ _ block_right.sum)

  marks_fit_lem : marks_fit E.D E.mark s r bytes128 ≡ true
  unfolding marks_fit
  marks_fit_lem =
      and_from _ _ (eq-eqb _ _ (ap (λ f. f.kind) block_decoded))
      (and_from _ _ (eq-eqb _ _ (ap (λ f. f.mark) block_decoded))
      (and_from _ _ (eq-eqb _ _ (ap (λ f. f.slot) block_decoded)) (eq-eqb _ _ (ap (λ f. f.cards) block_decoded))))

  pub block_native : ((k : ℕ) → used_of E.D r ≤ k → k < 7 → get_or versions k 0 ≡ 0) → native_block E s r bytes128 ≡ true
  unfolding native_block
  block_native zeros =
      and_from _ _ marks_fit_lem
      (and_from _ _ (eq-eqb _ _ (ap (λ f. f.block) block_decoded))
      (and_from _ _ (eq-eqb _ _ (ap (λ f. f.tag) block_decoded))
      (unused_from bytes128 (used_of E.D r) (7 - used_of E.D r)
      (λ k l m. let n : k < 7 = omega arith in block_version k n ∙ zeros k l n))))

  pub block_readable : ((k : ℕ) → used_of E.D r ≤ k → k < 7 → get_or versions k 0 ≡ 0) → judged E s r bytes128 ≡ Ok bytes128
  block_readable zeros = cond-false _ _ _ block_whole ∙ cond-true _ _ _ (block_native zeros)

  -- one byte changed to another value shows
  pub block_changed : ((xs ys : List ℕ) → Row xs → Row ys → OneApart xs ys → E.sum xs ≡ E.sum ys → ⊥) → (i v : ℕ) → i < 128 → v < 256
      → (get_or bytes128 i 0 ≡ v → ⊥) → broken_by E.sum (set bytes128 i v) ≡ true
  block_changed tells i v l m ne = changed_is_broken E.sum tells bytes128 i v block_right l ne (bytes_set bytes128 i v block_bytes m)
