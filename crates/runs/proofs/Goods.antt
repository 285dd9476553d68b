-- Good blocks, and the writes that mend.
use Rattle.std.proofs.Common.{◌≡◌, ℕ, ◌+◌, ◌<◌, true, List, [], Some, None, Option, sym, refl, ap, ◌∙◌, ap₂}
use Rattle.block.specs.declared.shapes.Role.{Role}
use Rattle.block.specs.Judging.{Setup}
use Rattle.block.specs.Places.{slot_of}
use Rattle.shelf.specs.Model.{Write, Conduct, after_all, write_of}
use Rattle.stripe.specs.View.{takes_at, seen_at}
use Rattle.runs.specs.declared.shapes.Patch.{Patch}
use Rattle.runs.specs.Book.{Rec, Book, block_of}
use Rattle.runs.specs.Gather.{patch_of, patch_writes}
use Rattle.runs.specs.Runs.{World, InStripe, Good, Orderly, Starts}
use Rattle.runs.proofs.CodecLaws.{CodecLaws}
use Rattle.runs.proofs.Mends.{patch_exact}
use Rattle.runs.proofs.Places.{one_role, slot_in}
use Rattle.runs.proofs.Puts.{Did, expected, settled, same_when, seen_bytes, bytes_seen}
use Rattle.runs.proofs.Worlds.{view_in, sorted}

-- what the block of a role is, by its slot
pub same_block : (E : Setup) (f : ℕ → Rec) (t : ℕ) (q : Role) (s : ℕ) (r : Role) (b : List ℕ) → b ≡ block_of E f t q
    → slot_of E.D s r ≡ slot_of E.D t q → s ≡ t → b ≡ block_of E f s r
same_block E f t q s r b e c d =
    let z : r ≡ q = one_role E.D t r q (ap (λ z. slot_of E.D z r) (sym d) ∙ c) in
    e ∙ ap₂ (λ x y. block_of E f x y) (sym d) (sym z)

module _ (E : Setup) (w : World) (I : Starts E w) where
  abbrev m : Conduct
  m = w.shelf

  abbrev B : Book
  B = w.book

  abbrev slot : ℕ → Role → ℕ
  slot s r = slot_of E.D s r

  -- the block of the records
  abbrev block : ℕ → Role → List ℕ
  block s r = block_of E B.records s r

  -- a good block's place is seen, and holds the block
  pub good_takes : (s : ℕ) (r : Role) → Good E w s r → takes_at (B.slots (slot s r)) s ≡ true
  good_takes s r g = (seen_bytes (m [] (slot s r) s) (B.slots (slot s r)) s (block s r) g).0

  pub good_takes_in : (s : ℕ) (r : Role) → Good E w s r → takes_at (w.array.slots (slot s r)) s ≡ true
  good_takes_in s r g = ap (λ t. takes_at t s) (I.same (slot s r)) ∙ good_takes s r g

  pub good_content : (s : ℕ) (r : Role) → Good E w s r → m [] (slot s r) s ≡ Some (block s r)
  good_content s r g = (seen_bytes (m [] (slot s r) s) (B.slots (slot s r)) s (block s r) g).1

  pub after_writes : (ws : List Write) (s : ℕ) (r : Role) (b : List ℕ) → s < E.S → InStripe E r → Good E w s r
      → Did (E.D + 1) E.S m ws (slot s r) → expected ws (slot s r) s (Some (block s r)) ≡ Some b
      → after_all m ws [] (slot s r) s ≡ Some b
  after_writes ws s r b a i g did e =
      settled (E.D + 1) E.S ws m I.lawful (slot s r) s (slot_in E s r i) a did
      ∙ (ap (expected ws (slot s r) s) (good_content s r g) ∙ e)

  -- writes after which the slots are the same and a good block's place should hold the same block keep it good
  pub stays_seen : (ws : List Write) (s : ℕ) (r : Role) → s < E.S → InStripe E r → Good E w s r
      → Did (E.D + 1) E.S m ws (slot s r) → expected ws (slot s r) s (Some (block s r)) ≡ Some (block s r)
      → seen_at (after_all m ws [] (slot s r) s) (B.slots (slot s r)) s ≡ Some (block s r)
  stays_seen ws s r a i g did e =
      bytes_seen (after_all m ws [] (slot s r) s) (B.slots (slot s r)) s (block s r) (good_takes s r g)
      (after_writes ws s r (block s r) a i g did e)

  module _ (C : CodecLaws E) (O : Orderly E w) where
    -- a patch writes the block of the records
    pub patch_keeps : (t : ℕ) → t < E.S → (s : ℕ) (r : Role)
        → expected (patch_writes w.array.slots t (patch_of E t (view_in E w t))) (slot s r) s (Some (block s r)) ≡ Some (block s r)
    patch_keeps t a s r = go (patch_of E t (view_in E w t)) (patch_exact E C t a B.records I.fits (view_in E w t) (sorted E C w I O t a))
      where
        go : (x : Option Patch)
            → ((p : Patch) → x ≡ Some p
            → (q : Role) × (InStripe E q) × (p.slot ≡ slot_of E.D t q) × (p.bytes ≡ block_of E B.records t q))
            → expected (patch_writes w.array.slots t x) (slot s r) s (Some (block s r)) ≡ Some (block s r)
        go None h = refl
        go (Some p) h =
            let e = h p refl in
            same_when (takes_at (w.array.slots p.slot) t) (write_of p.slot t p.bytes) (slot s r) s (block s r)
            (λ c d. same_block E B.records t e.0 s r p.bytes e.3 (c ∙ e.2) d)
