use Rattle.std.specs.Prelude.{Err}
use Rattle.std.proofs.Common.{◌≡◌, ℕ, ◌<◌, true, false, List, get_or, set, sym, ◌∙◌, rules}
use Rattle.std.proofs.lemmas.Simd.{Each1-from_get_or}
use Rattle.std.proofs.lemmas.Bool.{false≢true}
use Rattle.checksum.specs.Rows.{Bytes, OneApart, Row}
use Rattle.block.specs.declared.shapes.Defect.TheVariants.{Broken}
use Rattle.block.specs.Shapes.{Verdict}
use Rattle.block.specs.Judging.{RightSum, broken_by}
use Rattle.block.proofs.OneByte.{changed_is_broken}
use Rattle.block.proofs.spot.Spot.judge_block.Goals as goal

-- a block that is not broken is no block with one byte changed
never : (h : List ℕ → ℕ) (b was : List ℕ) (i v : ℕ) → b ≡ set was i v → Bytes b → broken_by h b ≡ false
    → (Bytes (set was i v) → broken_by h (set was i v) ≡ true) → ⊥
never h b was i v e bytes left hit = false≢true (sym left ∙ (rw e (hit (rw e at bytes))))

bytes_of : (b : List ℕ) → ((k : ℕ) → get_or b k 0 < 256) → Bytes b
bytes_of b fits = Each1-from_get_or (λ x. x < 256) b 0 (λ k h. fits k)

-- the one_byte promise where the block is not broken
module _ (h : List ℕ → ℕ) (tells : (xs ys : List ℕ) → Row xs → Row ys → OneApart xs ys → h xs ≡ h ys → ⊥) (b : List ℕ) (bytes : Bytes b)
    (left : broken_by h b ≡ false) where
  one_byte : (v' : Verdict) (was : List ℕ) (i v : ℕ) → RightSum h was → i < 128 → (get_or was i 0 ≡ v → ⊥) → b ≡ set was i v → v' ≡ Err Broken
  one_byte v' was i v s l ne e = absurd (never h b was i v e bytes left (changed_is_broken h tells was i v s l ne))

pub returns-then-is_native : goal.returns-then-is_native
returns-then-is_native g c = record {
  is = search rules;
  one_byte = one_byte g.C.Checksum.meaning g.met.C.Checksum.tells _ (bytes_of c.args.block.now c.fits-block) (sym c.is_broken.ensures ∙ c.if-is_broken.false) _;
}

pub returns-else-is_native : goal.returns-else-is_native
returns-else-is_native g c = record {
  is = search rules;
  one_byte = one_byte g.C.Checksum.meaning g.met.C.Checksum.tells _ (bytes_of c.args.block.now c.fits-block) (sym c.is_broken.ensures ∙ c.if-is_broken.false) _;
}
