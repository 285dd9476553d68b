-- The block that a place requires, and the judging of a block alone.
use Rattle.std.specs.Prelude.{◌≡◌, ℕ, zero, suc, ◌+◌, ◌-◌, Bool, true, cond, not, ◌&&◌, List, length, take, ◌==◌, slice_index, Some, None, Ok, Err}
use Rattle.checksum.specs.Rows.{word_at, Bytes as BytesOnly}
use Rattle.block.specs.declared.frame.Frame.{Frame}
use Rattle.block.specs.Shapes.{Cell, Verdict}
use Rattle.block.specs.declared.shapes.Defect.TheVariants.{Blind, Broken, Foreign}
use Rattle.block.specs.declared.shapes.Fields.{Fields}
use Rattle.block.specs.declared.shapes.Role.{Role}
use Rattle.block.specs.declared.shapes.Role.TheVariants.{Parity, Data}
use Rattle.block.specs.Layout.{sealed_by, version_of}
use Rattle.block.specs.Places.{slot_of}

-- What stays fixed of an array: D data blocks to a stripe (N - 1), S stripes, the tag,
-- and a checksum by its mark and its meaning.
pub record Setup : Type 0 where
  pub D : ℕ
  pub S : ℕ
  pub tag : ℕ
  pub mark : ℕ
  pub sum : List ℕ → ℕ

abbrev pub setup : Frame → ℕ → (List ℕ → ℕ) → Setup
setup f m h = record { D = f.width; S = f.blocks; tag = f.tag; mark = m; sum = h }

abbrev pub kind_of : Role → ℕ
kind_of Parity = 2
kind_of (Data j) = 1

-- how many of the seven versions are used
abbrev pub used_of : ℕ → Role → ℕ
used_of d Parity = d
used_of d (Data j) = 1

abbrev pub fields_of : Setup → ℕ → Role → List ℕ → ℕ → List ℕ → Fields
fields_of E s r payload owner versions = record {
  payload = payload;
  kind = kind_of r;
  mark = E.mark;
  slot = slot_of E.D s r;
  cards = E.D + 1;
  block = s;
  owner = owner;
  versions = versions;
  tag = E.tag;
}

-- the block of stripe s with this payload, owner and versions
unfoldable pub block_with : Setup → ℕ → Role → List ℕ → ℕ → List ℕ → List ℕ
block_with E s r payload owner versions = sealed_by E.sum (fields_of E s r payload owner versions)

-- its checksum differs
unfoldable pub broken_by : (List ℕ → ℕ) → List ℕ → Bool
broken_by h b = not (word_at b 124 == h (take 124 b))

-- 128 bytes whose last four are the checksum of the others
pub record RightSum (h : List ℕ → ℕ) (b : List ℕ) : Type 0 where
  pub long : length b ≡ 128
  pub bytes : BytesOnly b
  pub sum : word_at b 124 ≡ h (take 124 b)

-- the four bytes after the payload are what the place requires
unfoldable pub marks_fit : ℕ → ℕ → ℕ → Role → List ℕ → Bool
marks_fit d m s r b =
    (slice_index b 80 == kind_of r) && (slice_index b 81 == m && (slice_index b 82 == slot_of d s r && slice_index b 83 == d + 1))

-- the versions from index k on, n of them, are all 0
unfoldable pub unused_zero : List ℕ → ℕ → ℕ → Bool
unused_zero b k zero = true
unused_zero b k (suc n) = version_of b k == 0 && unused_zero b (k + 1) n

-- the block is of this place: all that a foreign block may differ in
unfoldable pub native_block : Setup → ℕ → Role → List ℕ → Bool
native_block E s r b =
    marks_fit E.D E.mark s r b
    && (word_at b 84 == s && (word_at b 120 == E.tag && unused_zero b (used_of E.D r) (7 - used_of E.D r)))

abbrev pub judged : Setup → ℕ → Role → List ℕ → Verdict
judged E s r b = cond (broken_by E.sum b) (Err Broken) (cond (native_block E s r b) (Ok b) (Err Foreign))

abbrev pub alone : Setup → ℕ → Role → Cell → Verdict
alone E s r None = Err Blind
alone E s r (Some b) = judged E s r b
