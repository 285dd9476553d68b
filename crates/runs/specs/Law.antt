-- The law over runs.
use Rattle.std.specs.Prelude.{◌≡◌, ℕ, ◌+◌, ◌*◌, ◌/◌, ◌%◌, ◌^◌, ◌<◌, ◌≤◌, Bool, true, ◌⊎◌, List, [], ◌∷◌, ◌++◌, length, Some, Err, ◌≢◌, slice_index, slice_set}
use Rattle.block.specs.declared.refusal.Refusal.TheVariants.{Lost}
use Rattle.block.specs.declared.shapes.Defect.TheVariants.{Broken}
use Rattle.block.specs.declared.shapes.Role.{Role}
use Rattle.block.specs.declared.shapes.Role.TheVariants.{Data}
use Rattle.block.specs.Judging.{Setup, alone}
use Rattle.block.specs.Places.{slot_of}
use Rattle.checksum.specs.Rows.{Row, OneApart}
use Rattle.shelf.specs.Model.{AsTold, Conduct, Write, after_all}
use Rattle.stripe.specs.declared.shapes.Finding.{Finding}
use Rattle.runs.specs.declared.shapes.Event.TheVariants.{Pull, GiveUp}
use Rattle.runs.specs.Reads.{Reading, read_call, shown}
use Rattle.runs.specs.Runs.{
  Step,
  read,
  write,
  look,
  scrub,
  rebuild,
  event,
  damage,
  World,
  Run,
  Orderly,
  Proper,
  Good,
  OnlyBad,
  InStripe,
  Starts,
  accepted,
  handed,
  next,
  cell_of,
  formatted,
}

-- the law of every checksum: its sum of 124 bytes has 32 bits, and rows that differ in exactly one byte have different sums
pub record SumLaw (sum : List ℕ → ℕ) : Type 0 where
  pub narrow : (bs : List ℕ) → Row bs → sum bs < 2 ^ 32
  pub tells : (xs ys : List ℕ) → Row xs → Row ys → OneApart xs ys → sum xs ≢ sum ys

-- an array's numbers are in range, and its checksum keeps its law
pub record InRange (E : Setup) : Type 0 where
  pub wide : 2 ≤ E.D
  pub slim : E.D ≤ 7
  pub some : 1 ≤ E.S
  pub many : E.S ≤ 65536
  pub marked : E.mark < 2 ^ 8
  pub tagged : E.tag < 2 ^ 32
  pub summed : SumLaw E.sum

-- the read of an address in a world
abbrev pub read_in : Setup → World → ℕ → ℕ → Bool → List ℕ → List ℕ → List Finding → Reading
read_in E w L o on f b fs = read_call E (w.shelf []) w.array.slots w.array.tally L o on f b fs

-- Reads, for the right owner, with the switch on or off and buffers of the right length: if the block is good or is its
-- stripe's only bad one, the 80 bytes shown are the payload last accepted; else the read says that the block is lost.
pub record ReadsRight (E : Setup) (w : World) : Type 0 where
  pub gives : (L : ℕ) (on : Bool) (f b : List ℕ) (fs : List Finding) → length f ≡ 128 → length b ≡ 128 → L < E.D * E.S
      → Good E w (L / E.D) (Data (L % E.D)) ⊎ OnlyBad E w (L / E.D) (Data (L % E.D))
      → shown (read_in E w L (w.book.records L).owner on f b fs) ≡ Some (w.book.records L).payload
  pub loses : (L : ℕ) (on : Bool) (f b : List ℕ) (fs : List Finding) → length f ≡ 128 → length b ≡ 128 → L < E.D * E.S
      → (Good E w (L / E.D) (Data (L % E.D)) ⊎ OnlyBad E w (L / E.D) (Data (L % E.D)) → ⊥)
      → (read_in E w L (w.book.records L).owner on f b fs).answer ≡ Err Lost

-- card c did not do as told the write w, one of the writes ws that were handed to the shelf in this order
pub record FailedWrite (E : Setup) (m : Conduct) (ws : List Write) (c : ℕ) : Type 0 where
  pub before : List Write
  pub failed : Write
  pub later : List Write
  pub among : ws ≡ before ++ failed ∷ later
  pub own : failed.slot ≡ c
  pub untold : AsTold (E.D + 1) E.S (after_all m before) failed → ⊥

-- damage changed what card c holds at some place
pub record DamagedPlace (E : Setup) (m m' : Conduct) (c : ℕ) : Type 0 where
  pub place : ℕ
  pub within : place < E.S
  pub changed : m' [] c place ≡ m [] c place → ⊥

abbrev pub Damaged : Setup → World → Step → ℕ → Type 0
Damaged E w (read L o on f b fs) c = ⊥
Damaged E w (write L p o y fs) c = ⊥
Damaged E w (look L n o out) c = ⊥
Damaged E w scrub c = ⊥
Damaged E w (rebuild d) c = ⊥
Damaged E w (event d e) c = ⊥
Damaged E w (damage m) c = DamagedPlace E w.shelf m c

-- pull and give-up take a card out
abbrev pub TakenOut : Setup → World → Step → ℕ → Type 0
TakenOut E w k c = (accepted E w.shelf w.array k ≡ true) × ((k ≡ event c Pull) ⊎ (k ≡ event c GiveUp))

-- No step spoils a good block: a block that was good and is not good after the step had its own card fail one of the
-- writes handed to it in this step, or damaged in it, or taken out by it.
abbrev pub SpoilsNone : Setup → World → Step → Type 0
SpoilsNone E w k =
    (s : ℕ) (r : Role) → s < E.S → InStripe E r → Good E w s r → (Good E (next E w k) s r → ⊥)
    → FailedWrite E w.shelf (handed E w.shelf w.array k) (slot_of E.D s r)
    ⊎ (Damaged E w k (slot_of E.D s r) ⊎ TakenOut E w k (slot_of E.D s r))

-- A good block, any one of its 128 bytes changed to any other value, is judged broken.
abbrev pub OneByteShows : Setup → World → Type 0
OneByteShows E w =
    (s : ℕ) (r : Role) (b : List ℕ) (i v : ℕ) → s < E.S → InStripe E r → Good E w s r → cell_of E w s r ≡ Some b → i < 128
    → v < 2 ^ 8 → (slice_index b i ≢ v) → alone E s r (Some (slice_set b i v)) ≡ Err Broken

pub record Keeps (E : Setup) (w : World) : Type 0 where
  pub reads : ReadsRight E w
  pub repairs : (k : Step) → Proper E k → SpoilsNone E w k
  pub bytes : OneByteShows E w

-- the law of the runs that start in a world
abbrev pub LawFrom : Setup → World → Type 0
LawFrom E w₀ = (w : World) → Run E w₀ w → Orderly E w → Keeps E w

-- the law of the runs that follow a format, above a shelf that then has this conduct
abbrev pub FormatLaw : Setup → Conduct → Type 0
FormatLaw E m = LawFrom E (formatted m)

-- the law over runs, from any shelf and any book
abbrev pub RunLaw : Type 0
RunLaw = (E : Setup) → InRange E → (w₀ : World) → Starts E w₀ → LawFrom E w₀
