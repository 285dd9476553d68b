-- The law over runs is not empty: orderly runs exist, and in one of them a read is given rebuilt and a later one says lost.
use Rattle.std.specs.Prelude.{◌≡◌, ℕ, ◌+◌, ◌^◌, ◌<◌, ◌≤◌, Bool, false, cond, List, [], ◌∷◌, length, Some, Ok, Err, ◌==◌, None}
use Rattle.block.specs.declared.refusal.Refusal.TheVariants.{Lost}
use Rattle.block.specs.declared.shapes.Role.{Role}
use Rattle.block.specs.Judging.{Setup}
use Rattle.shelf.specs.Model.{Conduct, Faithful, OwnCard, Write}
use Rattle.stripe.specs.declared.shapes.Finding.{Finding}
use Rattle.runs.specs.declared.shapes.Source.TheVariants.{Rebuilt}
use Rattle.runs.specs.declared.shapes.Way.TheVariants.{Subtractive}
use Rattle.runs.specs.Book.{Fits}
use Rattle.runs.specs.Law.{FailedWrite, InRange, SumLaw, read_in}
use Rattle.runs.specs.Reads.{shown}
use Rattle.runs.specs.Runs.{
  Step,
  read,
  write,
  look,
  scrub,
  rebuild,
  event,
  damage,
  World,
  Run,
  Orderly,
  Proper,
  Good,
  InStripe,
  handed,
  next,
  formatted,
}

-- a shelf that keeps the own-card law, does every write as told, and holds a formatted array: each of its blocks is good
pub record GoodShelf (E : Setup) (m : Conduct) : Type 0 where
  pub own : OwnCard (E.D + 1) E.S m
  pub faithful : Faithful (E.D + 1) E.S m
  pub good : (s : ℕ) (r : Role) → s < E.S → InStripe E r → Good E (formatted m) s r

-- there is a good shelf, and P holds of each
abbrev pub OfGoodShelves : Setup → (Conduct → Type 0) → Type 0
OfGoodShelves E P = ((m : Conduct) × GoodShelf E m) × ((m : Conduct) → GoodShelf E m → P m)

-- reads, writes, looks and scrubs
abbrev pub Quiet : Setup → Step → Type 0
Quiet E (read L o on f b fs) = Unit {0}
Quiet E (write L p o y fs) = Proper E (write L p o y fs)
Quiet E (look L n o out) = Unit {0}
Quiet E scrub = Unit {0}
Quiet E (rebuild c) = ⊥
Quiet E (event c e) = ⊥
Quiet E (damage m) = ⊥

-- the worlds that such steps lead to from a formatted array
pub data Quietly (E : Setup) (m : Conduct) : World → Type 0 where
  still : Quietly E m (formatted m)
  then : (w : World) (k : Step) → Quietly E m w → Quiet E k → Quietly E m (next E w k)

-- a world that a run leads to, in which a step may begin, and in which every block is good
pub record Reached (E : Setup) (m : Conduct) (w : World) : Type 0 where
  pub run : Run E (formatted m) w
  pub orderly : Orderly E w
  pub good : (s : ℕ) (r : Role) → s < E.S → InStripe E r → Good E w s r

-- In every array in range, over every good shelf, any list of reads, writes, looks and scrubs is a run, orderly as each step begins.
abbrev pub LawSpeaks : Type 0
LawSpeaks = (E : Setup) → InRange E → OfGoodShelves E (λ m. (w : World) → Quietly E m w → Reached E m w)

-- a list without its first write to card c
abbrev pub drop_first : ℕ → List Write → List Write
drop_first c [] = []
drop_first c (w ∷ ws) = cond (w.slot == c) ws (w ∷ drop_first c ws)

-- card c loses the next write handed to it, and is otherwise as before
abbrev pub losing : ℕ → Conduct → Conduct
losing c m ws = m (drop_first c ws)

-- card c turns blind
abbrev pub blinding : ℕ → Conduct → Conduct
blinding c m ws i j = cond (i == c) None (m ws i j)

-- the smallest array: three cards of one block each, data blocks 0 and 1 on cards 0 and 1, parity on card 2
abbrev pub smallest : ℕ → (List ℕ → ℕ) → Setup
smallest mark sum = record { D = 2; S = 1; tag = 1; mark = mark; sum = sum }

-- card 0 is about to lose a write
abbrev pub lossy : Setup → Conduct → World
lossy E m = next E (formatted m) (damage (losing 0 m))

-- address 0 was written, but for what card 0 lost
abbrev pub written : Setup → Conduct → List ℕ → ℕ → List Finding → World
written E m p o fs = next E (lossy E m) (write 0 p o Subtractive fs)

-- address 0 was read with the switch off
abbrev pub read_back : Setup → World → ℕ → List ℕ → List ℕ → List Finding → World
read_back E w o f b fs = next E w (read 0 o false f b fs)

-- card 1 turned blind
abbrev pub blinded : Setup → World → World
blinded E w = next E w (damage (blinding 1 w.shelf))

-- the end of the run
abbrev pub later : Setup → Conduct → List ℕ → ℕ → List ℕ → List ℕ → List Finding → World
later E m p o f b fs = blinded E (read_back E (written E m p o fs) o f b fs)

-- what the run shows, with buffers f and b and findings fs
pub record Witness (E : Setup) (m : Conduct) (p : List ℕ) (o : ℕ) (f b : List ℕ) (fs : List Finding) : Type 0 where
  -- card 0 did not do its write as told
  pub failed : FailedWrite E (lossy E m).shelf (handed E (lossy E m).shelf (lossy E m).array (write 0 p o Subtractive fs)) 0
  pub run : Run E (formatted m) (written E m p o fs)
  pub orderly : Orderly E (written E m p o fs)
  -- then a read gives the payload, rebuilt after a look at all three places
  pub rebuilt : (on : Bool) → (read_in E (written E m p o fs) 0 o on f b fs).answer ≡ Ok (record { source = Rebuilt; looks = 3 })
  pub shows : (on : Bool) → shown (read_in E (written E m p o fs) 0 o on f b fs) ≡ Some p
  pub later_run : Run E (formatted m) (later E m p o f b fs)
  pub later_orderly : Orderly E (later E m p o f b fs)
  -- and at the end a read says that the block is lost
  pub lost : (on : Bool) → (read_in E (later E m p o f b fs) 0 o on f b fs).answer ≡ Err Lost

-- Over every good shelf of the smallest array, under any checksum, for any payload and owner as their types have them,
-- the run shows this.
abbrev pub WitnessRun : Type 0
WitnessRun =
    (mark : ℕ) (sum : List ℕ → ℕ) → mark < 2 ^ 8 → SumLaw sum → (p : List ℕ) (o : ℕ) → Fits (record { payload = p; owner = o; version = 1 })
    → 1 ≤ o → (f b : List ℕ) (fs : List Finding) → length f ≡ 128 → length b ≡ 128
    → OfGoodShelves (smallest mark sum) (λ m. Witness (smallest mark sum) m p o f b fs)
