-- Runs: lists of calls and damage, beside which the book goes.
use Rattle.std.specs.Prelude.{◌≡◌, ℕ, ◌+◌, ◌^◌, ◌<◌, ◌≤◌, Bool, true, false, cond, ◌⊎◌, List, [], Some, None, Ok, Err, Option, Result, ◌≢◌, nat_le, nat_lt, slice_index}
use Rattle.block.specs.declared.refusal.Refusal.{Refusal}
use Rattle.block.specs.Shapes.{Cell}
use Rattle.block.specs.declared.shapes.Defect.TheVariants.{Blind, Broken, Foreign}
use Rattle.block.specs.declared.shapes.Role.{Role}
use Rattle.block.specs.declared.shapes.Role.TheVariants.{Parity, Data}
use Rattle.block.specs.Judging.{Setup, alone}
use Rattle.block.specs.Layout.{version_of}
use Rattle.block.specs.Places.{slot_of}
use Rattle.shelf.specs.Model.{Conduct, Content, OwnCard, Write, after_all}
use Rattle.stripe.specs.declared.shapes.Finding.{Finding}
use Rattle.stripe.specs.declared.shapes.SlotState.{SlotState}
use Rattle.stripe.specs.declared.shapes.SlotState.TheVariants.{In, Out, Filling}
use Rattle.stripe.specs.View.{Slots, seen_at}
use Rattle.runs.specs.declared.shapes.Event.{Event}
use Rattle.runs.specs.declared.shapes.Way.{Way}
use Rattle.runs.specs.Book.{Rec, Fits, Book, blank_book, note_write, note_slot, event_to, refilled, rec_at, block_of}
use Rattle.runs.specs.Looks.{look_call}
use Rattle.runs.specs.Reads.{read_call}
use Rattle.runs.specs.Scrubs.{cursor_at, cursor_next, sweep_writes}
use Rattle.runs.specs.Slots.{put_slot, event_state, event_slots, rebuild_writes, rebuild_refused}
use Rattle.runs.specs.Writes.{write_call}

-- The steps of a run. Each stripe of a scrub or rebuild counts as one step, as does every other call; damage changes
-- content or conduct freely. Buffers and findings are given with what they hold.
pub data Step : Type 0 where
  -- address, owner, switch, both buffers, findings
  read : ℕ → ℕ → Bool → List ℕ → List ℕ → List Finding → Step
  -- address, payload, owner, way, findings
  write : ℕ → List ℕ → ℕ → Way → List Finding → Step
  -- first address, count, owner, buffer
  look : ℕ → ℕ → ℕ → List ℕ → Step
  -- one stripe
  scrub : Step
  -- one stripe of a slot
  rebuild : ℕ → Step
  -- pull, fit, finish or give up a slot
  event : ℕ → Event → Step
  damage : Conduct → Step

-- the array's own state
pub record ArrayState : Type 0 where
  pub slots : Slots
  pub cursor : ℕ
  pub tally : ℕ

abbrev pub is_ok : {A B : Type 0} → Result A B → Bool
is_ok (Ok a) = true
is_ok (Err e) = false

abbrev pub is_none : Option Refusal → Bool
is_none None = true
is_none (Some e) = false

-- whether a step is accepted
abbrev pub accepted : Setup → Conduct → ArrayState → Step → Bool
accepted E m A (read L o on f b fs) = is_ok (read_call E (m []) A.slots A.tally L o on f b fs).answer
accepted E m A (write L p o y fs) = is_ok (write_call E (m []) A.slots L p o y fs).answer
accepted E m A (look L n o out) = is_ok (look_call E (m []) A.slots A.tally L n o out).answer
accepted E m A scrub = true
accepted E m A (rebuild c) = is_none (rebuild_refused E A.slots c 1)
accepted E m A (event c e) = is_ok (event_state E A.slots c e)
accepted E m A (damage m') = true

abbrev pub refill_writes : Setup → Content → Slots → ℕ → SlotState → List Write
refill_writes E k σ c In = []
refill_writes E k σ c Out = []
refill_writes E k σ c (Filling n) = cond (nat_lt n E.S) (rebuild_writes E k σ n c) []

-- the writes that a step hands down, in order
abbrev pub handed : Setup → Conduct → ArrayState → Step → List Write
handed E m A (read L o on f b fs) = (read_call E (m []) A.slots A.tally L o on f b fs).writes
handed E m A (write L p o y fs) = (write_call E (m []) A.slots L p o y fs).writes
handed E m A (look L n o out) = []
handed E m A scrub = sweep_writes E (m []) A.slots (cursor_at E.S A.cursor)
handed E m A (rebuild c) = cond (nat_le c E.D) (refill_writes E (m []) A.slots c (A.slots c)) []
handed E m A (event c e) = []
handed E m A (damage m') = []

abbrev pub next_shelf : Setup → Conduct → ArrayState → Step → Conduct
next_shelf E m A (read L o on f b fs) = after_all m (handed E m A (read L o on f b fs))
next_shelf E m A (write L p o y fs) = after_all m (handed E m A (write L p o y fs))
next_shelf E m A (look L n o out) = m
next_shelf E m A scrub = after_all m (handed E m A scrub)
next_shelf E m A (rebuild c) = after_all m (handed E m A (rebuild c))
next_shelf E m A (event c e) = m
next_shelf E m A (damage m') = m'

abbrev pub next_array : Setup → Conduct → ArrayState → Step → ArrayState
next_array E m A (read L o on f b fs) =
    record { slots = A.slots; cursor = A.cursor; tally = (read_call E (m []) A.slots A.tally L o on f b fs).tally }
next_array E m A (write L p o y fs) = A
next_array E m A (look L n o out) =
    record { slots = A.slots; cursor = A.cursor; tally = (look_call E (m []) A.slots A.tally L n o out).tally }
next_array E m A scrub = record { slots = A.slots; cursor = cursor_next E.S (cursor_at E.S A.cursor); tally = A.tally }
next_array E m A (rebuild c) =
    record { slots = cond (nat_le c E.D) (put_slot A.slots c (refilled E.S (A.slots c))) A.slots; cursor = A.cursor; tally = A.tally }
next_array E m A (event c e) = record { slots = event_slots E A.slots c e; cursor = A.cursor; tally = A.tally }
next_array E m A (damage m') = A

-- the book after a step, told whether it was accepted; all else leaves it alone
abbrev pub feed : Setup → Book → Step → Bool → Book
feed E B (read L o on f b fs) a = B
feed E B (write L p o y fs) a = cond a (note_write B L p o) B
feed E B (look L n o out) a = B
feed E B scrub a = B
feed E B (rebuild c) a = cond a (note_slot B c (refilled E.S (B.slots c))) B
feed E B (event c e) a = cond a (note_slot B c (event_to e)) B
feed E B (damage m) a = B

-- the world of a run: the shelf, the array and the book
pub record World : Type 0 where
  pub shelf : Conduct
  pub array : ArrayState
  pub book : Book

abbrev pub next : Setup → World → Step → World
next E w k = record {
  shelf = next_shelf E w.shelf w.array k;
  array = next_array E w.shelf w.array k;
  book = feed E w.book k (accepted E w.shelf w.array k);
}

-- the stripe has such a block
abbrev pub InStripe : Setup → Role → Type 0
InStripe E Parity = Unit {0}
InStripe E (Data j) = j < E.D

-- what the book's slots let be seen of a block's place
abbrev pub cell_of : Setup → World → ℕ → Role → Cell
cell_of E w s r = seen_at (w.shelf [] (slot_of E.D s r) s) (w.book.slots (slot_of E.D s r)) s

-- a block is good if it is not blind and is exactly the block of the book's records
abbrev pub Good : Setup → World → ℕ → Role → Type 0
Good E w s r = cell_of E w s r ≡ Some (block_of E w.book.records s r)

-- lower versions than the record's: for data its own, for parity none higher and at least one lower
abbrev pub Lower : Setup → (ℕ → Rec) → ℕ → Role → List ℕ → Type 0
Lower E f s Parity b =
    ((k : ℕ) → k < E.D → version_of b k ≤ (rec_at E f s k).version)
    × ((k : ℕ) × (k < E.D) × (version_of b k < (rec_at E f s k).version))
Lower E f s (Data j) b = version_of b 0 < (rec_at E f s j).version

-- the four ways of being bad
pub data Bad (E : Setup) (w : World) (s : ℕ) (r : Role) : Type 0 where
  blind : alone E s r (cell_of E w s r) ≡ Err Blind → Bad E w s r
  broken : alone E s r (cell_of E w s r) ≡ Err Broken → Bad E w s r
  foreign : alone E s r (cell_of E w s r) ≡ Err Foreign → Bad E w s r
  behind : (b : List ℕ) → alone E s r (cell_of E w s r) ≡ Ok b → Lower E w.book.records s r b → Bad E w s r

-- at most one kind of trouble in a stripe: every block is good or bad in one of the four ways,
-- and no stripe has bad parity beside bad data
pub record Orderly (E : Setup) (w : World) : Type 0 where
  pub each : (s : ℕ) (r : Role) → s < E.S → InStripe E r → Good E w s r ⊎ Bad E w s r
  pub apart : (s j : ℕ) → s < E.S → j < E.D → Bad E w s Parity → Bad E w s (Data j) → ⊥

-- the stripe's only bad block
pub record OnlyBad (E : Setup) (w : World) (s : ℕ) (r : Role) : Type 0 where
  pub itself : Bad E w s r
  pub others : (q : Role) → InStripe E q → (q ≢ r) → Good E w s q

-- arguments as their types have them; a damaged shelf is a shelf
abbrev pub Proper : Setup → Step → Type 0
Proper E (read L o on f b fs) = Unit {0}
Proper E (write L p o y fs) = ((i : ℕ) → slice_index p i < 2 ^ 8) × (o < 2 ^ 32)
Proper E (look L n o out) = Unit {0}
Proper E scrub = Unit {0}
Proper E (rebuild c) = Unit {0}
Proper E (event c e) = Unit {0}
Proper E (damage m) = OwnCard (E.D + 1) E.S m

-- a run from a world, orderly as each step begins
pub data Run (E : Setup) (w₀ : World) : World → Type 0 where
  start : Run E w₀ w₀
  step : (w : World) (k : Step) → Run E w₀ w → Orderly E w → Proper E k → Run E w₀ (next E w k)

-- a world in which a run may start: any shelf, any book, and an array whose slots are the book's
pub record Starts (E : Setup) (w : World) : Type 0 where
  pub lawful : OwnCard (E.D + 1) E.S w.shelf
  pub same : (c : ℕ) → w.array.slots c ≡ w.book.slots c
  pub fits : (L : ℕ) → Fits (w.book.records L)

-- the world in which format or open hands an array over, above a shelf of this conduct: every slot in, cursor and tally 0
abbrev pub fresh : Conduct → Book → World
fresh m B = record { shelf = m; array = record { slots = λ c. In; cursor = 0; tally = 0 }; book = B }

-- format's records are all zero, whatever the cards made of its writes
abbrev pub formatted : Conduct → World
formatted m = fresh m blank_book
