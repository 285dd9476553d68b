-- The fault layer over a shelf of n cards with s blocks each. Below, c is what the shelf under the layer
-- holds, k is its conduct, and rows are the rows in use of the layer's table.
use Rattle.std.specs.Prelude.{ℕ, Bool, true, false, cond, not, ◌&&◌, List, [], ◌∷◌, ◌++◌, length, take, drop, Some, None, Ok, Err, Option, Result, ◌==◌, bit_xor, nat_le, nat_lt, slice_index, slice_set}
use Rattle.block.specs.declared.refusal.Refusal.{Refusal}
use Rattle.block.specs.declared.refusal.Refusal.TheVariants.{Place as OffPlace}
use Rattle.block.specs.Shapes.{Cell}
use Rattle.shelf.specs.Model.{Content, Conduct, Write, Sized, AllSized, write_of, after_all, inside, writes_taken}
use Rattle.faults.specs.declared.rows.Plan.{Plan}
use Rattle.faults.specs.declared.rows.Plan.TheVariants.{Lose, Tear, Spoil, Stray}
use Rattle.faults.specs.declared.rows.Row.{Row}
use Rattle.faults.specs.declared.rows.Row.TheVariants.{Mark, Planned}
use Rattle.faults.specs.declared.table.Found.{Found}
use Rattle.faults.specs.Rows.{place_of, plan_for, marked, added, add_answer, rows_by}

-- marked places show nothing
abbrev pub screened : List Row → Content → Content
screened rows c i j = cond (marked i j rows) None (c i j)

-- what is not blind is as long as before
pub screened_sized : (n s : ℕ) (rows : List Row) (c : Content) → AllSized n s c → AllSized n s (screened rows c)
screened_sized n s rows c h i j li lj = go (marked i j rows)
  where
    go : (b : Bool) → Sized (cond b None (c i j))
    go true = tt
    go false = h i j li lj

-- the first m bytes of the new block, then the old rest
abbrev pub torn : ℕ → List ℕ → List ℕ → List ℕ
torn m bs old = take m bs ++ drop m old

-- what a torn write hands down, by what the place shows; nothing to a blind place
abbrev pub torn_writes : ℕ → ℕ → ℕ → List ℕ → Cell → List Write
torn_writes i j m bs None = []
torn_writes i j m bs (Some old) = write_of i j (torn m bs old) ∷ []

-- what a write hands down under a plan; a stray goes to block t if the shelf has it
abbrev pub planned_writes : ℕ → ℕ → Content → List Row → Write → Plan → List Write
planned_writes n s c rows w Lose = []
planned_writes n s c rows w (Tear m) =
    torn_writes w.slot w.block m w.bytes (screened rows c w.slot w.block)
planned_writes n s c rows w Spoil = []
planned_writes n s c rows w (Stray t) = writes_taken n s w.slot t w.bytes

-- what a write hands down, by the earliest plan for its place
abbrev pub writes_by : ℕ → ℕ → Content → List Row → Write → Option Found → List Write
writes_by n s c rows w None = w ∷ []
writes_by n s c rows w (Some f) = planned_writes n s c rows w f.plan

-- the write is of a whole block to a place that the shelf has
abbrev pub accepted : ℕ → ℕ → Write → Bool
accepted n s w = length w.bytes == 128 && inside n s w.slot w.block

-- what a write hands down; a refused one nothing
unfoldable pub passed : ℕ → ℕ → Content → List Row → Write → List Write
passed n s c rows w = cond (accepted n s w) (writes_by n s c rows w (plan_for w.slot w.block rows)) []

-- the rows after a write; a refused one changes none
unfoldable pub rows_after : ℕ → ℕ → List Row → Write → List Row
rows_after n s rows w = cond (accepted n s w) (rows_by rows w.slot w.block (plan_for w.slot w.block rows)) rows

-- the conduct of the layer: each write meets the shelf below and the table as the writes before it left them
abbrev pub fault_conduct : ℕ → ℕ → Conduct → List Row → Conduct
fault_conduct n s k rows [] = screened rows (k [])
fault_conduct n s k rows (w ∷ ws) =
    fault_conduct n s (after_all k (passed n s (k []) rows w)) (rows_after n s rows w) ws

-- the plan may be laid for block j: a tear leaves some of either block, a stray goes to another block
abbrev pub plan_fits : ℕ → ℕ → Plan → Bool
plan_fits s j Lose = true
plan_fits s j (Tear m) = nat_le 1 m && nat_le m 127
plan_fits s j Spoil = true
plan_fits s j (Stray t) = nat_lt t s && not (t == j)

-- of a place that the shelf has
abbrev pub lay_fits : ℕ → ℕ → ℕ → ℕ → Plan → Bool
lay_fits n s i j p = inside n s i j && plan_fits s j p

-- what is out of range is refused first, then a full table
abbrev pub lay_answer : {T : Type 0} → T → ℕ → ℕ → List Row → ℕ → ℕ → Plan → Result T Refusal
lay_answer t n s rows i j p = cond (lay_fits n s i j p) (add_answer t rows) (Err OffPlace)

-- the rows after a plan is laid
abbrev pub lay_rows : ℕ → ℕ → List Row → ℕ → ℕ → Plan → List Row
lay_rows n s rows i j p = cond (lay_fits n s i j p) (added rows (Planned (place_of i j) p)) rows

-- a second mark on a place takes no row, and so is not refused
abbrev pub blind_answer : {T : Type 0} → T → ℕ → ℕ → List Row → ℕ → ℕ → Result T Refusal
blind_answer t n s rows i j = cond (inside n s i j) (cond (marked i j rows) (Ok t) (add_answer t rows)) (Err OffPlace)

-- the rows after a mark is set
abbrev pub blind_rows : ℕ → ℕ → List Row → ℕ → ℕ → List Row
blind_rows n s rows i j = cond (inside n s i j) (cond (marked i j rows) rows (added rows (Mark (place_of i j)))) rows

-- byte x of a place may be flipped by a mask m
abbrev pub flip_fits : ℕ → ℕ → ℕ → ℕ → ℕ → ℕ → Bool
flip_fits n s i j x m = inside n s i j && (nat_le x 127 && (nat_le 1 m && nat_le m 255))

-- what is out of range is refused
abbrev pub flip_answer : {T : Type 0} → T → ℕ → ℕ → ℕ → ℕ → ℕ → ℕ → Result T Refusal
flip_answer t n s i j x m = cond (flip_fits n s i j x m) (Ok t) (Err OffPlace)

-- a block with byte x flipped by the mask m
abbrev pub flipped : ℕ → ℕ → List ℕ → List ℕ
flipped x m b = slice_set b x (bit_xor (slice_index b x) m)

-- what a flip hands down, by what the place shows; nothing to a blind place
abbrev pub flipped_writes : ℕ → ℕ → ℕ → ℕ → Cell → List Write
flipped_writes i j x m None = []
flipped_writes i j x m (Some b) = write_of i j (flipped x m b) ∷ []

-- what a flip hands down; a refused one nothing
abbrev pub flip_writes : ℕ → ℕ → Content → List Row → ℕ → ℕ → ℕ → ℕ → List Write
flip_writes n s c rows i j x m = cond (flip_fits n s i j x m) (flipped_writes i j x m (screened rows c i j)) []
