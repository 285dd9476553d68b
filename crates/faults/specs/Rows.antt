-- The rows in use of the fault table, as a list in order of arrival.
use Rattle.std.specs.Prelude.{ℕ, ◌+◌, Bool, true, false, cond, ◌&&◌, List, [], ◌∷◌, ◌++◌, length, Some, None, Ok, Err, Option, Result, ◌==◌, nat_lt, slice_index_or, slice_set}
use Rattle.std.specs.List.{remove}
use Rattle.block.specs.declared.refusal.Refusal.{Refusal}
use Rattle.block.specs.declared.refusal.Refusal.TheVariants.{TableFull}
use Rattle.block.specs.declared.shapes.Place.{Place}
use Rattle.faults.specs.declared.rows.Plan.{Plan}
use Rattle.faults.specs.declared.rows.Plan.TheVariants.{Lose, Tear, Spoil, Stray}
use Rattle.faults.specs.declared.rows.Row.{Row}
use Rattle.faults.specs.declared.rows.Row.TheVariants.{Mark, Planned}
use Rattle.faults.specs.declared.table.Found.{Found}

abbrev pub place_of : ℕ → ℕ → Place
place_of i j = record { slot = i; block = j }

-- what stands in the table where no row is in use
abbrev pub no_row : Row
no_row = Mark (place_of 0 0)

-- of the place with slot i and block j
abbrev pub is_at : ℕ → ℕ → Place → Bool
is_at i j p = p.slot == i && p.block == j

-- a mark on the place
abbrev pub is_mark : ℕ → ℕ → Row → Bool
is_mark i j (Mark p) = is_at i j p
is_mark i j (Planned p t) = false

-- the plan of a row for the place
abbrev pub plan_at : ℕ → ℕ → Row → Option Plan
plan_at i j (Mark p) = None
plan_at i j (Planned p t) = cond (is_at i j p) (Some t) None

-- a plan turned into a mark on its place
abbrev pub turned_row : Row → Row
turned_row (Mark p) = Mark p
turned_row (Planned p t) = Mark p

-- the plan of the row of index n if it has one, else what the rest gives
abbrev pub found_at : ℕ → Option Plan → Option Found → Option Found
found_at n None rest = rest
found_at n (Some t) rest = Some (record { index = n; plan = t })

-- the first plan for the place, where the first row has index n
abbrev pub plan_from : ℕ → ℕ → ℕ → List Row → Option Found
plan_from n i j [] = None
plan_from n i j (r ∷ rs) = found_at n (plan_at i j r) (plan_from (n + 1) i j rs)

-- the earliest plan for the place
abbrev pub plan_for : ℕ → ℕ → List Row → Option Found
plan_for i j rows = plan_from 0 i j rows

-- the index of the first mark on the place, where the first row has index n
abbrev pub mark_from : ℕ → ℕ → ℕ → List Row → Option ℕ
mark_from n i j [] = None
mark_from n i j (r ∷ rs) = cond (is_mark i j r) (Some n) (mark_from (n + 1) i j rs)

-- the index of the first mark on the place
abbrev pub mark_on : ℕ → ℕ → List Row → Option ℕ
mark_on i j rows = mark_from 0 i j rows

-- there is a mark on the place
abbrev pub marked : ℕ → ℕ → List Row → Bool
marked i j [] = false
marked i j (r ∷ rs) = cond (is_mark i j r) true (marked i j rs)

-- the rows without any mark on the place
abbrev pub unmarked : ℕ → ℕ → List Row → List Row
unmarked i j [] = []
unmarked i j (r ∷ rs) = cond (is_mark i j r) (unmarked i j rs) (r ∷ unmarked i j rs)

-- one more row, if there is room
abbrev pub added : List Row → Row → List Row
added rows r = cond (nat_lt (length rows) 32) (rows ++ r ∷ []) rows

-- a 33rd row is refused
abbrev pub add_answer : {T : Type 0} → T → List Row → Result T Refusal
add_answer t rows = cond (nat_lt (length rows) 32) (Ok t) (Err TableFull)

-- the row of index k as a mark on its place
abbrev pub turned_at : List Row → ℕ → List Row
turned_at rows k = slice_set rows k (turned_row (slice_index_or rows k no_row))

-- the rows once the plan of index k for the place is used up: a spoil turns its row into a mark, or frees it
-- where there is one, and a stray frees the mark on the block that it goes to
abbrev pub planned_rows : List Row → ℕ → ℕ → ℕ → Plan → List Row
planned_rows rows i j k Lose = remove rows k
planned_rows rows i j k (Tear m) = remove rows k
planned_rows rows i j k Spoil = cond (marked i j rows) (remove rows k) (turned_at rows k)
planned_rows rows i j k (Stray t) = unmarked i t (remove rows k)

-- the rows after a write to the place, by its earliest plan; with none the write is passed and no mark stays
abbrev pub rows_by : List Row → ℕ → ℕ → Option Found → List Row
rows_by rows i j None = unmarked i j rows
rows_by rows i j (Some f) = planned_rows rows i j f.index f.plan
