-- What a look holds on its way.
use Rattle.std.specs.Prelude.{ℕ, ◌+◌, ◌*◌, Bool, ◌&&◌, List, ◌++◌, nat_le, nat_lt}
use Rattle.runs.specs.declared.shapes.LookAnswer.{LookAnswer}
use Rattle.runs.specs.Looks.{Seen}
use Rattle.runs.specs.Reads.{Reading}
use Rattle.reading.specs.declared.shapes.Settled.{Settled}

-- what a read gives
abbrev pub settled_in : Reading → Settled
settled_in x = record { answer = x.answer; found = x.found; rebuilt = x.rebuilt; tally = x.tally }

-- an answer, with the buffer and the tally
abbrev pub seen_as : LookAnswer → List ℕ → ℕ → Seen
seen_as a out t = record { read = a.read; stopped = a.stopped; bytes = out; tally = t }

-- n more blocks of these bytes, before what was seen
abbrev pub preceded : List ℕ → ℕ → Seen → Seen
preceded b n x = record { read = n + x.read; stopped = x.stopped; bytes = b ++ x.bytes; tally = x.tally }

-- a stretch of n addresses from first on lies in an array of d data blocks to a stripe and s stripes
abbrev pub stretch_in : ℕ → ℕ → ℕ → ℕ → Bool
stretch_in d s first n = nat_lt first (d * s) && nat_le (first + n) (d * s)
