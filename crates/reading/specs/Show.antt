-- What a show answers.
use Rattle.std.specs.Prelude.{ℕ, cond, ◌&&◌, List, length, Ok, Err, Result, ◌==◌}
use Rattle.block.specs.declared.refusal.Refusal.{Refusal}
use Rattle.block.specs.declared.refusal.Refusal.TheVariants.{Length}
use Rattle.runs.specs.declared.shapes.Source.{Source}
use Rattle.runs.specs.Reads.{shown_from}

-- the 80 payload bytes of the buffer named; a buffer that is not 128 bytes long is refused
abbrev pub show_answer : Source → List ℕ → List ℕ → Result (List ℕ) Refusal
show_answer x f b = cond (length f == 128 && length b == 128) (Ok (shown_from x f b)) (Err Length)
