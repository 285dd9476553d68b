-- What is seen of a place, and what a block is judged to be.
use Rattle.std.specs.Prelude.{ℕ, List, Option, Result}
use Rattle.block.specs.declared.shapes.Defect.{Defect}

-- the bytes of a place; none where it is blind
abbrev pub Cell : Type 0
Cell = Option (List ℕ)

-- the bytes of a readable block, or why it is unfit
abbrev pub Verdict : Type 0
Verdict = Result (List ℕ) Defect
