use Rattle.std.proofs.Common.{◌≡◌, ◌*◌, take, drop}
use Rattle.checksum.specs.Rows.{words}
use Rattle.checksum.proofs.sum.Checksum.sum.Given as goal

-- What is left of the row brings the state to the sum of the row.
abbrev pub invariant-loop-word : goal.invariant-loop-word
invariant-loop-word g l =
    let m = g.Self.Checksum in m.after l.state (words (drop (4 * l.word-index) (take 124 l.block))) ≡ m.meaning (take 124 l.block)
