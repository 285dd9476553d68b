use Rattle.std.proofs.Common.{◌≡◌, ℕ, List, ◌∷◌, take, length, sym, ap, ◌∙◌, arith}
use Rattle.std.proofs.lemmas.List.{length-take-le}
use Rattle.checksum.specs.RowLaws.{front_row, next_of_row, none_of_row, word_of_chunk}
use Rattle.checksum.proofs.sum.Checksum.sum.Goals as goal

pub loop-word-init : goal.loop-word-init
loop-word-init g c =
    let block = c.args.block.now in c.start-state.ensures (take 124 block) (front_row block c.told-block c.fits-block)

-- One turn: the word v that was fed is the first word w of those that were left.
turn : (after : List ℕ → ℕ) (r v w sum : ℕ) (left rest : List ℕ) → r ≡ after (v ∷ rest) → v ≡ w → left ≡ w ∷ rest → after left ≡ sum → r ≡ sum
turn after r v w sum left rest fed is next inv = cc

pub loop-word-preserved : goal.loop-word-preserved
loop-word-preserved g c =
    let block = c.args.block.now in
    let k = c.loop-word.word-index in
    let long : length (take 124 block) ≡ 124 = length-take-le 124 block (omega arith) in
    turn (g.Self.Checksum.after c.loop-word.state) _ _ _ _ _ _ (c.feed-state.ensures _)
    (c.from_be_bytes.ensures ∙ word_of_chunk block _ _ k c.as_chunks.ensures.front (omega (arith, c.as_chunks.ensures.front_len)) (omega (arith, c.as_chunks.ensures.front_len)))
    (next_of_row block k c.told-block (omega (arith, c.as_chunks.ensures.front_len))) c.loop-word.invariant

pub returns : goal.returns
returns g c =
    let long : length (take 124 c.args.block.now) ≡ 124 = length-take-le 124 c.args.block.now (omega arith) in
    let none = none_of_row c.args.block.now c.loop-word.word-index c.told-block (omega (arith, c.as_chunks.ensures.front_len)) in
    c.finish.ensures ∙ ap (g.Self.Checksum.after c.loop-word.state) (sym none) ∙ c.loop-word.invariant
