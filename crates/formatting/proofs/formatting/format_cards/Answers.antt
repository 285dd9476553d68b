use Rattle.std.proofs.Common.{◌+◌, sym, ap, ◌∙◌, subst₂, arith}
use Rattle.shelf.specs.Model.{OwnCard}
use Rattle.formatting.proofs.Formats.{law_on}
use Rattle.formatting.proofs.formatting.format_cards.Goals as goal

pub returns-clause-law : goal.returns-clause-law
returns-clause-law g c =
    let was = c.args.cards.now in
    let is = c.write_cards.new.cards in
    let frame = c.write_cards.ensures.frame in
    law_on (g.W.ReadableShelf.cards was.shelf) (g.W.ReadableShelf.blocks was.shelf) was.frame.tag g.C.Checksum.MARK g.C.Checksum.meaning _
    (omega (arith, was.cards)) (omega (arith, was.cards)) (omega (arith, was.blocks)) (omega (arith, was.blocks)) was.frame.narrow
    g.met.C.Checksum.byte g.met.C.Checksum.narrow g.met.C.Checksum.tells
    (subst₂ (λ a b. OwnCard a b (g.W.WritableShelf.conduct is.shelf))
    (is.cards ∙ ap (λ f. f.width + 1) frame ∙ sym was.cards)
    (is.blocks ∙ ap (λ f. f.blocks) frame ∙ sym was.blocks)
    (g.met.W.WritableShelf.own is.shelf))
