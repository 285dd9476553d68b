use Rattle.std.proofs.Common.{◌≡◌, ◌++◌, take, sym, ap, ◌∙◌, arith}
use Rattle.std.proofs.lemmas.List.{take_all, take_at}
use Rattle.block.specs.Layout.{body, bytes_of, sealed_by}
use Rattle.block.proofs.LayoutLaws.{length_body}
use Rattle.block.proofs.codec.seal.Goals as goal

pub returns : goal.returns
unfolding sealed_by
returns g c =
    let f = c.args.fields.now in
    let m = g.C.Checksum in
    let front : take 124 c.put_fields.new.out ≡ body f = ap (take 124) c.put_fields.ensures.is ∙ take_at (body f) (bytes_of 0) 124 (length_body f c.put_fields.ensures.sound) in
    let sum : c.sum-sum.result ≡ m.meaning (body f) = c.sum-sum.ensures ∙ ap m.meaning front in
    let all : take 128 c.put_word.new.out ≡ c.put_word.new.out = take_all 128 c.put_word.new.out (omega arith) in
    sym all ∙ c.put_word.ensures ∙ ap (λ t. t ++ bytes_of c.sum-sum.result) front ∙ ap (λ n. body f ++ bytes_of n) sum
