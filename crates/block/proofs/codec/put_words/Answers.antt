use Rattle.std.proofs.Common.{◌≡◌, ◌+◌, ◌*◌, ◌^◌, ◌<◌, ◌++◌, length, get_or, take, sym, ap, ◌∙◌, arith}
use Rattle.std.proofs.lemmas.List.{append_assoc, take_all}
use Rattle.std.proofs.lemmas.Simd.{Each1-from_get_or}
use Rattle.block.specs.Layout.{bytes_of, bytes_of_all}
use Rattle.block.proofs.LayoutLaws.{all_more}
use Rattle.block.proofs.codec.put_words.Goals as goal

pub loop-i-preserved : goal.loop-i-preserved
loop-i-preserved c =
    let ns = c.args.ns.now in
    let i = c.loop-i.i in
    let at = c.args.at in
    let e : at + 4 * (i + 1) ≡ at + 4 * i + 4 = omega arith in
    let m = all_more ns i (omega arith) in
    ap (λ n. take n c.put_word.new.out) e ∙ c.put_word.ensures ∙ ap (λ t. t ++ bytes_of (get_or ns i 0)) c.loop-i.invariant
    ∙ append_assoc (take at c.args.out.now) (bytes_of_all (take i ns)) (bytes_of (get_or ns i 0)) ∙ ap (λ t. take at c.args.out.now ++ t) (sym m)

pub returns : goal.returns
returns c =
    let k : c.loop-i.i ≡ length c.args.ns.now = omega arith in
    record {
      fit = Each1-from_get_or (λ n. n < 2 ^ 32) c.args.ns.now 0 (λ k h. (c.type_inv.ns k).fits);
      front =
          ap (λ n. take (c.args.at + 4 * n) c.loop-i.out) (sym k) ∙ c.loop-i.invariant
          ∙ ap (λ t. take c.args.at c.args.out.now ++ bytes_of_all t) (take_all c.loop-i.i c.args.ns.now c.loop-i-test.false);
    }
