use Rattle.std.proofs.Common.{◌≡◌, ◌+◌, ◌*◌, [], ◌∷◌, ◌++◌, length, take, sym, ap, ◌∙◌, arith, rules}
use Rattle.std.proofs.lemmas.List.{take_all}
use Rattle.block.specs.Layout.{bytes_of, bytes_of_all}
use Rattle.block.proofs.codec.put_fields.Goals as goal

pub returns : goal.returns
returns c =
    let f = c.args.fields.now in
    let p : 0 + length f.payload ≡ 80 = search rules in
    let q : 92 + 4 * length f.versions ≡ 120 = search rules in
    let a : take 80 c.put.new.out ≡ f.payload = ap (λ n. take n c.put.new.out) (sym p) ∙ c.put.ensures in
    let b : take 84 c.put-2.new.out ≡ take 80 c.put.new.out ++ (f.kind ∷ f.mark ∷ f.slot ∷ f.cards ∷ []) = c.put-2.ensures in
    let d : take 88 c.put_word.new.out ≡ take 84 c.put-2.new.out ++ bytes_of f.block = c.put_word.ensures in
    let e : take 92 c.put_word-2.new.out ≡ take 88 c.put_word.new.out ++ bytes_of f.owner = c.put_word-2.ensures in
    let h : take 120 c.put_words.new.out ≡ take 92 c.put_word-2.new.out ++ bytes_of_all f.versions = ap (λ n. take n c.put_words.new.out) (sym q) ∙ c.put_words.ensures.front in
    let i : take 124 c.put_word-3.new.out ≡ take 120 c.put_words.new.out ++ bytes_of f.tag = c.put_word-3.ensures in
    let j : take 128 c.put_word-4.new.out ≡ take 124 c.put_word-3.new.out ++ bytes_of c.args.sum = c.put_word-4.ensures in
    let k : take 128 c.put_word-4.new.out ≡ c.put_word-4.new.out = take_all 128 c.put_word-4.new.out (omega arith) in
    record {
      is = cc;
      sound = record {
        payload = search rules;
        versions = search rules;
        block = search rules;
        owner = search rules;
        tag = search rules;
        each = c.put_words.ensures.fit;
      };
    }
