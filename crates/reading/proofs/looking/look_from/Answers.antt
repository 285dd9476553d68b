use Rattle.std.proofs.Common.{◌≡◌, ◌+◌, ◌-◌, ◌*◌, [], ◌++◌, length, take, drop, replicate, ap, ap₂, ◌∙◌, append-nil, length-drop, arith, rules}
use Rattle.std.proofs.lemmas.List.{drop_all}
use Rattle.std.proofs.lemmas.Slice.{take-put_mid}
use Rattle.reading.proofs.Stretching.{so_far_more, so_far_stop}
use Rattle.reading.proofs.looking.look_from.Goals as goal

pub loop-i-preserved : goal.loop-i-preserved
loop-i-preserved g c =
    let i = c.loop-i.i in
    let xs = c.loop-i.out in
    let ys = c.copy_from_slice.new.self in
    let e = c.copy_from_slice.ensures.after in
    let m = c.payload_of-payload.ensures.long in
    let long : length ys ≡ 80 = cc in
    so_far_more _ _ _ _ c.args.count c.args.first _ i xs _ _ c.look_read-settled.result c.in-Ok.a
    (omega arith) c.loop-i.invariant c.look_read-settled.ensures c.in-Ok.is
    (take-put_mid (80 * i) _ xs ys (80 * i + 80) (omega arith) (omega arith)
    ∙ ap (λ z. take (80 * i) xs ++ z) (e ∙ c.payload_of-payload.ensures.is))

pub returns-in-Err : goal.returns-in-Err
returns-in-Err g c =
    let xs = c.loop-i.out in
    let a = 80 * c.loop-i.i in
    let n = length xs - a in
    let h : length xs ≡ 80 * c.args.count = omega arith in
    let zeros : c.fill.new.self ≡ replicate n 0 = search rules in
    let none : drop n (drop a xs) ≡ [] = drop_all n (drop a xs) (omega (arith, length-drop a xs)) in
    so_far_stop _ _ _ _ c.args.count c.args.first _ c.loop-i.i xs _ _ c.look_read-settled.result _
    (omega arith) h c.loop-i.invariant c.look_read-settled.ensures c.in-Err.is
    (ap₂ (λ ys zs. take a xs ++ (ys ++ zs)) zeros none ∙ ap (λ z. take a xs ++ z) (append-nil (replicate n 0)))
