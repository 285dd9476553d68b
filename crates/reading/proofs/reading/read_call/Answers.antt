use Rattle.std.proofs.Common.{refl, ap, ◌∙◌}
use Rattle.block.specs.declared.frame.Frame.{Frame}
use Rattle.block.specs.Judging.{setup}
use Rattle.stripe.specs.View.{slots_in}
use Rattle.reading.specs.Sights.{findings_from}
use Rattle.reading.proofs.Settles.{done_from, done_within}
use Rattle.reading.proofs.reading.read_call.Goals as goal

pub returns-clause-done : goal.returns-clause-done
returns-clause-done g c =
    let k = c.args.cards.now in
    let at = c.in_ok-at.at in
    let e = c.in_ok-at.ensures in
    let x = c.sight-sighted.ensures.is in
    let vs = c.view.ensures.shelf in
    let vf = c.view.ensures.frame in
    let vt = c.view.ensures.states in
    let E = setup k.frame g.C.Checksum.MARK g.C.Checksum.meaning in
    let h = g.W.ReadableShelf.holds k.shelf in
    let σ = slots_in k.states in
    done_within E h σ _ _ _ _ _ _ _ _ c.if-found-ne128.false c.if-rebuilt-ne128.false e.0
    (done_from E h σ at.stripe at.index k.frame.most _ _ _
    c.sight-sighted.result c.settle-settled.result _ _ _ _ _ _ _ _
    (cc) c.settle-settled.ensures c.read_patch-patch.ensures.is c.apply_patch-mended.ensures.slot
    c.apply_patch-mended.ensures.wrote
    (c.fill_findings.ensures ∙ ap (λ (f : Frame). findings_from f.width at.stripe at.index c.sight-sighted.result.stripe c.apply_patch-mended.result) e.1)
    c.copy_from_slice.ensures.after c.copy_from_slice-2.ensures.after refl)
