use Rattle.std.proofs.Common.{ap, ◌∙◌, arith}
use Rattle.block.specs.Judging.{setup}
use Rattle.stripe.specs.View.{view_of}
use Rattle.report.specs.Reports.{report_by}
use Rattle.stripe.proofs.OnShelf.{held_view}
use Rattle.report.proofs.stripes.report_of.Goals as goal

pub returns : goal.returns
returns g c =
    let f = c.args.cards.now.frame in
    let E = setup f g.C.Checksum.MARK g.C.Checksum.meaning in
    let h = held_view E _ _ _ _ (omega arith) c.look-seen.ensures in
    let all = ap (λ σ. view_of E (g.R.ReadableShelf.holds c.args.cards.now.shelf.now) σ c.args.stripe) c.requires.all_in in
    let e = ap (report_by f.width c.args.stripe) (h ∙ all) in
    cc
