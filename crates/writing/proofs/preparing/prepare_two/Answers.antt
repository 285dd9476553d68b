use Rattle.std.proofs.Common.{ap, ◌∙◌}
use Rattle.block.specs.declared.frame.Frame.{Frame}
use Rattle.block.specs.Judging.{setup}
use Rattle.runs.specs.Gather.{quick}
use Rattle.writing.proofs.Ready.{ready_two}
use Rattle.writing.proofs.preparing.prepare_two.Goals as goal

pub returns-then-quick : goal.returns-then-quick
returns-then-quick g c =
    ready_two _ _ _ _ _ _ _ _ _ _ _
    (ap (λ (f : Frame). setup f g.C.Checksum.MARK g.C.Checksum.meaning) c.requires.same)
    c.look_two-stripe.ensures.own c.look_two-stripe.ensures.parity
    (c.if-quick.ensures ∙ ap (λ b. quick b c.look_two-stripe.result.parity c.args.at.index) c.data_at.ensures)
    c.prepare_quick.ensures c.findings_quick.ensures
