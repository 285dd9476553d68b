use Rattle.block.specs.Judging.{setup}
use Rattle.stripe.specs.Survey.{mask_at}
use Rattle.stripe.proofs.Rows.{Filled}
use Rattle.stripe.proofs.surveys.write_masks.Given as goal

abbrev pub invariant-loop-s : goal.invariant-loop-s
invariant-loop-s g l =
    Filled l.fn.frame.blocks (mask_at (setup l.fn.frame g.C.Checksum.MARK g.C.Checksum.meaning) (g.R.ReadableShelf.holds l.fn.shelf)) l.s l.masks
