use Rattle.std.proofs.Common.{ap, ◌∙◌}
use Rattle.block.specs.Layout.{decoded}
use Rattle.block.proofs.LayoutLaws.{there_and_back}
use Rattle.block.proofs.codec.encode.Goals as goal

pub returns : goal.returns
returns c = record {
  is = c.put_fields.ensures.is;
  back = ap decoded c.put_fields.ensures.is ∙ there_and_back c.args.fields.now c.args.sum c.put_fields.ensures.sound;
}
