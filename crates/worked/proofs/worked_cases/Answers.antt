use Rattle.std.proofs.Common.{refl, ap, ◌∙◌}
use Rattle.checksum.proofs.WorkedLaws.{worked}
use Rattle.runs.specs.Gather.{as_rebuilt}
use Rattle.worked.proofs.Stripes.{zero_block, mask_is, first_is, second_is, patch_is}
use Rattle.worked.proofs.worked_cases.Goals as goal

pub returns : goal.returns
returns c = record {
  address_7 = refl;
  address_39 = refl;
  address_40 = refl;
  sums = worked;
  zero_block = zero_block;
  mask_2_1 = λ V x y p M. mask_is V x y p 2 1 M;
  mask_1_1 = λ V x y p M. mask_is V x y p 1 1 M;
  mask_3_1 = λ V x y p M. mask_is V x y p 3 1 M;
  mask_1_0 = λ V x y p M. mask_is V x y p 1 0 M;
  first_1_1 = λ S t m h V x y p M. ap (λ g. g.obtained) (first_is V x y p 1 1 M S t m h) ∙ ap as_rebuilt (patch_is V x y p 1 1 M S t m h);
  first_3_1 = λ S t m h V x y p M. (ap (λ g. g.obtained) (first_is V x y p 3 1 M S t m h), ap (λ g. g.looks) (first_is V x y p 3 1 M S t m h));
  second_3_1 = λ S t m h V x y p M. (ap (λ g. g.obtained) (second_is V x y p 3 1 M S t m h), ap (λ g. g.looks) (second_is V x y p 3 1 M S t m h));
  first_1_0 = λ S t m h V x y p M. ap (λ g. g.obtained) (first_is V x y p 1 0 M S t m h) ∙ ap as_rebuilt (patch_is V x y p 1 0 M S t m h);
  second_1_0 = λ S t m h V x y p M. ap (λ g. g.obtained) (second_is V x y p 1 0 M S t m h) ∙ ap as_rebuilt (patch_is V x y p 1 0 M S t m h);
}
