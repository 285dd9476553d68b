use Rattle.mending.proofs.Xors.{summed_lost, summed_sum, summed_all}
use Rattle.mending.proofs.renew.summed_row.Goals as goal

pub returns-in-Lost : goal.returns-in-Lost
returns-in-Lost c = summed_lost _ _ _ _ _ _ c.in-Lost.is

pub returns-in-BySum : goal.returns-in-BySum
returns-in-BySum c = summed_sum _ _ _ _ _ _ _ _ _ c.in-BySum.is c.data_at.ensures c.xor_block.ensures c.xor_block-in-BySum.ensures

pub returns-in-ByAll : goal.returns-in-ByAll
returns-in-ByAll c = summed_all _ _ _ _ _ _ _ c.in-ByAll.is c.data_row.ensures
