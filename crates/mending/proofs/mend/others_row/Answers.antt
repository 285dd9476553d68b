use Rattle.mending.proofs.Xors.{others_parity, others_data}
use Rattle.mending.proofs.mend.others_row.Goals as goal

pub returns-in-Parity : goal.returns-in-Parity
returns-in-Parity c = others_parity _ _ _ _ _ c.in-Parity.is c.data_row.ensures

pub returns-in-Data : goal.returns-in-Data
returns-in-Data c = others_data _ _ _ _ _ _ _ c.in-Data.is c.data_row-row.ensures c.xor_block.ensures
