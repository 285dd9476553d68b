use Rattle.mending.proofs.Xors.{owners_parity, owners_data}
use Rattle.mending.proofs.mend.others_owner.Goals as goal

pub returns-in-Parity : goal.returns-in-Parity
returns-in-Parity c = owners_parity _ _ _ _ _ c.in-Parity.is c.data_owner.ensures

pub returns-in-Data : goal.returns-in-Data
returns-in-Data c = owners_data _ _ _ _ _ _ _ c.in-Data.is c.owner_in.ensures c.data_owner-in-Data.ensures
