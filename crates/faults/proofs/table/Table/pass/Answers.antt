use Rattle.faults.specs.Searches.{plan_within}
use Rattle.faults.proofs.table.Table.pass.Goals as goal

pub use_up-requires : goal.use_up-requires
use_up-requires c = (plan_within c.args.place.slot c.args.place.block c.args.self.now.rows.items c.in-Some.planned (cc)).0
