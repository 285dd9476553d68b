use Rattle.std.proofs.Common.{arith}
use Rattle.std.proofs.lemmas.Grind.{common_steps}
use Rattle.faults.proofs.Searches.{plan_first}
use Rattle.faults.proofs.table.Table.plan_for.Goals as goal

pub returns : goal.returns
returns c =
    let place = c.args.place in
    let rows = c.args.self.now.rows.items in
    plan_first place.slot place.block rows c.find_map.result (grind (arith, common_steps))
