use Rattle.std.proofs.Common.{rules, not, ◌∙◌}
use Rattle.arrayvec.proofs.ArrayVecLemmas.{filter-from_retain}
use Rattle.faults.specs.Rows.{is_mark}
use Rattle.faults.proofs.Searches.{unmarked_filter, unmarked_idle}
use Rattle.faults.proofs.table.Table.unmark.Goals as goal

pub returns-then-is_marked : goal.returns-then-is_marked
returns-then-is_marked c =
    let place = c.args.place in
    filter-from_retain _ (λ r. not (is_mark place.slot place.block r)) _ (λ x b f' y called. search rules) c.args.self.now.rows.items c.retain.new.self.items c.retain.ensures.filtered
    ∙ unmarked_filter place.slot place.block c.args.self.now.rows.items

pub returns-else-is_marked : goal.returns-else-is_marked
returns-else-is_marked c = unmarked_idle c.args.place.slot c.args.place.block c.args.self.now.rows.items c.if-is_marked.ensures
