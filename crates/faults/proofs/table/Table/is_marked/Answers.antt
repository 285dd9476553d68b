use Rattle.std.proofs.Common.{rules, ◌∙◌}
use borrow.Author.Tests.{tests}
use Rattle.std.proofs.lemmas.Iterator.{YieldsList-from_slice}
use Rattle.std.proofs.lemmas.Iterator.Search.{any_from_yields_List}
use Rattle.faults.specs.Rows.{is_mark}
use Rattle.faults.proofs.Searches.{marked_any}
use Rattle.faults.proofs.table.Table.is_marked.Goals as goal

pub returns : goal.returns
returns c =
    let place = c.args.place in
    let rows = c.args.self.now.rows.items in
    any_from_yields_List (is_mark place.slot place.block) _ _ _ c.any.ensures.ran (YieldsList-from_slice rows cc) (λ x b q k. search (rules, tests))
    ∙ marked_any place.slot place.block rows
