use Rattle.std.proofs.Common.{rules, ◌∙◌}
use Rattle.faults.specs.Tables.{rows_of}
use Rattle.faults.specs.Faults.{passed, rows_after}
use Rattle.faults.specs.Conducts.{after_write}
use Rattle.faults.proofs.layer.FaultLayerWritableShelf.write.Goals as goal

pub returns-clause-below : goal.returns-clause-below
unfolding passed
returns-clause-below g c = search rules

pub returns-clause-rows : goal.returns-clause-rows
unfolding rows_after
returns-clause-rows g c = search rules

pub returns-clause-wrote : goal.returns-clause-wrote
returns-clause-wrote g c =
    let was = c.args.self.now in
    let met = g.met.W.WritableShelf in
    after_write _ _ (g.W.WritableShelf.conduct was.shelf) (rows_of was.table) c.args.slot c.args.block c.args.bytes.now _ _ _ _ _
    (search rules) (search rules) (met.starts was.shelf ∙ met.same was.shelf) (returns-clause-below g c) (returns-clause-rows g c)
