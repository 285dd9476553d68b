use Rattle.writing.proofs.Sends.{write_done}
use Rattle.writing.proofs.writes.write_at.Goals as goal

pub returns-clause-did : goal.returns-clause-did
returns-clause-did g c =
    write_done _ _ _ _ _ _ _ _ _ _ _ _ _
    (rw (c.view.ensures.frame, c.view.ensures.shelf, c.view.ensures.states) at c.prepare-ready.ensures)
    c.settle.ensures.answer (rw c.requires.same at c.settle.ensures.wrote)
