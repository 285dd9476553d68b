use Rattle.std.proofs.lemmas.Result.{err_from_is_err_and}
use Rattle.scrubbing.proofs.Refills.{rebuild_still, rebuild_refused_lem}
use Rattle.scrubbing.proofs.refilling.rebuild_call.Goals as goal

pub returns-in_err-allow-clause-answer : goal.returns-in_err-allow-clause-answer
returns-in_err-allow-clause-answer g c =
    let p = err_from_is_err_and c.from_residual.result c.from_residual.ensures.1 in
    rw (p.1, p.2) (rebuild_refused_lem _ _ _ _ _ _ c.in_err-allow.ensures.is)

pub returns-in_err-allow-clause-done : goal.returns-in_err-allow-clause-done
returns-in_err-allow-clause-done g c = rebuild_still _ _ _ _ _ _ c.in_err-allow.ensures.is
