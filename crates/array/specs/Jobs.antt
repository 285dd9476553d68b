-- Rebuild jobs.
use Rattle.std.specs.Prelude.{ℕ, Ok, Err, Result}
use Rattle.block.specs.declared.refusal.HandedBack.{HandedBack}
use Rattle.block.specs.declared.refusal.Refusal.{Refusal}
use Rattle.stripe.specs.declared.shapes.SlotState.{SlotState}
use Rattle.array.specs.declared.events.RebuildJob.{RebuildJob}

-- the job of a slot
abbrev pub job_of : ℕ → RebuildJob
job_of c = record { slot = c }

-- what finish answers by the slot's next state; a refused job is handed back
abbrev pub finish_answer : {T : Type 0} → T → RebuildJob → Result SlotState Refusal → Result T (HandedBack RebuildJob)
finish_answer t j (Ok x) = Ok t
finish_answer t j (Err e) = Err (record { refusal = e; value = j })
