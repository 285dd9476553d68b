-- A look: the reads of a stretch of addresses for one owner, with the switch off.
use Rattle.std.specs.Prelude.{ℕ, zero, suc, ◌+◌, ◌*◌, ◌/◌, ◌%◌, false, cond, ◌&&◌, List, [], ◌++◌, length, replicate, Some, None, Ok, Err, Option, Result, ◌==◌, nat_le, nat_lt}
use Rattle.block.specs.declared.refusal.Refusal.{Refusal}
use Rattle.block.specs.declared.refusal.Refusal.TheVariants.{Length, Address}
use Rattle.block.specs.Judging.{Setup}
use Rattle.shelf.specs.Model.{Content}
use Rattle.stripe.specs.View.{Slots}
use Rattle.runs.specs.declared.shapes.LookAnswer.{LookAnswer}
use Rattle.runs.specs.declared.shapes.ReadAnswer.{ReadAnswer}
use Rattle.runs.specs.Reads.{Reading, read_at, shown_from}

-- what a look does
pub record Looking : Type 0 where
  pub answer : Result LookAnswer Refusal
  pub out : List ℕ
  pub tally : ℕ

-- so far: the blocks read, what stopped the look, the bytes, the tally
pub record Seen : Type 0 where
  pub read : ℕ
  pub stopped : Option Refusal
  pub bytes : List ℕ
  pub tally : ℕ

abbrev pub one_more : List ℕ → Seen → Seen
one_more b x = record { read = suc x.read; stopped = x.stopped; bytes = b ++ x.bytes; tally = x.tally }

-- the read of address L in a look
abbrev pub look_read : Setup → Content → Slots → ℕ → ℕ → ℕ → Reading
look_read E k σ o t L = read_at E k σ t (L / E.D) (L % E.D) o false

abbrev pub look_step : Result ReadAnswer Refusal → List ℕ → List ℕ → ℕ → ℕ → Seen → Seen
look_step (Ok a) f b n t rest = one_more (shown_from a.source f b) rest
look_step (Err e) f b n t rest = record { read = 0; stopped = Some e; bytes = replicate (80 * suc n) 0; tally = t }

-- the next n addresses from L on
unfoldable pub look_from : Setup → Content → Slots → ℕ → ℕ → ℕ → ℕ → Seen
look_from E k σ o zero L t = record { read = 0; stopped = None; bytes = []; tally = t }
look_from E k σ o (suc n) L t =
    look_step (look_read E k σ o t L).answer (look_read E k σ o t L).found (look_read E k σ o t L).rebuilt n
    (look_read E k σ o t L).tally (look_from E k σ o n (L + 1) (look_read E k σ o t L).tally)

abbrev pub looked : Seen → Looking
looked x = record { answer = Ok (record { read = x.read; stopped = x.stopped }); out = x.bytes; tally = x.tally }

abbrev pub refused_look : Refusal → List ℕ → ℕ → Looking
refused_look e out t = record { answer = Err e; out = out; tally = t }

-- n addresses from first on, into 80 bytes each; a wrong length is refused first, then a stretch beyond the array
unfoldable pub look_call : Setup → Content → Slots → ℕ → ℕ → ℕ → ℕ → List ℕ → Looking
look_call E k σ t first n o out =
    cond (length out == 80 * n)
    (cond (nat_lt first (E.D * E.S) && nat_le (first + n) (E.D * E.S)) (looked (look_from E k σ o n first t)) (refused_look Address out t))
    (refused_look Length out t)
