-- What a write answers, and hands down.
use Rattle.std.specs.Prelude.{ℕ, suc, ◌+◌, Bool, false, cond, List, [], ◌∷◌, ◌++◌, length, None, Ok, Err, Result, ◌==◌, nat_lt}
use Rattle.block.specs.declared.refusal.Refusal.{Refusal}
use Rattle.block.specs.declared.refusal.Refusal.TheVariants.{Length, NoOwner, Lost as IsLost, VersionLimit}
use Rattle.block.specs.declared.shapes.Position.{Position}
use Rattle.block.specs.declared.shapes.Role.TheVariants.{Parity, Data}
use Rattle.block.specs.Judging.{Setup}
use Rattle.block.specs.Places.{slot_of, position_of}
use Rattle.shelf.specs.Model.{Content, Write, write_of}
use Rattle.stripe.specs.declared.shapes.Finding.{Finding}
use Rattle.stripe.specs.declared.shapes.Plan.{Plan}
use Rattle.stripe.specs.declared.shapes.Plan.TheVariants.{Lost, BySum, ByAll}
use Rattle.stripe.specs.Judge.{bad_role}
use Rattle.stripe.specs.Renew.{plan_of, base_version, new_data, new_parity}
use Rattle.stripe.specs.View.{Slots, View, takes_at, view_of}
use Rattle.runs.specs.declared.shapes.Way.{Way}
use Rattle.runs.specs.declared.shapes.Way.TheVariants.{Subtractive, Additive}
use Rattle.runs.specs.declared.shapes.WriteAnswer.{WriteAnswer}
use Rattle.runs.specs.Gather.{quick}
use Rattle.runs.specs.Reads.{findings_by}

-- a subtractive write needs no more than the block and its parity, if both are readable with lead 0
abbrev pub swift : Way → View → ℕ → Bool
swift Subtractive V j = quick (V (Data j)) (V Parity) j
swift Additive V j = false

unfoldable pub write_plan : Setup → ℕ → View → ℕ → Way → Plan
write_plan E s V j y = cond (swift y V j) BySum (plan_of E.D s V j)

-- parity is in the mask, as far as the write looks
abbrev pub parity_masked : Setup → View → ℕ → Way → Bool
parity_masked E V j y = cond (swift y V j) false (bad_role E.D V Parity)

abbrev pub write_looks : Setup → View → ℕ → Way → ℕ
write_looks E V j y = cond (swift y V j) 2 (E.D + 1)

abbrev pub version_checked : ℕ → ℕ → Result WriteAnswer Refusal
version_checked v n = cond (nat_lt v 4294967295) (Ok (record { looks = n })) (Err VersionLimit)

-- lost is refused first, then a version that cannot rise
abbrev pub plan_answer : Plan → ℕ → ℕ → Result WriteAnswer Refusal
plan_answer Lost v n = Err IsLost
plan_answer BySum v n = version_checked v n
plan_answer ByAll v n = version_checked v n

-- a write to a place, unless its slot's state hides it
abbrev pub sent : Slots → Write → List Write
sent σ w = cond (takes_at (σ w.slot) w.block) (w ∷ []) []

abbrev pub new_version : Setup → View → ℕ → ℕ
new_version E V j = suc (base_version E.D V j)

abbrev pub data_write : Setup → ℕ → View → ℕ → List ℕ → ℕ → Write
data_write E s V j p o = write_of (slot_of E.D s (Data j)) s (new_data E s j p o (new_version E V j))

abbrev pub parity_write : Setup → ℕ → View → ℕ → Way → List ℕ → ℕ → Write
parity_write E s V j y p o =
    write_of (slot_of E.D s Parity) s
    (new_parity E s V j (write_plan E s V j y) (parity_masked E V j y) p o (new_version E V j))

-- the data block is written first, then parity
abbrev pub pair_writes : Setup → Slots → ℕ → View → ℕ → Way → List ℕ → ℕ → List Write
pair_writes E σ s V j y p o = sent σ (data_write E s V j p o) ++ sent σ (parity_write E s V j y p o)

abbrev pub on_accept : Result WriteAnswer Refusal → List Write → List Write
on_accept (Ok a) ws = ws
on_accept (Err e) ws = []

-- what a write does
pub record Writing : Type 0 where
  pub answer : Result WriteAnswer Refusal
  pub findings : List Finding
  pub writes : List Write

abbrev pub written_by : Setup → Slots → ℕ → View → ℕ → List ℕ → ℕ → Way → Result WriteAnswer Refusal → Writing
written_by E σ s V j p o y a = record {
  answer = a;
  findings = findings_by (swift y V j) E.D s V j None;
  writes = on_accept a (pair_writes E σ s V j y p o);
}

abbrev pub written : Setup → Slots → ℕ → View → ℕ → List ℕ → ℕ → Way → Writing
written E σ s V j p o y =
    written_by E σ s V j p o y (plan_answer (write_plan E s V j y) (base_version E.D V j) (write_looks E V j y))

-- the write of data block j of stripe s
unfoldable pub write_at : Setup → Content → Slots → ℕ → ℕ → List ℕ → ℕ → Way → Writing
write_at E k σ s j p o y = written E σ s (view_of E k σ s) j p o y

abbrev pub refused_write : Refusal → List Finding → Writing
refused_write e fs = record { answer = Err e; findings = fs; writes = [] }

abbrev pub write_from : Setup → Content → Slots → List ℕ → ℕ → Way → List Finding → Result Position Refusal → Writing
write_from E k σ p o y fs (Ok a) = cond (o == 0) (refused_write NoOwner fs) (write_at E k σ a.stripe a.index p o y)
write_from E k σ p o y fs (Err e) = refused_write e fs

-- the write of payload p for owner o to address L; a wrong length is refused first, then an address beyond the array, then owner 0
unfoldable pub write_call : Setup → Content → Slots → ℕ → List ℕ → ℕ → Way → List Finding → Writing
write_call E k σ L p o y fs =
    cond (length p == 80) (write_from E k σ p o y fs (position_of E.D E.S L)) (refused_write Length fs)
