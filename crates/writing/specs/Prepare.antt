-- The two blocks of a write, before they are handed down.
use Rattle.std.specs.Prelude.{◌≡◌, ℕ, ◌+◌, Bool, false, cond, List, [], ◌++◌, None, Ok, Err, Result, nat_lt}
use Rattle.block.specs.declared.refusal.Refusal.{Refusal}
use Rattle.block.specs.declared.refusal.Refusal.TheVariants.{Lost as IsLost, VersionLimit}
use Rattle.block.specs.declared.shapes.Role.TheVariants.{Parity, Data}
use Rattle.block.specs.Judging.{Setup}
use Rattle.block.specs.Places.{slot_of}
use Rattle.shelf.specs.Model.{Content, Write, write_of}
use Rattle.stripe.specs.declared.shapes.Finding.{Finding}
use Rattle.stripe.specs.declared.shapes.Plan.{Plan}
use Rattle.stripe.specs.declared.shapes.Plan.TheVariants.{Lost, BySum, ByAll}
use Rattle.stripe.specs.Judge.{bad_role}
use Rattle.stripe.specs.Renew.{plan_of, base_version, new_data, new_parity}
use Rattle.stripe.specs.View.{Slots, View, view_of}
use Rattle.runs.specs.declared.shapes.Way.{Way}
use Rattle.runs.specs.declared.shapes.WriteAnswer.{WriteAnswer}
use Rattle.runs.specs.Reads.{findings_by}
use Rattle.runs.specs.Writes.{swift, sent}
use Rattle.writing.specs.declared.shapes.Pair.{Pair}
use Rattle.writing.specs.declared.shapes.Prepared.{Prepared}

-- both blocks of version b + 1; the greatest version is not raised
abbrev pub pair_at : ℕ → Setup → ℕ → View → ℕ → Plan → Bool → List ℕ → ℕ → Result Pair Refusal
pair_at b E s V j plan bad p o =
    cond (nat_lt b 4294967295)
    (Ok (record { block = new_data E s j p o (b + 1); parity = new_parity E s V j plan bad p o (b + 1) }))
    (Err VersionLimit)

abbrev pub pair_by : Plan → Bool → Setup → ℕ → View → ℕ → List ℕ → ℕ → Result Pair Refusal
pair_by Lost bad E s V j p o = Err IsLost
pair_by BySum bad E s V j p o = pair_at (base_version E.D V j) E s V j BySum bad p o
pair_by ByAll bad E s V j p o = pair_at (base_version E.D V j) E s V j ByAll bad p o

-- the blocks of a write of data block j of stripe s, by a plan; bad tells whether parity is in the mask
unfoldable pub pair_of : Plan → Bool → Setup → ℕ → View → ℕ → List ℕ → ℕ → Result Pair Refusal
pair_of plan bad E s V j p o = pair_by plan bad E s V j p o

abbrev pub plan_by : Bool → Setup → ℕ → View → ℕ → Plan
plan_by q E s V j = cond q BySum (plan_of E.D s V j)

abbrev pub masked_by : Bool → Setup → View → Bool
masked_by q E V = cond q false (bad_role E.D V Parity)

-- where q is true only the block and its parity are looked at, else all places
abbrev pub prepared_by : Bool → Setup → ℕ → View → ℕ → List ℕ → ℕ → Prepared
prepared_by q E s V j p o = record {
  looks = cond q 2 (E.D + 1);
  pair = pair_of (plan_by q E s V j) (masked_by q E V) E s V j p o;
}

-- from a shelf that holds k, a write of data block j of stripe s that goes way y made x ready and found fs
pub record ReadyBy (y : Way) (E : Setup) (k : Content) (σ : Slots) (s j : ℕ) (p : List ℕ) (o : ℕ) (x : Prepared) (fs : List Finding) : Type 0 where
  pub prepared : x ≡ prepared_by (swift y (view_of E k σ s) j) E s (view_of E k σ s) j p o
  pub findings : fs ≡ findings_by (swift y (view_of E k σ s) j) E.D s (view_of E k σ s) j None

abbrev pub answered_by : ℕ → Result Pair Refusal → Result WriteAnswer Refusal
answered_by n (Ok x) = Ok (record { looks = n })
answered_by n (Err e) = Err e

-- the data block is handed down first, then parity
abbrev pub pair_sent : ℕ → Slots → ℕ → ℕ → Pair → List Write
pair_sent d σ s j x = sent σ (write_of (slot_of d s (Data j)) s x.block) ++ sent σ (write_of (slot_of d s Parity) s x.parity)

-- without blocks nothing is handed down
abbrev pub sent_by : ℕ → Slots → ℕ → ℕ → Result Pair Refusal → List Write
sent_by d σ s j (Ok x) = pair_sent d σ s j x
sent_by d σ s j (Err e) = []
