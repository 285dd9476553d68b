-- What a read answers, and leaves.
use Rattle.std.specs.Prelude.{ℕ, ◌+◌, Bool, cond, ◌&&◌, List, [], length, take, replicate, Some, None, Ok, Err, Option, Result, ◌==◌, nat_lt}
use Rattle.block.specs.declared.refusal.Refusal.{Refusal}
use Rattle.block.specs.declared.refusal.Refusal.TheVariants.{Length, Lost as IsLost, OtherOwner}
use Rattle.block.specs.declared.shapes.Position.{Position}
use Rattle.block.specs.declared.shapes.Role.TheVariants.{Parity, Data}
use Rattle.block.specs.Judging.{Setup}
use Rattle.block.specs.Layout.{owner_of}
use Rattle.block.specs.Places.{position_of}
use Rattle.shelf.specs.Model.{Content, Write}
use Rattle.stripe.specs.declared.shapes.Finding.{Finding}
use Rattle.stripe.specs.Findings.{findings_all, findings_quick}
use Rattle.stripe.specs.View.{Slots, View, view_of}
use Rattle.runs.specs.declared.shapes.Gathered.{Gathered}
use Rattle.runs.specs.declared.shapes.Obtained.{Obtained}
use Rattle.runs.specs.declared.shapes.Obtained.TheVariants.{Lost, Found, Rebuilt}
use Rattle.runs.specs.declared.shapes.Patch.{Patch}
use Rattle.runs.specs.declared.shapes.ReadAnswer.{ReadAnswer}
use Rattle.runs.specs.declared.shapes.Source.{Source}
use Rattle.runs.specs.declared.shapes.Source.TheVariants.{Found as AsFound, Rebuilt as AsRebuilt}
use Rattle.runs.specs.Gather.{quick, patch_writes, patched_slot, gathered}

abbrev pub zeros : List ℕ
zeros = replicate 128 0

-- the owner is compared last
abbrev pub read_answer : Obtained → ℕ → ℕ → Result ReadAnswer Refusal
read_answer Lost n o = Err IsLost
read_answer (Found b) n o = cond (owner_of b == o) (Ok (record { source = AsFound; looks = n })) (Err OtherOwner)
read_answer (Rebuilt b) n o = cond (owner_of b == o) (Ok (record { source = AsRebuilt; looks = n })) (Err OtherOwner)

-- the two buffers: the one that is not given is zero
abbrev pub found_buffer : Result ReadAnswer Refusal → Obtained → List ℕ
found_buffer (Err e) x = zeros
found_buffer (Ok a) Lost = zeros
found_buffer (Ok a) (Found b) = b
found_buffer (Ok a) (Rebuilt b) = zeros

abbrev pub rebuilt_buffer : Result ReadAnswer Refusal → Obtained → List ℕ
rebuilt_buffer (Err e) x = zeros
rebuilt_buffer (Ok a) Lost = zeros
rebuilt_buffer (Ok a) (Found b) = zeros
rebuilt_buffer (Ok a) (Rebuilt b) = b

-- one more, up to the greatest number of 32 bits
abbrev pub raised : ℕ → ℕ
raised t = cond (nat_lt t 4294967295) (t + 1) t

-- reads given rebuilt are counted
abbrev pub tallied : Result ReadAnswer Refusal → Obtained → ℕ → ℕ
tallied (Err e) x t = t
tallied (Ok a) Lost t = t
tallied (Ok a) (Found b) t = t
tallied (Ok a) (Rebuilt b) t = raised t

-- an accepted read mends if the switch is on
abbrev pub read_patch : Bool → Result ReadAnswer Refusal → Option Patch → Option Patch
read_patch on (Err e) p = None
read_patch on (Ok a) p = cond on p None

abbrev pub findings_by : Bool → ℕ → ℕ → View → ℕ → Option ℕ → List Finding
findings_by q d s V j m = cond q (findings_quick d s j) (findings_all d s V m)

-- what a read does
pub record Reading : Type 0 where
  pub answer : Result ReadAnswer Refusal
  pub found : List ℕ
  pub rebuilt : List ℕ
  pub findings : List Finding
  pub writes : List Write
  pub tally : ℕ

abbrev pub settled_by : Setup → Slots → ℕ → ℕ → ℕ → Bool → View → Gathered → Result ReadAnswer Refusal → Reading
settled_by E σ t s j on V g a = record {
  answer = a;
  found = found_buffer a g.obtained;
  rebuilt = rebuilt_buffer a g.obtained;
  findings =
      findings_by (quick (V (Data j)) (V Parity) j) E.D s V j (patched_slot σ s (read_patch on a g.patch));
  writes = patch_writes σ s (read_patch on a g.patch);
  tally = tallied a g.obtained t;
}

abbrev pub settled : Setup → Slots → ℕ → ℕ → ℕ → ℕ → Bool → View → Gathered → Reading
settled E σ t s j o on V g = settled_by E σ t s j on V g (read_answer g.obtained g.looks o)

-- the read of data block j of stripe s
unfoldable pub read_at : Setup → Content → Slots → ℕ → ℕ → ℕ → ℕ → Bool → Reading
read_at E k σ t s j o on = settled E σ t s j o on (view_of E k σ s) (gathered E s (view_of E k σ s) j)

-- a refused read changes nothing
abbrev pub refused_read : Refusal → ℕ → List ℕ → List ℕ → List Finding → Reading
refused_read e t f b fs = record { answer = Err e; found = f; rebuilt = b; findings = fs; writes = []; tally = t }

abbrev pub read_from : Setup → Content → Slots → ℕ → ℕ → Bool → List ℕ → List ℕ → List Finding → Result Position Refusal → Reading
read_from E k σ t o on f b fs (Ok p) = read_at E k σ t p.stripe p.index o on
read_from E k σ t o on f b fs (Err e) = refused_read e t f b fs

-- the read of address L for owner o, with the switch on or off, into buffers and findings that held f, b and fs;
-- a wrong length is refused first, then an address beyond the array
unfoldable pub read_call : Setup → Content → Slots → ℕ → ℕ → ℕ → Bool → List ℕ → List ℕ → List Finding → Reading
read_call E k σ t L o on f b fs =
    cond (length f == 128 && length b == 128)
    (read_from E k σ t o on f b fs (position_of E.D E.S L)) (refused_read Length t f b fs)

-- the 80 payload bytes of the buffer that the answer names
abbrev pub shown_from : Source → List ℕ → List ℕ → List ℕ
shown_from AsFound f b = take 80 f
shown_from AsRebuilt f b = take 80 b

abbrev pub shown_by : Result ReadAnswer Refusal → List ℕ → List ℕ → Option (List ℕ)
shown_by (Ok a) f b = Some (shown_from a.source f b)
shown_by (Err e) f b = None

-- what a read shows, if it is accepted
abbrev pub shown : Reading → Option (List ℕ)
shown x = shown_by x.answer x.found x.rebuilt
