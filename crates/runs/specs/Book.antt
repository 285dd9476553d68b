-- The plain book: what was last accepted at each address, and the state of each slot.
-- It is fed each call's arguments and whether the call was accepted, and copies nothing of the array.
use Rattle.std.specs.Prelude.{◌≡◌, ℕ, suc, ◌+◌, ◌*◌, ◌^◌, ◌<◌, cond, List, length, replicate, ◌==◌, nat_lt, slice_index}
use Rattle.block.specs.declared.shapes.Role.{Role}
use Rattle.block.specs.declared.shapes.Role.TheVariants.{Parity, Data}
use Rattle.block.specs.Judging.{Setup, block_with}
use Rattle.block.specs.Layout.{table}
use Rattle.stripe.specs.declared.shapes.SlotState.{SlotState}
use Rattle.stripe.specs.declared.shapes.SlotState.TheVariants.{In, Out, Filling}
use Rattle.stripe.specs.Mend.{xors}
use Rattle.stripe.specs.Renew.{data_version}
use Rattle.stripe.specs.View.{Slots}
use Rattle.runs.specs.declared.shapes.Event.{Event}
use Rattle.runs.specs.declared.shapes.Event.TheVariants.{Pull, Fit, Finish, GiveUp}
use Rattle.runs.specs.Slots.{put_slot}

-- what an address holds
pub record Rec : Type 0 where
  pub payload : List ℕ
  pub owner : ℕ
  pub version : ℕ

-- a record as its types have it
pub record Fits (r : Rec) : Type 0 where
  pub long : length r.payload ≡ 80
  pub bytes : (i : ℕ) → slice_index r.payload i < 2 ^ 8
  pub owned : r.owner < 2 ^ 32
  pub versioned : r.version < 2 ^ 32

pub record Book : Type 0 where
  pub records : ℕ → Rec
  pub slots : Slots

-- all records zero, all slots in
abbrev pub blank_book : Book
blank_book = record { records = λ L. record { payload = replicate 80 0; owner = 0; version = 0 }; slots = λ c. In }

abbrev pub put_rec : (ℕ → Rec) → ℕ → Rec → ℕ → Rec
put_rec f L r k = cond (k == L) r (f k)

-- an accepted write puts in its payload and owner, the version one higher
abbrev pub note_write : Book → ℕ → List ℕ → ℕ → Book
note_write B L p o = record {
  records = put_rec B.records L (record { payload = p; owner = o; version = suc (B.records L).version });
  slots = B.slots;
}

abbrev pub note_slot : Book → ℕ → SlotState → Book
note_slot B c x = record { records = B.records; slots = put_slot B.slots c x }

-- what an accepted event makes of a slot
abbrev pub event_to : Event → SlotState
event_to Pull = Out
event_to Fit = Filling 0
event_to Finish = In
event_to GiveUp = Out

-- a stripe that a rebuild takes raises n by 1, up to the last of S
abbrev pub refilled : ℕ → SlotState → SlotState
refilled S In = In
refilled S Out = Out
refilled S (Filling n) = cond (nat_lt n S) (Filling (suc n)) (Filling n)

-- the records of stripe s by data index
abbrev pub rec_at : Setup → (ℕ → Rec) → ℕ → ℕ → Rec
rec_at E f s j = f (s * E.D + j)

-- the data block of a record
unfoldable pub data_of : Setup → ℕ → ℕ → Rec → List ℕ
data_of E s j r = block_with E s (Data j) r.payload r.owner (table 7 (data_version r.version))

-- the parity block of a stripe's records
unfoldable pub parity_of : Setup → ℕ → (ℕ → Rec) → List ℕ
parity_of E s R =
    block_with E s Parity (table 80 (λ i. xors E.D (λ k. slice_index (R k).payload i))) (xors E.D (λ k. (R k).owner))
    (table 7 (λ k. cond (nat_lt k E.D) (R k).version 0))

-- the block of the book's records
abbrev pub block_of : Setup → (ℕ → Rec) → ℕ → Role → List ℕ
block_of E f s Parity = parity_of E s (rec_at E f s)
block_of E f s (Data j) = data_of E s j (rec_at E f s j)
