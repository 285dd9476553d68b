-- Where the blocks of a stripe lie, and where an address lies.
use Rattle.std.specs.Prelude.{ℕ, ◌+◌, ◌-◌, ◌*◌, ◌/◌, ◌%◌, ◌<◌, Bool, cond, ◌&&◌, Some, None, Ok, Err, Option, Result, ◌==◌, nat_le, nat_lt}
use Rattle.block.specs.declared.refusal.Refusal.{Refusal}
use Rattle.block.specs.declared.refusal.Refusal.TheVariants.{Address, Place as OffPlace}
use Rattle.block.specs.declared.shapes.Role.{Role}
use Rattle.block.specs.declared.shapes.Role.TheVariants.{Parity, Data}
use Rattle.block.specs.declared.shapes.Place.{Place}
use Rattle.block.specs.declared.shapes.Position.{Position}

-- N is 3 to 8, S is 1 to 65,536, and the tag is not 0
abbrev pub in_range : ℕ → ℕ → ℕ → Bool
in_range cards blocks tag = nat_le 3 cards && (nat_le cards 8 && (nat_le 1 blocks && (nat_le blocks 65536 && nat_le 1 tag)))

-- Below, d is the number of data blocks of a stripe, N - 1.

-- N - 1 - (s mod N)
abbrev pub parity_slot : ℕ → ℕ → ℕ
parity_slot d s = d - s % (d + 1)

-- data fill the slots beside parity, rising
abbrev pub slot_of : ℕ → ℕ → Role → ℕ
slot_of d s Parity = parity_slot d s
slot_of d s (Data j) = cond (nat_lt j (parity_slot d s)) j (j + 1)

abbrev pub role_at : ℕ → ℕ → ℕ → Role
role_at d s c = cond (c == parity_slot d s) Parity (Data (cond (nat_lt c (parity_slot d s)) c (c - 1)))

abbrev pub position_at : ℕ → ℕ → Position
position_at s j = record { stripe = s; index = j }

-- the stripe and the data index of an address, of n stripes
abbrev pub position_of : ℕ → ℕ → ℕ → Result Position Refusal
position_of d n L = cond (nat_lt L (d * n)) (Ok (record { stripe = L / d; index = L % d })) (Err Address)

-- a position lies in the array
abbrev pub Within : ℕ → ℕ → Result Position Refusal → Type 0
Within d n (Ok p) = (p.stripe < n) × (p.index < d)
Within d n (Err e) = Unit {0}

abbrev pub place_at : ℕ → Position → Place
place_at d p = record { slot = slot_of d p.stripe (Data p.index); block = p.stripe }

abbrev pub placed : ℕ → Result Position Refusal → Result Place Refusal
placed d (Ok p) = Ok (place_at d p)
placed d (Err e) = Err e

-- the place of an address
abbrev pub place_of : ℕ → ℕ → ℕ → Result Place Refusal
place_of d n L = placed d (position_of d n L)

abbrev pub address_by : ℕ → ℕ → Role → Option ℕ
address_by d s Parity = None
address_by d s (Data j) = Some (s * d + j)

-- the address of a place; a parity block has none
abbrev pub address_of : ℕ → ℕ → ℕ → ℕ → Result (Option ℕ) Refusal
address_of d n c s = cond (nat_le c d && nat_lt s n) (Ok (address_by d s (role_at d s c))) (Err OffPlace)
