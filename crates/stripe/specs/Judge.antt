-- Judging a stripe by the verdicts of its blocks.
use Rattle.std.specs.Prelude.{ℕ, zero, suc, ◌+◌, Bool, true, false, ◌||◌, List, nat_lt, Ok, Err}
use Rattle.block.specs.declared.shapes.Role.{Role}
use Rattle.block.specs.declared.shapes.Role.TheVariants.{Parity, Data}
use Rattle.block.specs.Shapes.{Verdict}
use Rattle.block.specs.Layout.{table, version_of}
use Rattle.block.specs.Places.{role_at}
use Rattle.stripe.specs.declared.shapes.Decision.{Decision}
use Rattle.stripe.specs.declared.shapes.Decision.TheVariants.{Clean, Only, Lost}
use Rattle.stripe.specs.Masks.{mask_of, count_true, first_true}
use Rattle.stripe.specs.View.{View}

-- the data block of index j is unfit, or behind: its version is below the mirrored one
abbrev pub lags_at : Verdict → Verdict → ℕ → Bool
lags_at (Err c) q j = true
lags_at (Ok b) (Err c) j = false
lags_at (Ok b) (Ok p) j = nat_lt (version_of b 0) (version_of p j)

-- the version of the data block of index j is above the one that p mirrors
abbrev pub leads_at : Verdict → List ℕ → ℕ → Bool
leads_at (Err c) p j = false
leads_at (Ok b) p j = nat_lt (version_of p j) (version_of b 0)

-- one of the first n data blocks leads
unfoldable pub any_lead : View → List ℕ → ℕ → Bool
any_lead V p zero = false
any_lead V p (suc n) = leads_at (V (Data n)) p n || any_lead V p n

-- parity is unfit, or behind: a data block leads it
abbrev pub parity_bad : Verdict → View → ℕ → Bool
parity_bad (Err c) V n = true
parity_bad (Ok p) V n = any_lead V p n

-- the block is blind, broken, foreign or behind
abbrev pub bad_role : ℕ → View → Role → Bool
bad_role d V Parity = parity_bad (V Parity) V d
bad_role d V (Data j) = lags_at (V (Data j)) (V Parity) j

abbrev pub bad_slot : ℕ → ℕ → View → ℕ → Bool
bad_slot d s V c = bad_role d V (role_at d s c)

-- the first n slots
unfoldable pub bad_slots : ℕ → ℕ → View → ℕ → List Bool
bad_slots d s V n = table n (bad_slot d s V)

unfoldable pub mask_number : ℕ → ℕ → View → ℕ
mask_number d s V = mask_of (bad_slots d s V (d + 1))

-- the number of ones in the mask
unfoldable pub ones_in : ℕ → ℕ → View → ℕ
ones_in d s V = count_true (bad_slots d s V (d + 1))

-- the block in the lowest slot of the mask
unfoldable pub only_role : ℕ → ℕ → View → Role
only_role d s V = role_at d s (first_true (bad_slots d s V (d + 1)))

abbrev pub decided : ℕ → Role → Decision
decided zero r = Clean
decided (suc zero) r = Only r
decided (suc (suc n)) r = Lost

-- the number of ones decides
unfoldable pub decision : ℕ → ℕ → View → Decision
decision d s V = decided (ones_in d s V) (only_role d s V)
