-- What a write makes of a stripe: the new data block and the new parity block.
use Rattle.std.specs.Prelude.{ℕ, Bool, cond, ◌||◌, List, ◌==◌, bit_xor, nat_lt, slice_index}
use Rattle.block.specs.declared.shapes.Role.TheVariants.{Parity, Data}
use Rattle.block.specs.Shapes.{Verdict}
use Rattle.block.specs.Judging.{Setup, block_with}
use Rattle.block.specs.Layout.{table}
use Rattle.stripe.specs.declared.shapes.Decision.{Decision}
use Rattle.stripe.specs.declared.shapes.Decision.TheVariants.{Clean, Only, Lost}
use Rattle.stripe.specs.declared.shapes.Plan.{Plan}
use Rattle.stripe.specs.declared.shapes.Plan.TheVariants.{Lost as NoPlan, BySum, ByAll}
use Rattle.stripe.specs.Judge.{bad_role, decision}
use Rattle.stripe.specs.Mend.{byte_in, owner_in, version_in, xors, at}
use Rattle.stripe.specs.View.{View}

-- the block of index j or parity is in the mask
abbrev pub touched : ℕ → View → ℕ → Bool
touched d V j = bad_role d V (Data j) || bad_role d V Parity

abbrev pub plan_for : Bool → Decision → Plan
plan_for t Clean = ByAll
plan_for t (Only r) = cond t ByAll BySum
plan_for t Lost = cond t NoPlan BySum

-- how new parity is made once all places were looked at
unfoldable pub plan_of : ℕ → ℕ → View → ℕ → Plan
plan_of d s V j = plan_for (touched d V j) (decision d s V)

-- the version that the new one is one above
abbrev pub base_version : ℕ → View → ℕ → ℕ
base_version d V j = cond (bad_role d V (Data j)) (version_in (V Parity) j) (version_in (V (Data j)) 0)

abbrev pub summed : Plan → ℕ → View → ℕ → (Verdict → ℕ) → ℕ → ℕ
summed NoPlan d V j g x = 0
summed BySum d V j g x = bit_xor (bit_xor (g (V Parity)) (g (V (Data j)))) x
summed ByAll d V j g x = xors d (at (λ k. g (V (Data k))) j x)

unfoldable pub summed_row : Plan → ℕ → View → ℕ → List ℕ → List ℕ
summed_row p d V j payload = table 80 (λ i. summed p d V j (λ v. byte_in v i) (slice_index payload i))

-- the versions of the other indices come from old parity, or from the data if parity is in the mask
abbrev pub other_version : Bool → View → ℕ → ℕ
other_version bad V k = cond bad (version_in (V (Data k)) 0) (version_in (V Parity) k)

abbrev pub new_version_at : Bool → ℕ → View → ℕ → ℕ → ℕ → ℕ
new_version_at bad d V j v k = cond (nat_lt k d) (cond (k == j) v (other_version bad V k)) 0

unfoldable pub new_versions : Bool → ℕ → View → ℕ → ℕ → List ℕ
new_versions bad d V j v = table 7 (new_version_at bad d V j v)

-- seven versions of a data block
abbrev pub data_version : ℕ → ℕ → ℕ
data_version v k = cond (k == 0) v 0

unfoldable pub new_data : Setup → ℕ → ℕ → List ℕ → ℕ → ℕ → List ℕ
new_data E s j payload owner v = block_with E s (Data j) payload owner (table 7 (data_version v))

-- new parity by a plan; bad tells whether parity is in the mask, so that the other versions come from the data
unfoldable pub new_parity : Setup → ℕ → View → ℕ → Plan → Bool → List ℕ → ℕ → ℕ → List ℕ
new_parity E s V j p bad payload owner v =
    block_with E s Parity (summed_row p E.D V j payload) (summed p E.D V j owner_in owner) (new_versions bad E.D V j v)
