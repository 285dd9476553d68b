-- The XOR of payloads and owners.
use Rattle.std.specs.Prelude.{ℕ, List, bit_xor, slice_index, slice_index_or, Err}
use Rattle.block.specs.declared.shapes.Defect.TheVariants.{Blind}
use Rattle.block.specs.Shapes.{Verdict}
use Rattle.block.specs.Layout.{table}
use Rattle.stripe.specs.Mend.{byte_in, owner_in, xors, at}

-- a payload, with f i XORed into byte i
unfoldable pub xor_row : List ℕ → (ℕ → ℕ) → List ℕ
xor_row row f = table 80 (λ i. bit_xor (slice_index row i) (f i))

-- the XOR of the payloads of d data blocks, with another one in place of index j
unfoldable pub data_row : List Verdict → ℕ → ℕ → List ℕ → List ℕ
data_row vs d j payload = table 80 (λ i. xors d (at (λ k. byte_in (slice_index_or vs k (Err Blind)) i) j (slice_index payload i)))

-- the XOR of their owners, with another one in place of index j
abbrev pub data_owner : List Verdict → ℕ → ℕ → ℕ → ℕ
data_owner vs d j x = xors d (at (λ k. owner_in (slice_index_or vs k (Err Blind))) j x)
