-- What a proof over runs uses of the 128 bytes: a block made of fields is readable at its place, gives its fields back,
-- and is broken by any other value of one byte.
use Rattle.std.specs.Prelude.{Some, Ok}
use Rattle.std.proofs.Common.{◌≡◌, ℕ, ◌^◌, ◌<◌, true, cond, ltb, List, get_or, take, set}
use Rattle.block.specs.declared.shapes.Role.TheVariants.{Parity, Data}
use Rattle.block.specs.Judging.{Setup, alone, block_with, broken_by}
use Rattle.block.specs.Layout.{table, owner_of, version_of}
use Rattle.runs.specs.Book.{Rec, Fits, data_of}

-- the parity block of a row, an owner and the versions of the data blocks
unfoldable pub parity_with : Setup → ℕ → (ℕ → ℕ) → ℕ → (ℕ → ℕ) → List ℕ
parity_with E s row o vs = block_with E s Parity (table 80 row) o (table 7 (λ k. cond (ltb k E.D) (vs k) 0))

pub record CodecLaws (E : Setup) : Type 0 where
  pub data_fit : (s j : ℕ) (r : Rec) → s < E.S → j < E.D → Fits r
      → alone E s (Data j) (Some (data_of E s j r)) ≡ Ok (data_of E s j r)
  pub data_payload : (s j : ℕ) (r : Rec) → s < E.S → j < E.D → Fits r → take 80 (data_of E s j r) ≡ r.payload
  pub data_row_lem : (s j : ℕ) (r : Rec) (i : ℕ) → s < E.S → j < E.D → Fits r → i < 80
      → get_or (data_of E s j r) i 0 ≡ get_or r.payload i 0
  pub data_owner_lem : (s j : ℕ) (r : Rec) → s < E.S → j < E.D → Fits r → owner_of (data_of E s j r) ≡ r.owner
  pub data_version_lem : (s j : ℕ) (r : Rec) → s < E.S → j < E.D → Fits r → version_of (data_of E s j r) 0 ≡ r.version
  pub parity_fit : (s : ℕ) (row : ℕ → ℕ) (o : ℕ) (vs : ℕ → ℕ) → s < E.S → ((i : ℕ) → row i < 2 ^ 8) → o < 2 ^ 32
      → ((k : ℕ) → k < E.D → vs k < 2 ^ 32)
      → alone E s Parity (Some (parity_with E s row o vs)) ≡ Ok (parity_with E s row o vs)
  pub parity_row : (s : ℕ) (row : ℕ → ℕ) (o : ℕ) (vs : ℕ → ℕ) (i : ℕ) → i < 80 → get_or (parity_with E s row o vs) i 0 ≡ row i
  pub parity_owner : (s : ℕ) (row : ℕ → ℕ) (o : ℕ) (vs : ℕ → ℕ) → s < E.S → ((i : ℕ) → row i < 2 ^ 8) → o < 2 ^ 32
      → ((k : ℕ) → k < E.D → vs k < 2 ^ 32) → owner_of (parity_with E s row o vs) ≡ o
  pub parity_version : (s : ℕ) (row : ℕ → ℕ) (o : ℕ) (vs : ℕ → ℕ) → s < E.S → ((i : ℕ) → row i < 2 ^ 8) → o < 2 ^ 32
      → ((k : ℕ) → k < E.D → vs k < 2 ^ 32) → (k : ℕ) → k < E.D → version_of (parity_with E s row o vs) k ≡ vs k
  pub data_broken : (s j : ℕ) (r : Rec) (i v : ℕ) → s < E.S → j < E.D → Fits r → i < 128 → v < 2 ^ 8
      → (get_or (data_of E s j r) i 0 ≡ v → ⊥) → broken_by E.sum (set (data_of E s j r) i v) ≡ true
  pub parity_broken : (s : ℕ) (row : ℕ → ℕ) (o : ℕ) (vs : ℕ → ℕ) → s < E.S → ((i : ℕ) → row i < 2 ^ 8) → o < 2 ^ 32
      → ((k : ℕ) → k < E.D → vs k < 2 ^ 32) → (i v : ℕ) → i < 128 → v < 2 ^ 8
      → (get_or (parity_with E s row o vs) i 0 ≡ v → ⊥) → broken_by E.sum (set (parity_with E s row o vs) i v) ≡ true
