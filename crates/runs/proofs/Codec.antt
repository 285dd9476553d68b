-- The laws of the 128 bytes hold of every array in range.
use Rattle.std.proofs.Common.{◌≡◌, ℕ, ◌^◌, ◌<◌, ◌≤◌, cond, eqb, ltb, List, get_or, ◌∙◌, arith}
use lib.Lanes.{Each1}
use Rattle.std.proofs.lemmas.List.FromFn.{get_or-map-range_with_len, length-map-range_with_len}
use Rattle.std.proofs.lemmas.Simd.{Each1-from_get_or}
use Rattle.std.proofs.lemmas.Bool.{cond-true, cond-false, cond_both, lt-ltb, le-ltb, ltb-true, ne_eqb}
use Rattle.block.specs.declared.shapes.Role.TheVariants.{Parity, Data}
use Rattle.block.specs.Judging.{Setup}
use Rattle.block.specs.Layout.{table}
use Rattle.runs.proofs.BlockLaws.{Plain, block_payload, block_byte, block_owner, block_version, block_readable, block_changed}
use Rattle.stripe.specs.Renew.{data_version}
use Rattle.runs.specs.Book.{Rec, Fits, data_of}
use Rattle.runs.specs.Law.{InRange}
use Rattle.runs.proofs.CodecLaws.{CodecLaws, parity_with}
use Rattle.runs.proofs.Places.{slot_in}

-- the numbers of a table are below m
each_table : (n m : ℕ) (f : ℕ → ℕ) → ((i : ℕ) → f i < m) → Each1 (λ v. v < m) (table n f)
each_table n m f h =
    Each1-from_get_or (λ v. v < m) (table n f) 0
    (λ i l. let k : i < n = omega (arith, length-map-range_with_len f 0 n) in omega (arith, get_or-map-range_with_len f 0 n i i 0 k (omega arith), h i))

-- place i of a table
get_d_table : (n : ℕ) (f : ℕ → ℕ) (i : ℕ) → i < n → get_or (table n f) i 0 ≡ f i
get_d_table n f i h = get_or-map-range_with_len f 0 n i i 0 h (omega arith)

-- version k of a parity block
abbrev mirrored : ℕ → (ℕ → ℕ) → ℕ → ℕ
mirrored d vs k = cond (ltb k d) (vs k) 0

-- versions have 32 bits
data_version_small : (v k : ℕ) → v < 2 ^ 32 → data_version v k < 2 ^ 32
data_version_small v k h = cond_both (eqb k 0) v 0 (λ n. n < 2 ^ 32) (λ e. h) (λ e. omega arith)

mirrored_small : (d : ℕ) (vs : ℕ → ℕ) (k : ℕ) → ((i : ℕ) → i < d → vs i < 2 ^ 32) → mirrored d vs k < 2 ^ 32
mirrored_small d vs k h = cond_both (ltb k d) (vs k) 0 (λ n. n < 2 ^ 32) (λ e. h k (ltb-true k d e)) (λ e. omega arith)

module _ (E : Setup) (G : InRange E) where
  -- data blocks
  module _ (s j : ℕ) (r : Rec) (a : s < E.S) (b : j < E.D) (f : Fits r) where
    abbrev versions : List ℕ
    versions = table 7 (data_version r.version)

    pub data_plain : Plain E s (Data j) r.payload r.owner versions
    data_plain = record {
      long = f.long;
      bytes = Each1-from_get_or (λ x. x < 256) r.payload 0 (λ i l. f.bytes i);
      owned = f.owned;
      seven = length-map-range_with_len (data_version r.version) 0 7;
      each = each_table 7 (2 ^ 32) (data_version r.version) (λ k. data_version_small r.version k f.versioned);
      block = omega (arith, G.many);
      slot = omega (arith, slot_in E s (Data j) b, G.slim);
      cards = omega (arith, G.slim);
      marked = G.marked;
      tagged = G.tagged;
      narrow = G.summed.narrow;
    }

    data_unused : (k : ℕ) → 1 ≤ k → k < 7 → get_or versions k 0 ≡ 0
    data_unused k l m = get_d_table 7 (data_version r.version) k m ∙ cond-false (eqb k 0) r.version 0 (ne_eqb k 0 (λ e. omega arith))

  -- parity blocks
  module _ (s : ℕ) (row : ℕ → ℕ) (o : ℕ) (vs : ℕ → ℕ) (a : s < E.S) (h : (i : ℕ) → row i < 2 ^ 8) (q : o < 2 ^ 32)
      (u : (k : ℕ) → k < E.D → vs k < 2 ^ 32) where
    pub parity_plain : Plain E s Parity (table 80 row) o (table 7 (mirrored E.D vs))
    parity_plain = record {
      long = length-map-range_with_len row 0 80;
      bytes = each_table 80 256 row h;
      owned = q;
      seven = length-map-range_with_len (mirrored E.D vs) 0 7;
      each = each_table 7 (2 ^ 32) (mirrored E.D vs) (λ k. mirrored_small E.D vs k u);
      block = omega (arith, G.many);
      slot = omega (arith, G.slim);
      cards = omega (arith, G.slim);
      marked = G.marked;
      tagged = G.tagged;
      narrow = G.summed.narrow;
    }

    parity_unused : (k : ℕ) → E.D ≤ k → k < 7 → get_or (table 7 (mirrored E.D vs)) k 0 ≡ 0
    parity_unused k l m = get_d_table 7 (mirrored E.D vs) k m ∙ cond-false (ltb k E.D) (vs k) 0 (le-ltb k E.D l)

    parity_mirrors : (k : ℕ) → k < E.D → get_or (table 7 (mirrored E.D vs)) k 0 ≡ vs k
    parity_mirrors k l = get_d_table 7 (mirrored E.D vs) k (omega (arith, G.slim)) ∙ cond-true (ltb k E.D) (vs k) 0 (lt-ltb k E.D l)

pub codec_laws : (E : Setup) → InRange E → CodecLaws E
unfolding data_of parity_with
codec_laws E G = record {
  data_fit = λ s j r a b f. block_readable E s (Data j) _ _ _ (data_plain E G s j r a b f) (data_unused E G s j r a b f);
  data_payload = λ s j r a b f. block_payload E s (Data j) _ _ _ f.long;
  data_row_lem = λ s j r i a b f l. block_byte E s (Data j) _ _ _ f.long i l;
  data_owner_lem = λ s j r a b f. block_owner E s (Data j) _ _ _ (data_plain E G s j r a b f);
  data_version_lem = λ s j r a b f. block_version E s (Data j) _ _ _ (data_plain E G s j r a b f) 0 (omega arith);
  parity_fit = λ s row o vs a h q u. block_readable E s Parity _ _ _ (parity_plain E G s row o vs a h q u) (parity_unused E G s row o vs a h q u);
  parity_row = λ s row o vs i l. block_byte E s Parity _ _ _ (length-map-range_with_len row 0 80) i l ∙ get_d_table 80 row i l;
  parity_owner = λ s row o vs a h q u. block_owner E s Parity _ _ _ (parity_plain E G s row o vs a h q u);
  parity_version = λ s row o vs a h q u k l.
      block_version E s Parity _ _ _ (parity_plain E G s row o vs a h q u) k (omega (arith, G.slim)) ∙ parity_mirrors E G s row o vs a h q u k l;
  data_broken = λ s j r i v a b f l m ne. block_changed E s (Data j) _ _ _ (data_plain E G s j r a b f) G.summed.tells i v l m ne;
  parity_broken = λ s row o vs a h q u i v l m ne.
      block_changed E s Parity _ _ _ (parity_plain E G s row o vs a h q u) G.summed.tells i v l m ne;
}
