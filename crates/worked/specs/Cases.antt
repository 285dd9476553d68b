-- Worked cases of the format and the rules.
use Rattle.std.specs.Prelude.{◌≡◌, ℕ, List, replicate, Ok, Err}
use Rattle.block.specs.declared.refusal.Refusal.TheVariants.{Address}
use Rattle.block.specs.declared.shapes.Defect.TheVariants.{Foreign}
use Rattle.block.specs.declared.shapes.Role.{Role}
use Rattle.block.specs.declared.shapes.Role.TheVariants.{Parity, Data}
use Rattle.block.specs.Judging.{Setup, judged}
use Rattle.block.specs.Layout.{version_of}
use Rattle.block.specs.Places.{place_of}
use Rattle.checksum.specs.Fletcher.{fletcher}
use Rattle.checksum.specs.Worked.{WorkedSums}
use Rattle.stripe.specs.Judge.{mask_number}
use Rattle.stripe.specs.Mend.{mended}
use Rattle.stripe.specs.View.{View}
use Rattle.runs.specs.declared.shapes.Obtained.TheVariants.{Lost, Found, Rebuilt}
use Rattle.runs.specs.Gather.{gathered}

-- an array on three cards
abbrev pub three_cards : ℕ → ℕ → ℕ → (List ℕ → ℕ) → Setup
three_cards S tag mark sum = record { D = 2; S = S; tag = tag; mark = mark; sum = sum }

-- three readable blocks: data x and y with versions a and b, and a parity block that mirrors versions 2 and 1
pub record Mirrored (V : View) (x y p : List ℕ) (a b : ℕ) : Type 0 where
  pub first : V (Data 0) ≡ Ok x
  pub second : V (Data 1) ≡ Ok y
  pub parity : V Parity ≡ Ok p
  pub of_first : version_of x 0 ≡ a
  pub of_second : version_of y 0 ≡ b
  pub mirrors_first : version_of p 0 ≡ 2
  pub mirrors_second : version_of p 1 ≡ 1

pub record WorkedCases : Type 0 where
  -- five cards with ten blocks each
  pub address_7 : place_of 4 10 7 ≡ Ok (record { slot = 4; block = 1 })
  pub address_39 : place_of 4 10 39 ≡ Ok (record { slot = 4; block = 9 })
  pub address_40 : place_of 4 10 40 ≡ Err Address
  -- checksums of rows that are 0 but for one byte
  pub sums : WorkedSums
  -- a block of zeros under Fletcher's sum is foreign, wherever it lies
  pub zero_block : (E : Setup) (s : ℕ) (r : Role) → E.sum ≡ fletcher → judged E s r (replicate 128 0) ≡ Err Foreign
  -- stripe 0 of three cards, with mirrored versions 2 and 1, by the versions of the data
  pub mask_2_1 : (V : View) (x y p : List ℕ) → Mirrored V x y p 2 1 → mask_number 2 0 V ≡ 0
  pub mask_1_1 : (V : View) (x y p : List ℕ) → Mirrored V x y p 1 1 → mask_number 2 0 V ≡ 1
  pub mask_3_1 : (V : View) (x y p : List ℕ) → Mirrored V x y p 3 1 → mask_number 2 0 V ≡ 4
  pub mask_1_0 : (V : View) (x y p : List ℕ) → Mirrored V x y p 1 0 → mask_number 2 0 V ≡ 3
  -- what reads of addresses 0 and 1 obtain, and how many places they look at
  pub first_1_1 : (S t m : ℕ) (h : List ℕ → ℕ) (V : View) (x y p : List ℕ) → Mirrored V x y p 1 1
      → (gathered (three_cards S t m h) 0 V 0).obtained ≡ Rebuilt (mended (three_cards S t m h) 0 V (Data 0))
  pub first_3_1 : (S t m : ℕ) (h : List ℕ → ℕ) (V : View) (x y p : List ℕ) → Mirrored V x y p 3 1
      → ((gathered (three_cards S t m h) 0 V 0).obtained ≡ Found x) × ((gathered (three_cards S t m h) 0 V 0).looks ≡ 3)
  pub second_3_1 : (S t m : ℕ) (h : List ℕ → ℕ) (V : View) (x y p : List ℕ) → Mirrored V x y p 3 1
      → ((gathered (three_cards S t m h) 0 V 1).obtained ≡ Found y) × ((gathered (three_cards S t m h) 0 V 1).looks ≡ 2)
  pub first_1_0 : (S t m : ℕ) (h : List ℕ → ℕ) (V : View) (x y p : List ℕ) → Mirrored V x y p 1 0
      → (gathered (three_cards S t m h) 0 V 0).obtained ≡ Lost
  pub second_1_0 : (S t m : ℕ) (h : List ℕ → ℕ) (V : View) (x y p : List ℕ) → Mirrored V x y p 1 0
      → (gathered (three_cards S t m h) 0 V 1).obtained ≡ Lost
