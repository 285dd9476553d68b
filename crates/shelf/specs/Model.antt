-- What a shelf holds, and how it answers reads and writes.
use Rattle.std.specs.Prelude.{◌≡◌, ℕ, ◌<◌, Bool, cond, ◌&&◌, List, [], ◌∷◌, ◌++◌, length, replicate, Ok, Err, Result, ◌==◌, ◌≢◌, nat_lt, Some, None}
use Rattle.block.specs.declared.refusal.Refusal.{Refusal}
use Rattle.block.specs.declared.refusal.Refusal.TheVariants.{Length, Place}
use Rattle.block.specs.Shapes.{Cell}
use Rattle.shelf.specs.declared.Sight.{Sight}
use Rattle.shelf.specs.declared.Sight.TheVariants.{Present, Blind}

-- what each place holds, by slot and block number
abbrev pub Content : Type 0
Content = ℕ → ℕ → Cell

pub record Write : Type 0 where
  pub slot : ℕ
  pub block : ℕ
  pub bytes : List ℕ

abbrev pub write_of : ℕ → ℕ → List ℕ → Write
write_of i j bs = record { slot = i; block = j; bytes = bs }

-- the content after a list of writes, the first one first
abbrev pub Conduct : Type 0
Conduct = List Write → Content

-- the conduct of the shelf once these writes were handed to it
abbrev pub after_all : Conduct → List Write → Conduct
after_all k vs = λ ws. k (vs ++ ws)

-- whatever was written before, a write leaves every other card as it was; of n cards with s blocks
abbrev pub OwnCard : ℕ → ℕ → Conduct → Type 0
OwnCard n s k =
    (ws : List Write) (w : Write) (i j : ℕ) → i < n → j < s → (i ≢ w.slot) → k (ws ++ w ∷ []) i j ≡ k ws i j

abbrev pub Sized : Cell → Type 0
Sized None = Unit {0}
Sized (Some bs) = length bs ≡ 128

abbrev pub AllSized : ℕ → ℕ → Content → Type 0
AllSized n s c = (i j : ℕ) → i < n → j < s → Sized (c i j)

-- the shelf does the write as told: then the named place holds the bytes and no other place has changed
pub record AsTold (n s : ℕ) (k : Conduct) (w : Write) : Type 0 where
  pub there : k (w ∷ []) w.slot w.block ≡ Some w.bytes
  pub elsewhere : (i j : ℕ) → i < n → j < s → ((i ≡ w.slot) × (j ≡ w.block) → ⊥) → k (w ∷ []) i j ≡ k [] i j

-- whatever was written before, the shelf does every write of a whole block to one of its places as told
abbrev pub Faithful : ℕ → ℕ → Conduct → Type 0
Faithful n s k =
    (ws : List Write) (w : Write) → w.slot < n → w.block < s → length w.bytes ≡ 128 → AsTold n s (after_all k ws) w

-- the place is one of the shelf's
abbrev pub inside : ℕ → ℕ → ℕ → ℕ → Bool
inside n s i j = nat_lt i n && nat_lt j s

abbrev pub sight_of : Cell → Sight
sight_of None = Blind
sight_of (Some b) = Present

abbrev pub shown_of : Cell → List ℕ
shown_of None = replicate 128 0
shown_of (Some b) = b

-- a wrong length is refused first, then a place out of range
unfoldable pub read_answer : ℕ → ℕ → Content → ℕ → ℕ → ℕ → Result Sight Refusal
read_answer n s k i j len = cond (len == 128) (cond (inside n s i j) (Ok (sight_of (k i j))) (Err Place)) (Err Length)

unfoldable pub read_buffer : ℕ → ℕ → Content → ℕ → ℕ → List ℕ → List ℕ
read_buffer n s k i j was = cond (length was == 128 && inside n s i j) (shown_of (k i j)) was

unfoldable pub write_answer : {T : Type 0} → T → ℕ → ℕ → ℕ → ℕ → ℕ → Result T Refusal
write_answer t n s i j len = cond (len == 128) (cond (inside n s i j) (Ok t) (Err Place)) (Err Length)

-- the write that is handed on; a refused one is not
unfoldable pub writes_taken : ℕ → ℕ → ℕ → ℕ → List ℕ → List Write
writes_taken n s i j bs = cond (length bs == 128 && inside n s i j) (write_of i j bs ∷ []) []
