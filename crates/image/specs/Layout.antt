-- How an image lays a shelf out: the blocks of 128 bytes, slot by slot, then a flag for each block, 0 readable and 1 blind.
use Rattle.std.specs.Prelude.{ℕ, ◌+◌, ◌*◌, Bool, cond, ◌&&◌, List, [], ◌∷◌, length, take, drop, Some, None, Option, ◌==◌, nat_le, slice_index_or, slice_set}
use Rattle.std.specs.List.{list_all}
use Rattle.std.proofs.Math.Seq.{paste}
use Rattle.block.specs.declared.refusal.Refusal.{Refusal}
use Rattle.block.specs.declared.refusal.Refusal.TheVariants.{Length, Shape}
use Rattle.block.specs.Shapes.{Cell}
use Rattle.shelf.specs.Model.{Content, Conduct, Write, inside}
use Rattle.image.specs.Extents.{shape_fits}

-- Below, n is the number of cards, s of blocks of a card, and m = n * s of places.

-- every flag is 0 or 1
abbrev pub flags_fit : List ℕ → Bool
flags_fit fs = list_all (λ f. nat_le f 1) fs

-- as many bytes as m places take, and every flag is 0 or 1
abbrev pub bytes_fit : ℕ → List ℕ → Bool
bytes_fit m xs = length xs == m * 129 && flags_fit (drop (m * 128) xs)

-- why the bytes are no image of n cards with s blocks, if they are none
unfoldable pub open_refusal : ℕ → ℕ → List ℕ → Option Refusal
open_refusal n s xs = cond (shape_fits n s) (cond (bytes_fit (n * s) xs) None (Some Length)) (Some Shape)

-- what the place p of m holds; without a flag it is blind
unfoldable pub cell_at : ℕ → List ℕ → ℕ → Cell
cell_at m xs p = cond (slice_index_or xs (m * 128 + p) 1 == 0) (Some (take 128 (drop (p * 128) xs))) None

-- what each place holds; there is nothing beyond the shelf
unfoldable pub content_of : ℕ → ℕ → List ℕ → Content
content_of n s xs i j = cond (inside n s i j) (cell_at (n * s) xs (i * s + j)) None

-- the image once the bytes went to the place p of m, which is readable then
unfoldable pub put_at : ℕ → List ℕ → ℕ → List ℕ → List ℕ
put_at m xs p bs = slice_set (paste xs (p * 128) bs 128) (m * 128 + p) 0

-- a whole block to one of the shelf's places
abbrev pub accepts : ℕ → ℕ → Write → Bool
accepts n s w = inside n s w.slot w.block && length w.bytes == 128

-- the image after a write; one that is not accepted changes nothing
unfoldable pub stored : ℕ → ℕ → List ℕ → Write → List ℕ
stored n s xs w = cond (accepts n s w) (put_at (n * s) xs (w.slot * s + w.block) w.bytes) xs

-- the image after a list of writes, the first one first
abbrev pub replayed : ℕ → ℕ → List ℕ → List Write → List ℕ
replayed n s xs [] = xs
replayed n s xs (w ∷ ws) = replayed n s (stored n s xs w) ws

-- the content after a list of writes
abbrev pub image_conduct : ℕ → ℕ → List ℕ → Conduct
image_conduct n s xs ws = content_of n s (replayed n s xs ws)
