-- What the writes of an image come to.
use Rattle.std.specs.Prelude.{Vec, vec_len}
use Rattle.std.specs.declared.alloc.Global.{Global}
use Rattle.std.proofs.Common.{◌≡◌, ℕ, ◌+◌, ◌*◌, ◌<◌, List, ◌++◌, length, take, drop, vec_items, sym, ap, ◌∙◌}
use Rattle.std.proofs.lemmas.List.{with_items_is}
use Rattle.shelf.specs.Model.{Faithful, after_all, write_of, writes_taken}
use Rattle.shelf.proofs.Steps.{taken}
use Rattle.image.specs.Layout.{image_conduct, put_at}
use Rattle.image.specs.Puts.{image_faithful, stored_in}

module _ (n s : ℕ) (v : Vec ℕ Global) where
  -- with as many bytes as the places take
  pub told : vec_len v ≡ n * s * 129 → Faithful n s (image_conduct n s (vec_items v))
  told full = image_faithful n s (vec_items v) (sym v.ok.0 ∙ full)

  -- once a block was put to a place
  pub wrote : (i j : ℕ) (bs xs : List ℕ) → i < n → j < s → length bs ≡ 128 → length xs ≡ vec_len v → xs ≡ put_at (n * s) (vec_items v) (i * s + j) bs
      → image_conduct n s (take (vec_len v) (xs ++ drop (length xs) (vec_items v))) ≡ after_all (image_conduct n s (vec_items v)) (writes_taken n s i j bs)
  wrote i j bs xs hi hj b len put =
      ap (image_conduct n s) (with_items_is v xs len ∙ put ∙ sym (stored_in n s (vec_items v) (write_of i j bs) hi hj b))
      ∙ sym (ap (after_all (image_conduct n s (vec_items v))) (taken n s i j hi hj bs b))
