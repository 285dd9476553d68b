-- A row that a loop fills from its start, and tables of equal parts. Assumes nothing.
use Rattle.std.proofs.Common.{◌≡◌, ℕ, zero, suc, ◌+◌, ◌<◌, ◌≤◌, List, ◌∷◌, map, length, get_or, set, take, sym, refl, ap, ◌∙◌, ap₂, ⊎_elim, arith, length-set, get_or-set_other, get_or-set_same}
use denote.Param.Members.{Mut, Called}
use Rattle.std.specs.Array.{IsFromFnResult, IsFromFnResultFrom}
use Rattle.std.specs.List.{range_with_len}
use Rattle.std.proofs.lemmas.List.{get_or-take, get_or_default, length-take}
use Rattle.std.proofs.lemmas.List.FromFn.{fill_by_all}
use Rattle.std.proofs.lemmas.Bool.{cases_eq}
use Rattle.block.specs.Layout.{table}

-- a row of n places whose first i hold what f says
pub record Filled {A : Type 0} (n : ℕ) (f : ℕ → A) (i : ℕ) (xs : List A) : Type 0 where
  pub long : length xs ≡ n
  pub below : (j : ℕ) (d : A) → j < i → get_or xs j d ≡ f j

pub filled_none : {A : Type 0} (n : ℕ) (f : ℕ → A) (xs : List A) → length xs ≡ n → Filled n f 0 xs
filled_none n f xs e = record { long = e; below = λ j d lt. absurd (omega arith) }

pub filled_more : {A : Type 0} (n : ℕ) (f : ℕ → A) (i : ℕ) (xs : List A) (v : A) → i < n → Filled n f i xs → v ≡ f i → Filled n f (i + 1) (set xs i v)
filled_more n f i xs v h was here = record {
  long = length-set xs i v ∙ was.long;
  below = λ j d lt. ⊎_elim
      (λ e. ap (λ k. get_or (set xs i v) k d) e ∙ get_or-set_same xs i v d (omega (arith, was.long)) ∙ here ∙ ap f (sym e))
      (λ ne. get_or-set_other xs i j v d ne ∙ was.below j d (omega arith))
      (cases_eq j i);
}

pub filled_all : {A : Type 0} (n : ℕ) (f : ℕ → A) (i : ℕ) (xs : List A) (d : A) → n ≡ i → Filled n f i xs → xs ≡ table n f
filled_all n f i xs d e was = fill_by_all f xs n d was.long (λ k h. was.below k d (omega arith))

same_from : {A : Type 0} (f g : ℕ → A) (n a : ℕ) → ((i : ℕ) → a ≤ i → i < a + n → f i ≡ g i) → map f (range_with_len a n) ≡ map g (range_with_len a n)
same_from f g zero a h = refl
same_from f g (suc n) a h = ap₂ ◌∷◌ (h a (omega arith) (omega arith)) (same_from f g n (a + 1) (λ i l m. h i (omega arith) (omega arith)))

pub table_same : {A : Type 0} (n : ℕ) (f g : ℕ → A) → ((i : ℕ) → i < n → f i ≡ g i) → table n f ≡ table n g
table_same n f g h = same_from f g n 0 (λ i l m. h i (omega arith))

-- an array that a closure makes, each call of which leaves it as it was
module _ {F B : Type 0} (g : Mut F (ℕ × Unit {0}) B) (h : ℕ → B) (f : F) (says : (i : ℕ) (y : B) (q : F) → Called g f (i, tt) y q → (y ≡ h i) × (q ≡ f)) (ys : List B) where
  made_from : (i m k : ℕ) (p : F) (d : B) → p ≡ f → IsFromFnResultFrom g p ys i m → i ≤ k → k < i + m → get_or ys k d ≡ h k
  made_from i zero k p d e r l lt = absurd (omega arith)
  made_from i (suc m) k p d e (q, y, at, call, rest) l lt =
      let s = says i y q (rw e at call) in
      ⊎_elim
      (λ same. ap (λ j. get_or ys j d) same ∙ at.1 d ∙ s.0 ∙ ap h (sym same))
      (λ ne. made_from (i + 1) m k q d s.1 rest (omega arith) (omega arith))
      (cases_eq k i)

  pub from_fn_same : (n : ℕ) → IsFromFnResult g f ys n → ys ≡ table n h
  from_fn_same n r = fill_by_all h ys n (h 0) r.long (λ k l. made_from 0 n k f (h 0) refl r.each (omega arith) (omega arith))

-- an element of the first n, whatever stands for one that is not there
pub in_front : {A : Type 0} (xs : List A) (n k : ℕ) (d e : A) → k < length (take n xs) → get_or (take n xs) k d ≡ get_or xs k e
in_front xs n k d e h =
    get_or-take n xs k d (omega (arith, length-take n xs)) ∙ get_or_default xs k d e (omega (arith, length-take n xs))
