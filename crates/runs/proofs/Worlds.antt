-- A world of a run: what is judged is what the book says.
use Rattle.std.proofs.Common.{◌≡◌, ℕ, ◌+◌, ◌*◌, ◌/◌, ◌%◌, ◌<◌, Bool, true, false, ◌⊎◌, [], refl, ap, ◌∙◌, subst, inl, inr, mod-lt, mul_comm, div-lt_iff_lt-mul, div-add-mod', arith}
use Rattle.std.proofs.lemmas.Bool.{lt-ltb, both_ways}
use Rattle.block.specs.declared.shapes.Defect.TheVariants.{Blind, Broken, Foreign}
use Rattle.block.specs.declared.shapes.Role.{Role}
use Rattle.block.specs.declared.shapes.Role.TheVariants.{Parity, Data}
use Rattle.block.specs.Judging.{Setup, alone}
use Rattle.block.specs.Places.{slot_of}
use Rattle.stripe.specs.Judge.{bad_role}
use Rattle.stripe.specs.View.{View, seen_at, has_role, view_of}
use Rattle.stripe.proofs.Views.{view_in as view_of_role}
use Rattle.runs.specs.Book.{Rec}
use Rattle.runs.specs.Law.{InRange}
use Rattle.runs.specs.Runs.{
  World,
  InStripe,
  cell_of,
  Good,
  Bad,
  blind,
  broken,
  foreign,
  behind,
  Orderly,
  OnlyBad,
  Starts,
}
use Rattle.runs.proofs.CodecLaws.{CodecLaws}
use Rattle.runs.proofs.Decisions.{Alone}
use Rattle.runs.proofs.Fields.{Fine, Poor, unfit, behind as lower, block_fit}
use Rattle.runs.proofs.Masks.{Sorted, good_parity, bad_parity, fine_clear, poor_set}
use Rattle.runs.proofs.Places.{cases_role}

-- an address lies in the array
module _ (E : Setup) (G : InRange E) (L : ℕ) where
  pub index_lt : L % E.D < E.D
  index_lt = mod-lt L (omega (arith, G.wide))

  pub stripe_lt : L < E.D * E.S → L / E.D < E.S
  stripe_lt h = (div-lt_iff_lt-mul (omega (arith, G.wide))).1 (subst (λ z. L < z) (mul_comm E.D E.S) h)

  pub home : L / E.D * E.D + L % E.D ≡ L
  home = div-add-mod' L E.D

has_role_lem : (E : Setup) (r : Role) → InStripe E r → has_role E.D r ≡ true
has_role_lem E Parity i = refl
has_role_lem E (Data j) i = lt-ltb j E.D i

-- the stripe as the array sees it
abbrev pub view_in : Setup → World → ℕ → View
view_in E w s = view_of E (w.shelf []) w.array.slots s

module _ (E : Setup) (C : CodecLaws E) (w : World) (I : Starts E w) where
  abbrev f : ℕ → Rec
  f = w.book.records

  pub judged : (s : ℕ) (r : Role) → InStripe E r → view_in E w s r ≡ alone E s r (cell_of E w s r)
  judged s r i =
      view_of_role E (w.shelf []) w.array.slots s r (has_role_lem E r i)
      ∙ ap (λ t. alone E s r (seen_at (w.shelf [] (slot_of E.D s r) s) t s)) (I.same (slot_of E.D s r))

  pub fine_good : (s : ℕ) (r : Role) → s < E.S → InStripe E r → Good E w s r → Fine E s f (view_in E w s) r
  fine_good s r a i g = judged s r i ∙ (ap (alone E s r) g ∙ block_fit E C s a f I.fits r i)

  pub poor_bad : (s : ℕ) (r : Role) → InStripe E r → Bad E w s r → Poor E s f (view_in E w s) r
  poor_bad s r i (blind e) = unfit Blind (judged s r i ∙ e)
  poor_bad s r i (broken e) = unfit Broken (judged s r i ∙ e)
  poor_bad s r i (foreign e) = unfit Foreign (judged s r i ∙ e)
  poor_bad s r i (behind b e h) = lower b (judged s r i ∙ e) h

  pub fine_or_poor : (s : ℕ) (r : Role) → s < E.S → InStripe E r → Good E w s r ⊎ Bad E w s r
      → Fine E s f (view_in E w s) r ⊎ Poor E s f (view_in E w s) r
  fine_or_poor s r a i (inl g) = inl (fine_good s r a i g)
  fine_or_poor s r a i (inr b) = inr (poor_bad s r i b)

  module _ (O : Orderly E w) where
    pub sorted : (s : ℕ) → s < E.S → Sorted E s f (view_in E w s)
    sorted s a = go (O.each s Parity a tt)
      where
        beside : Bad E w s Parity → (j : ℕ) → j < E.D → Good E w s (Data j) ⊎ Bad E w s (Data j) → Fine E s f (view_in E w s) (Data j)
        beside p j l (inl g) = fine_good s (Data j) a l g
        beside p j l (inr b) = absurd (O.apart s j a l p b)

        go : Good E w s Parity ⊎ Bad E w s Parity → Sorted E s f (view_in E w s)
        go (inl g) = good_parity (fine_good s Parity a tt g) (λ j l. fine_or_poor s (Data j) a l (O.each s (Data j) a l))
        go (inr p) = bad_parity (poor_bad s Parity tt p) (λ j l. beside p j l (O.each s (Data j) a l))

    module _ (s : ℕ) (a : s < E.S) where
      abbrev masked : Role → Bool
      masked r = bad_role E.D (view_in E w s) r

      -- the mask is the set of bad blocks
      pub good_clear : (r : Role) → InStripe E r → Good E w s r → masked r ≡ false
      good_clear r i g = fine_clear E C s a f I.fits (view_in E w s) r i (sorted s a) (fine_good s r a i g)

      pub bad_set : (r : Role) → InStripe E r → Bad E w s r → masked r ≡ true
      bad_set r i b = poor_set E C s a f I.fits (view_in E w s) r i (sorted s a) (poor_bad s r i b)

      pub only_alone : (r : Role) → InStripe E r → OnlyBad E w s r → Alone E s (view_in E w s) r
      only_alone r i b = record { inside = i; itself = bad_set r i b.itself; others = λ q j t. go q j t (cases_role r q) }
        where
          go : (q : Role) → InStripe E q → masked q ≡ true → (q ≡ r) ⊎ (q ≡ r → ⊥) → q ≡ r
          go q j t (inl e) = e
          go q j t (inr d) = absurd (both_ways (masked q) (good_clear q j (b.others q j d)) t)

      pub alone_only : (r : Role) → Alone E s (view_in E w s) r → OnlyBad E w s r
      alone_only r x = record { itself = self (O.each s r a x.inside); others = λ q j d. rest q j d (O.each s q a j) }
        where
          self : Good E w s r ⊎ Bad E w s r → Bad E w s r
          self (inl g) = absurd (both_ways (masked r) (good_clear r x.inside g) x.itself)
          self (inr b) = b

          rest : (q : Role) → InStripe E q → (q ≡ r → ⊥) → Good E w s q ⊎ Bad E w s q → Good E w s q
          rest q j d (inl g) = g
          rest q j d (inr b) = absurd (d (x.others q j (bad_set q j b)))
