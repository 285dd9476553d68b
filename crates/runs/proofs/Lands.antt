-- What scrubs and writes make good.
use Rattle.std.specs.Prelude.{Some}
use Rattle.std.proofs.Common.{◌≡◌, ℕ, suc, ◌+◌, ◌/◌, ◌%◌, ◌<◌, Bool, true, false, ◌⊎◌, List, [], sym, refl, ap, ◌∙◌, subst, inl, inr}
use Rattle.std.proofs.lemmas.Bool.{cases_Bool, cond-true, cond-false}
use Rattle.block.specs.declared.shapes.Role.{Role}
use Rattle.block.specs.declared.shapes.Role.TheVariants.{Parity, Data}
use Rattle.block.specs.Judging.{Setup}
use Rattle.block.specs.Places.{slot_of}
use Rattle.shelf.specs.Model.{write_of}
use Rattle.stripe.specs.declared.shapes.Finding.{Finding}
use Rattle.stripe.specs.declared.shapes.Plan.TheVariants.{Lost as NoPlan, BySum, ByAll}
use Rattle.stripe.specs.Mend.{mended}
use Rattle.stripe.specs.Renew.{touched, plan_for, plan_of}
use Rattle.stripe.specs.View.{View, takes_at}
use Rattle.runs.specs.declared.shapes.Way.{Way}
use Rattle.runs.specs.declared.shapes.Way.TheVariants.{Subtractive, Additive}
use Rattle.runs.specs.Book.{Rec, put_rec, rec_at, parity_of, block_of}
use Rattle.runs.specs.Companions.{DidAll, Takes, Renewed, scrub_at, seen_stripe}
use Rattle.runs.specs.Gather.{patch_by, patch_of, patch_writes}
use Rattle.runs.specs.Law.{InRange, FailedWrite}
use Rattle.runs.specs.Runs.{
  Step,
  write,
  scrub,
  World,
  next,
  handed,
  accepted,
  next_shelf,
  InStripe,
  Good,
  OnlyBad,
  Orderly,
  Starts,
}
use Rattle.runs.specs.Scrubs.{sweep_writes}
use Rattle.runs.specs.Writes.{swift, write_plan, parity_write}
use Rattle.runs.proofs.CodecLaws.{CodecLaws}
use Rattle.runs.proofs.Decisions.{Alone, is_clean, is_only}
use Rattle.runs.proofs.Mending.{cursor_lt}
use Rattle.runs.proofs.Mends.{alone_exact}
use Rattle.runs.proofs.Outcomes.{Accepted}
use Rattle.runs.proofs.Places.{slot_in}
use Rattle.runs.proofs.Puts.{Did, expected, settled, sent_here, bytes_seen}
use Rattle.runs.proofs.Renews.{new_parity_lem}
use Rattle.runs.proofs.Told.{did_or_failed}
use Rattle.runs.proofs.Worlds.{view_in, fine_good, sorted, good_clear, only_alone}
use Rattle.runs.proofs.Writing.{
  put_same,
  put_other,
  l₀,
  f',
  B',
  put_at,
  put_data,
  put_parity,
  parity_off,
  parity_good,
  landed,
  takes_after,
  told_accepted,
}

pub did_all : (E : Setup) (w : World) (k : Step) (c : ℕ) → DidAll E w k c
    → Did (E.D + 1) E.S w.shelf (handed E w.shelf w.array k) c
did_all E w k c n = go (did_or_failed E (handed E w.shelf w.array k) w.shelf c)
  where
    go : Did (E.D + 1) E.S w.shelf (handed E w.shelf w.array k) c ⊎ FailedWrite E w.shelf (handed E w.shelf w.array k) c
        → Did (E.D + 1) E.S w.shelf (handed E w.shelf w.array k) c
    go (inl d) = d
    go (inr x) = absurd (n x)

module _ (E : Setup) (G : InRange E) (C : CodecLaws E) (w : World) (I : Starts E w) (O : Orderly E w) where
  -- a scrub mends the stripe's only bad block
  pub scrub_mends : (r : Role) → InStripe E r → OnlyBad E w (scrub_at E w) r → Takes E w (scrub_at E w) r
      → DidAll E w scrub (slot_of E.D (scrub_at E w) r) → Good E (next E w scrub) (scrub_at E w) r
  unfolding sweep_writes patch_of
  scrub_mends r i b t n =
      bytes_seen (next_shelf E w.shelf w.array scrub [] c s) (w.book.slots c) s (block_of E w.book.records s r) t
      (settled (E.D + 1) E.S (handed E w.shelf w.array scrub) w.shelf I.lawful c s (slot_in E s r i) a (did_all E w scrub c n)
      ∙ (ap (λ z. expected (patch_writes w.array.slots s (patch_by E s V z)) c s (w.shelf [] c s)) (is_only E s V r x)
      ∙ (sent_here w.array.slots (write_of c s (mended E s V r)) c s (w.shelf [] c s) refl refl
      (ap (λ z. takes_at z s) (I.same c) ∙ t)
      ∙ ap Some (alone_exact E C s a w.book.records I.fits V r (sorted E C w I O s a) x))))
    where
      s : ℕ
      s = scrub_at E w

      c : ℕ
      c = slot_of E.D s r

      V : View
      V = view_in E w s

      a : s < E.S
      a = cursor_lt E.S w.array.cursor G.some

      x : Alone E s V r
      x = only_alone E C w I O s a r i b

  -- an accepted write makes its blocks good
  pub write_lands : (L : ℕ) (p : List ℕ) (o : ℕ) (y : Way) (fs : List Finding)
      → accepted E w.shelf w.array (write L p o y fs) ≡ true → (r : Role) → Renewed E w (L / E.D) (L % E.D) y r → Takes E w (L / E.D) r
      → DidAll E w (write L p o y fs) (slot_of E.D (L / E.D) r) → Good E (next E w (write L p o y fs)) (L / E.D) r
  write_lands L p o y fs t r v k n =
      bytes_seen (next_shelf E w.shelf w.array (write L p o y fs) [] (slot_of E.D s r) s)
      ((B' E G C w I O L p o y fs X).slots (slot_of E.D s r)) s (block_of E (B' E G C w I O L p o y fs X).records s r)
      (takes_after E G C w I O L p o y fs (slot_of E.D s r) s k)
      (landed E G C w I O L p o y fs r (inside r v) W (did_all E w (write L p o y fs) (slot_of E.D s r) n)
      ∙ (put r v (ap (λ z. takes_at z s) (I.same (slot_of E.D s r)) ∙ k)
      ∙ ap (λ z. Some (block_of E (B' E G C w I O L p o y fs z).records s r)) (sym t)))
    where
      s : ℕ
      s = L / E.D

      X : Bool
      X = accepted E w.shelf w.array (write L p o y fs)

      W : Accepted E (view_in E w s) w.array.slots L p o y (handed E w.shelf w.array (write L p o y fs))
      W = told_accepted E G C w I O L p o y fs t

      inside : (q : Role) → Renewed E w s (L % E.D) y q → InStripe E q
      inside Parity v = tt
      inside (Data j) v = subst (λ z. z < E.D) (sym v) (l₀ E G C w I O L p o y fs)

      exact : Renewed E w s (L % E.D) y Parity
          → (parity_write E s (view_in E w s) (L % E.D) y p o).bytes ≡ block_of E (f' E G C w I O L p o y fs) s Parity
      exact (inl g) = parity_good E G C w I O L p o y fs W g
      exact (inr z) = parity_off E G C w I O L p o y fs W z

      put : (q : Role) → Renewed E w s (L % E.D) y q → takes_at (w.array.slots (slot_of E.D s q)) s ≡ true
          → put_at E G C w I O L p o y fs s q (w.shelf [] (slot_of E.D s r) s)
          ≡ Some (block_of E (f' E G C w I O L p o y fs) s q)
      put Parity v z = put_parity E G C w I O L p o y fs W _ _ z (exact v)
      put (Data j) v z =
          subst
          (λ q.
          takes_at (w.array.slots (slot_of E.D s (Data q))) s ≡ true
          → put_at E G C w I O L p o y fs s (Data q) (w.shelf [] (slot_of E.D s r) s)
          ≡ Some (block_of E (f' E G C w I O L p o y fs) s (Data q)))
          (sym v) (put_data E G C w I O L p o y fs W _) z

  -- in a stripe of good blocks both ways make the same parity
  pub same_parity : (s j : ℕ) (p : List ℕ) (o : ℕ) → s < E.S → j < E.D → ((r : Role) → InStripe E r → Good E w s r)
      → parity_write E s (seen_stripe E w s) j Subtractive p o ≡ parity_write E s (seen_stripe E w s) j Additive p o
  unfolding write_plan plan_of
  same_parity s j p o a l all = ap (write_of (slot_of E.D s Parity) s) (made Subtractive ∙ sym (made Additive))
    where
      V : View
      V = view_in E w s

      R : ℕ → Rec
      R = rec_at E w.book.records s

      new : Rec
      new = record { payload = p; owner = o; version = suc (R j).version }

      planned : (y : Way) → write_plan E s V j y ≡ NoPlan → ⊥
      planned y e = go (cases_Bool (swift y V j))
        where
          clean : plan_of E.D s V j ≡ ByAll
          clean = ap (plan_for (touched E.D V j)) (is_clean E s V (λ r i. good_clear E C w I O s a r i (all r i)))

          go : (swift y V j ≡ true) ⊎ (swift y V j ≡ false) → ⊥
          go (inl t) =
              let f : BySum ≡ NoPlan = sym (cond-true (swift y V j) BySum (plan_of E.D s V j) t) ∙ e in
              cc
          go (inr t) =
              let f : ByAll ≡ NoPlan = sym clean ∙ (sym (cond-false (swift y V j) BySum (plan_of E.D s V j) t) ∙ e) in
              cc

      made : (y : Way) → (parity_write E s V j y p o).bytes ≡ parity_of E s (put_rec R j new)
      made y =
          new_parity_lem E C s a w.book.records I.fits V j l (sorted E C w I O s a) (put_rec R j new) p o (put_same R j new j refl)
          (put_other R j new) y (fine_good E C w I s Parity a tt (all Parity tt)) (planned y)
