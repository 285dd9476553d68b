-- A run in which a write is lost, a read is given rebuilt, and a later read says lost.
use Rattle.std.proofs.Common.{◌≡◌, ℕ, zero, suc, ◌*◌, ◌/◌, ◌^◌, ◌<◌, ◌≤◌, Bool, true, false, cond, eqb, ◌⊎◌, List, [], ◌∷◌, ◌++◌, length, Some, None, Ok, Err, Option, Result, sym, refl, ap, ◌∙◌, subst, ap₂, inl, inr, arith}
use Rattle.std.proofs.lemmas.Bool.{eq-eqb, ne_eqb, cond-true, cond-false, both_ways}
use Rattle.block.specs.declared.refusal.Refusal.{Refusal}
use Rattle.block.specs.declared.refusal.Refusal.TheVariants.{Lost}
use Rattle.block.specs.declared.shapes.Role.{Role}
use Rattle.block.specs.declared.shapes.Role.TheVariants.{Parity, Data}
use Rattle.block.specs.Judging.{Setup, alone}
use Rattle.shelf.specs.Model.{Write, Conduct, OwnCard, AsTold, Content, after_all}
use Rattle.stripe.specs.declared.shapes.Finding.{Finding}
use Rattle.stripe.specs.declared.shapes.Plan.TheVariants.{BySum}
use Rattle.stripe.specs.declared.shapes.SlotState.TheVariants.{In}
use Rattle.stripe.specs.Judge.{bad_role}
use Rattle.stripe.specs.View.{Slots, View}
use Rattle.runs.specs.declared.shapes.Patch.{Patch}
use Rattle.runs.specs.declared.shapes.ReadAnswer.{ReadAnswer}
use Rattle.runs.specs.declared.shapes.Source.TheVariants.{Rebuilt}
use Rattle.runs.specs.declared.shapes.Way.TheVariants.{Subtractive}
use Rattle.runs.specs.Book.{Fits, Book, blank_book, note_write, block_of}
use Rattle.runs.specs.Gather.{quick, patch_writes}
use Rattle.runs.specs.Law.{InRange, SumLaw, FailedWrite, TakenOut, read_in}
use Rattle.runs.specs.Reads.{read_patch, read_at, read_call, shown}
use Rattle.runs.specs.Runs.{
  Step,
  read,
  write,
  damage,
  World,
  handed,
  accepted,
  is_ok,
  start,
  step,
  InStripe,
  Good,
  Bad,
  blind,
  behind,
  OnlyBad,
  Orderly,
  Proper,
  Starts,
  Run,
  formatted,
}
use Rattle.runs.specs.Witness.{GoodShelf, drop_first, losing, blinding, smallest, lossy, written, read_back, blinded, Witness, WitnessRun}
use Rattle.runs.specs.Writes.{Writing, plan_answer, write_plan, write_looks, parity_write, write_at, write_call}
use Rattle.runs.proofs.Codec.{codec_laws}
use Rattle.runs.proofs.CodecLaws.{CodecLaws}
use Rattle.runs.proofs.Fields.{block_fit, ver_data, ver_parity}
use Rattle.runs.proofs.Outcomes.{Accepted}
use Rattle.runs.proofs.Puts.{lawful_after}
use Rattle.runs.proofs.Readings.{call_at, gives, rebuilds, loses}
use Rattle.runs.proofs.Renews.{base_version_lem}
use Rattle.runs.proofs.RunLaw.{blank_fits}
use Rattle.runs.proofs.Speaks.{memory, memory_good, all_orderly, orderly_beside, whole_parity, formatted_starts}
use Rattle.runs.proofs.Spoils.{spoils_none}
use Rattle.runs.proofs.Worlds.{view_in, fine_good, good_clear, bad_set, sorted}
use Rattle.runs.proofs.Writing.{put_other, parity_good, told_accepted}

-- a list without a write, and one more write
drops : (c : ℕ) (ws : List Write) (w : Write)
    → (drop_first c (ws ++ w ∷ []) ≡ drop_first c ws) ⊎ (drop_first c (ws ++ w ∷ []) ≡ drop_first c ws ++ w ∷ [])
drops c [] w = go (eqb w.slot c)
  where
    go : (t : Bool) → (cond t [] (w ∷ []) ≡ []) ⊎ (cond t [] (w ∷ []) ≡ w ∷ [])
    go true = inl refl
    go false = inr refl
drops c (v ∷ vs) w = go (eqb v.slot c) (drops c vs w)
  where
    go : (t : Bool) → (drop_first c (vs ++ w ∷ []) ≡ drop_first c vs) ⊎ (drop_first c (vs ++ w ∷ []) ≡ drop_first c vs ++ w ∷ [])
        → (cond t (vs ++ w ∷ []) (v ∷ drop_first c (vs ++ w ∷ [])) ≡ cond t vs (v ∷ drop_first c vs))
        ⊎ (cond t (vs ++ w ∷ []) (v ∷ drop_first c (vs ++ w ∷ [])) ≡ cond t vs (v ∷ drop_first c vs) ++ w ∷ [])
    go true x = inr refl
    go false (inl e) = inl (ap (λ z. v ∷ z) e)
    go false (inr e) = inr (ap (λ z. v ∷ z) e)

-- both kinds of damage leave a shelf that keeps the own-card law
losing_own : (N S : ℕ) (m : Conduct) (d : ℕ) → OwnCard N S m → OwnCard N S (losing d m)
losing_own N S m d h ws w c s a b n = go (drops d ws w)
  where
    go : (drop_first d (ws ++ w ∷ []) ≡ drop_first d ws) ⊎ (drop_first d (ws ++ w ∷ []) ≡ drop_first d ws ++ w ∷ [])
        → m (drop_first d (ws ++ w ∷ [])) c s ≡ m (drop_first d ws) c s
    go (inl e) = ap (λ z. m z c s) e
    go (inr e) = ap (λ z. m z c s) e ∙ h (drop_first d ws) w c s a b n

blinding_own : (N S : ℕ) (m : Conduct) (d : ℕ) → OwnCard N S m → OwnCard N S (blinding d m)
blinding_own N S m d h ws w c s a b n = ap (λ z. cond (eqb c d) None z) (h ws w c s a b n)

-- a read with the switch off hands down nothing
off : (a : Result ReadAnswer Refusal) (p : Option Patch) → read_patch false a p ≡ None
off (Ok a) p = refl
off (Err e) p = refl

read_off : (E : Setup) (k : Content) (σ : Slots) (t L o : ℕ) (f b : List ℕ) (fs : List Finding) → length f ≡ 128 → length b ≡ 128
    → L < E.D * E.S → (read_call E k σ t L o false f b fs).writes ≡ []
unfolding read_at
read_off E k σ t L o f b fs x y h =
    ap (λ z. z.writes) (call_at E k σ t L o false f b fs x y h) ∙ ap (patch_writes σ (L / E.D)) (off _ _)

module _ (mark : ℕ) (sum : List ℕ → ℕ) (hm : mark < 2 ^ 8) (hs : SumLaw sum) where
  abbrev E : Setup
  E = smallest mark sum

  G : InRange E
  G = record {
    wide = omega arith;
    slim = omega arith;
    some = omega arith;
    many = omega arith;
    marked = hm;
    tagged = omega arith;
    summed = hs;
  }

  C : CodecLaws E
  C = codec_laws E G

  module _ (p : List ℕ) (o : ℕ) (F : Fits (record { payload = p; owner = o; version = 1 })) (n : 1 ≤ o) (f b : List ℕ) (fs : List Finding)
      (lf : length f ≡ 128) (lb : length b ≡ 128) where
    -- the book after the write
    abbrev B : Book
    B = note_write blank_book 0 p o

    fits : (L : ℕ) → Fits (B.records L)
    fits zero = F
    fits (suc L) = subst Fits (sym (put_other blank_book.records 0 _ (suc L) (λ e. omega arith))) (blank_fits (suc L))

    abbrev world : Conduct → ℕ → World
    world k t = record { shelf = k; array = record { slots = λ c. In; cursor = 0; tally = t }; book = B }

    -- data block 1 is good
    abbrev Good₁ : Conduct → Type 0
    Good₁ k = k [] 1 0 ≡ Some (block_of E B.records 0 (Data 1))

    -- parity is good, and data block 0 is as it was before the write
    record Scene (k : Conduct) : Type 0 where
      own : OwnCard 3 1 k
      parity : k [] 2 0 ≡ Some (block_of E B.records 0 Parity)
      old : k [] 0 0 ≡ Some (block_of E blank_book.records 0 (Data 0))

    module _ (k : Conduct) (t : ℕ) (x : Scene k) (new : Good₁ k ⊎ (k [] 1 0 ≡ None)) where
      abbrev w : World
      w = world k t

      I : Starts E w
      I = record { lawful = x.own; same = λ c. refl; fits = fits }

      bad₀ : Bad E w 0 (Data 0)
      bad₀ =
          behind (block_of E blank_book.records 0 (Data 0))
          (ap (alone E 0 (Data 0)) x.old ∙ block_fit E C 0 (omega arith) blank_book.records blank_fits (Data 0) (omega arith))
          (let v = ver_data E C 0 (omega arith) blank_book.records blank_fits 0 (omega arith) in omega (arith, v))

      O : Orderly E w
      O = orderly_beside E C w I parity each
        where
          parity : (s : ℕ) → s < 1 → Good E w s Parity
          parity zero a = x.parity
          parity (suc s) a = absurd (omega arith)

          one : Good₁ k ⊎ (k [] 1 0 ≡ None) → Good E w 0 (Data 1) ⊎ Bad E w 0 (Data 1)
          one (inl e) = inl e
          one (inr e) = inr (blind (ap (alone E 0 (Data 1)) e))

          each : (s j : ℕ) → s < 1 → j < 2 → Good E w s (Data j) ⊎ Bad E w s (Data j)
          each zero zero a l = inr bad₀
          each zero (suc zero) a l = one new
          each zero (suc (suc j)) a l = absurd (omega arith)
          each (suc s) j a l = absurd (omega arith)

      not_good : Good E w 0 (Data 0) → ⊥
      not_good g =
          both_ways (bad_role 2 (view_in E w 0) (Data 0)) (good_clear E C w I O 0 (omega arith) (Data 0) (omega arith) g)
          (bad_set E C w I O 0 (omega arith) (Data 0) (omega arith) bad₀)

      -- data block 1 is good: data block 0 is given rebuilt
      module _ (good : Good₁ k) where
        only : OnlyBad E w 0 (Data 0)
        only = record { itself = bad₀; others = others }
          where
            others : (q : Role) → InStripe E q → (q ≡ Data 0 → ⊥) → Good E w 0 q
            others Parity i d = x.parity
            others (Data zero) i d = absurd (d refl)
            others (Data (suc zero)) i d = good
            others (Data (suc (suc j))) i d = absurd (omega arith)

        rebuilt : (on : Bool) → (read_in E w 0 o on f b fs).answer ≡ Ok (record { source = Rebuilt; looks = 3 })
        rebuilt on = rebuilds E G C w I O 0 (omega arith) on f b fs lf lb only

        shows : (on : Bool) → shown (read_in E w 0 o on f b fs) ≡ Some p
        shows on = gives E G C w I O 0 (omega arith) on f b fs lf lb (inr only)

      -- data block 1 is blind: data block 0 is lost
      lost : k [] 1 0 ≡ None → (on : Bool) → (read_in E w 0 o on f b fs).answer ≡ Err Lost
      lost e on = loses E G C w I O 0 (omega arith) on f b fs lf lb never
        where
          never : Good E w 0 (Data 0) ⊎ OnlyBad E w 0 (Data 0) → ⊥
          never (inl g) = not_good g
          never (inr g) =
              let y : Good₁ k = g.others (Data 1) (omega arith) (λ z. cc) in
              cc

    -- from a world after the write: the read with the switch off, and card 1 turned blind
    record After (w₀ w : World) : Type 0 where
      run : Run E w₀ w
      orderly : Orderly E w
      rebuilt : (on : Bool) → (read_in E w 0 o on f b fs).answer ≡ Ok (record { source = Rebuilt; looks = 3 })
      shows : (on : Bool) → shown (read_in E w 0 o on f b fs) ≡ Some p
      not_good : Good E w 0 (Data 0) → ⊥
      later_run : Run E w₀ (blinded E (read_back E w o f b fs))
      later_orderly : Orderly E (blinded E (read_back E w o f b fs))
      lost : (on : Bool) → (read_in E (blinded E (read_back E w o f b fs)) 0 o on f b fs).answer ≡ Err Lost

    record Ends (w₀ w : World) : Type 0 where
      run : Run E w₀ (blinded E w)
      orderly : Orderly E (blinded E w)
      lost : (on : Bool) → (read_in E (blinded E w) 0 o on f b fs).answer ≡ Err Lost

    blinded_scene : (k : Conduct) → Scene k → Scene (blinding 1 k)
    blinded_scene k x = record { own = blinding_own 3 1 k 1 x.own; parity = x.parity; old = x.old }

    module _ (k : Conduct) (x : Scene k) (good : Good₁ k) (w₀ : World) where
      ends : (t : ℕ) → Run E w₀ (world k t) → Ends w₀ (world k t)
      ends t r = record {
        run = step (world k t) (damage (blinding 1 k)) r (O k t x (inl good)) (blinding_own 3 1 k 1 x.own);
        orderly = O (blinding 1 k) t (blinded_scene k x) (inr refl);
        lost = lost (blinding 1 k) t (blinded_scene k x) (inr refl) refl;
      }

      -- a read with the switch off changes the tally only
      abbrev tally : ℕ
      tally = (read_in E (world k 0) 0 o false f b fs).tally

      same : read_back E (world k 0) o f b fs ≡ world k tally
      same = ap (λ z. world (after_all k z) tally) (read_off E (k []) (λ c. In) 0 0 o f b fs lf lb (omega arith))

      after : Run E w₀ (world k 0) → After w₀ (world k 0)
      after r = record {
        run = r;
        orderly = O k 0 x (inl good);
        rebuilt = rebuilt k 0 x (inl good) good;
        shows = shows k 0 x (inl good) good;
        not_good = not_good k 0 x (inl good);
        later_run = e.run;
        later_orderly = e.orderly;
        lost = e.lost;
      }
        where
          e : Ends w₀ (read_back E (world k 0) o f b fs)
          e =
              subst (λ z. Run E w₀ z → Ends w₀ z) (sym same) (ends tally)
              (step (world k 0) (read 0 o false f b fs) r (O k 0 x (inl good)) tt)

    module _ (m : Conduct) (g : GoodShelf E m) where
      -- the world in which the write begins
      abbrev w₁ : World
      w₁ = lossy E m

      abbrev k₁ : Step
      k₁ = write 0 p o Subtractive fs

      I₁ : Starts E w₁
      I₁ = record { lawful = losing_own 3 1 m 0 g.own; same = λ c. refl; fits = blank_fits }

      O₀ : Orderly E (formatted m)
      O₀ = all_orderly E C (formatted m) (formatted_starts E m g) g.good

      O₁ : Orderly E w₁
      O₁ = all_orderly E C w₁ I₁ g.good

      abbrev V : View
      V = view_in E w₁ 0

      -- the blocks before the write, as they are judged
      blank_judged : (r : Role) → InStripe E r → V r ≡ Ok (block_of E blank_book.records 0 r)
      blank_judged r i = fine_good E C w₁ I₁ 0 r (omega arith) i (g.good 0 r (omega arith) i)

      swift : quick (V (Data 0)) (V Parity) 0 ≡ true
      swift =
          ap₂ (λ x y. quick x y 0) (blank_judged (Data 0) (omega arith)) (blank_judged Parity tt)
          ∙ eq-eqb _ _
          (ver_data E C 0 (omega arith) blank_book.records blank_fits 0 (omega arith)
          ∙ sym (ver_parity E C 0 (omega arith) blank_book.records blank_fits 0 (omega arith)))

      -- the write is accepted
      taken : accepted E w₁.shelf w₁.array k₁ ≡ true
      unfolding write_call write_at write_plan
      taken =
          ap (λ (z : Writing). is_ok z.answer) (cond-true (eqb (length p) 80) _ _ (eq-eqb _ _ F.long))
          ∙ (ap (λ (z : Writing). is_ok z.answer) (cond-false (eqb o 0) _ _ (ne_eqb o 0 (λ e. omega arith)))
          ∙ ap₂ (λ q v. is_ok (plan_answer q v (write_looks E V 0 Subtractive))) (cond-true (quick (V (Data 0)) (V Parity) 0) BySum _ swift)
          (base_version_lem E C 0 (omega arith) blank_book.records blank_fits V 0 (omega arith) (sorted E C w₁ I₁ O₁ 0 (omega arith))))

      W : Accepted E V (λ c. In) 0 p o Subtractive (handed E w₁.shelf w₁.array k₁)
      W = told_accepted E G C w₁ I₁ O₁ 0 p o Subtractive fs taken

      proper : Proper E k₁
      proper = (F.bytes, F.owned)

      -- the write of parity, which is done
      abbrev q : Write
      q = parity_write E 0 V 0 Subtractive p o

      done : AsTold 3 1 m q
      done =
          let h = whole_parity E G C w₁ I₁ O₁ g.good 0 p o Subtractive fs proper taken W in
          g.faithful [] q h.0 h.1 h.2

      -- the world after the write: parity was written, and the write to card 0 was lost
      same_world : written E m p o fs ≡ world (after_all m (q ∷ [])) 0
      same_world =
          ap₂
          {C = World}
          (λ ws t.
          record {
            shelf = after_all (losing 0 m) ws;
            array = record { slots = λ c. In; cursor = 0; tally = 0 };
            book = cond t B blank_book;
          })
          W.pair taken

      scene : Scene (after_all m (q ∷ []))
      scene = record {
        own = lawful_after 3 1 m (q ∷ []) g.own;
        parity = done.there ∙ ap Some (parity_good E G C w₁ I₁ O₁ 0 p o Subtractive fs W (g.good 0 Parity (omega arith) tt));
        old = g.own [] q 0 0 (omega arith) (omega arith) (λ e. omega arith) ∙ g.good 0 (Data 0) (omega arith) (omega arith);
      }

      story : After (formatted m) (written E m p o fs)
      story =
          subst (λ z. Run E (formatted m) z → After (formatted m) z) (sym same_world)
          (after (after_all m (q ∷ [])) scene
          (g.own [] q 1 0 (omega arith) (omega arith) (λ e. omega arith) ∙ g.good 0 (Data 1) (omega arith) (omega arith)) (formatted m))
          (step w₁ k₁
          (step (formatted m) (damage (losing 0 m)) start O₀ (losing_own 3 1 m 0 g.own)) O₁ proper)

      -- card 0 failed its write
      failed : FailedWrite E w₁.shelf (handed E w₁.shelf w₁.array k₁) 0
      failed =
          go (spoils_none E G C w₁ I₁ O₁ k₁ 0 (Data 0) (omega arith) (omega arith)
          (g.good 0 (Data 0) (omega arith) (omega arith)) story.not_good)
        where
          go : FailedWrite E w₁.shelf (handed E w₁.shelf w₁.array k₁) 0
              ⊎ (⊥ ⊎ TakenOut E w₁ k₁ 0)
              → FailedWrite E w₁.shelf (handed E w₁.shelf w₁.array k₁) 0
          go (inl x) = x
          go (inr (inl x)) = absurd x
          go (inr (inr (x, inl e))) = cc
          go (inr (inr (x, inr e))) = cc

      witness : Witness E m p o f b fs
      witness = record {
        failed = failed;
        run = story.run;
        orderly = story.orderly;
        rebuilt = story.rebuilt;
        shows = story.shows;
        later_run = story.later_run;
        later_orderly = story.later_orderly;
        lost = story.lost;
      }

pub witness_run : WitnessRun
witness_run mark sum hm hs p o F n f b fs lf lb =
    ((memory (smallest mark sum), memory_good (smallest mark sum)), witness mark sum hm hs p o F n f b fs lf lb)
