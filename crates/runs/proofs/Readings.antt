-- Reads show the payload last accepted, or say that the block is lost.
use Rattle.std.proofs.Common.{◌≡◌, ℕ, ◌+◌, ◌*◌, ◌/◌, ◌%◌, ◌<◌, Bool, true, ◌&&◌, eqb, ltb, ◌⊎◌, List, [], length, take, Some, Ok, Err, Option, Result, ap, ◌∙◌, ap₂, inl, inr}
use Rattle.std.proofs.lemmas.Bool.{eq-eqb, lt-ltb, cond-true, and_from}
use Rattle.block.specs.declared.refusal.Refusal.{Refusal}
use Rattle.block.specs.declared.refusal.Refusal.TheVariants.{Lost as IsLost, Address, Length, OtherOwner}
use Rattle.block.specs.declared.shapes.Role.TheVariants.{Data}
use Rattle.block.specs.Judging.{Setup}
use Rattle.block.specs.Layout.{owner_of}
use Rattle.block.specs.Places.{position_of}
use Rattle.shelf.specs.Model.{Content}
use Rattle.stripe.specs.declared.shapes.Finding.{Finding}
use Rattle.stripe.specs.Judge.{bad_role}
use Rattle.stripe.specs.View.{Slots, View}
use Rattle.runs.specs.declared.shapes.Gathered.{Gathered}
use Rattle.runs.specs.declared.shapes.Obtained.{Obtained}
use Rattle.runs.specs.declared.shapes.Obtained.TheVariants.{Found, Rebuilt}
use Rattle.runs.specs.declared.shapes.ReadAnswer.{ReadAnswer}
use Rattle.runs.specs.declared.shapes.Source.TheVariants.{Found as AsFound, Rebuilt as AsRebuilt}
use Rattle.runs.specs.Book.{Rec, rec_at, data_of}
use Rattle.runs.specs.Gather.{gathered}
use Rattle.runs.specs.Law.{InRange, ReadsRight, read_in}
use Rattle.runs.specs.Reads.{read_answer, found_buffer, rebuilt_buffer, read_at, refused_read, read_from, read_call, shown_by, shown}
use Rattle.runs.specs.Runs.{World, Good, Bad, OnlyBad, Orderly, Starts}
use Rattle.runs.proofs.CodecLaws.{CodecLaws}
use Rattle.runs.proofs.Decisions.{Alone}
use Rattle.runs.proofs.Fields.{own_of_data, pay_of_data}
use Rattle.runs.proofs.Mends.{looks_bad, obtained_good, obtained_alone, obtained_lost}
use Rattle.runs.proofs.Worlds.{index_lt, stripe_lt, home, view_in, fine_good, sorted, bad_set, only_alone, alone_only}

-- the position of an address of the array
pub position_is : (d n L : ℕ) → L < d * n → position_of d n L ≡ Ok (record { stripe = L / d; index = L % d })
position_is d n L h = cond-true (ltb L (d * n)) (Ok (record { stripe = L / d; index = L % d })) (Err Address) (lt-ltb L (d * n) h)

pub call_at : (E : Setup) (k : Content) (σ : Slots) (t L o : ℕ) (on : Bool) (f b : List ℕ) (fs : List Finding) → length f ≡ 128 → length b ≡ 128
    → L < E.D * E.S → read_call E k σ t L o on f b fs ≡ read_at E k σ t (L / E.D) (L % E.D) o on
unfolding read_call
call_at E k σ t L o on f b fs x y h =
    cond-true (eqb (length f) 128 && eqb (length b) 128) (read_from E k σ t o on f b fs (position_of E.D E.S L))
    (refused_read Length t f b fs) (and_from (eqb (length f) 128) (eqb (length b) 128) (eq-eqb (length f) 128 x) (eq-eqb (length b) 128 y))
    ∙ ap (read_from E k σ t o on f b fs) (position_is E.D E.S L h)

-- what is shown of what was obtained
abbrev showing : Obtained → Result ReadAnswer Refusal → Option (List ℕ)
showing x a = shown_by a (found_buffer a x) (rebuilt_buffer a x)

shows_found : (b : List ℕ) (n o : ℕ) → owner_of b ≡ o → showing (Found b) (read_answer (Found b) n o) ≡ Some (take 80 b)
shows_found b n o e =
    ap (showing (Found b)) (cond-true (eqb (owner_of b) o) (Ok (record { source = AsFound; looks = n })) (Err OtherOwner) (eq-eqb _ _ e))

shows_rebuilt : (b : List ℕ) (n o : ℕ) → owner_of b ≡ o → showing (Rebuilt b) (read_answer (Rebuilt b) n o) ≡ Some (take 80 b)
shows_rebuilt b n o e =
    ap (showing (Rebuilt b)) (cond-true (eqb (owner_of b) o) (Ok (record { source = AsRebuilt; looks = n })) (Err OtherOwner) (eq-eqb _ _ e))

module _ (E : Setup) (G : InRange E) (C : CodecLaws E) (w : World) (I : Starts E w) (O : Orderly E w) (L : ℕ) (h : L < E.D * E.S) where
  abbrev s : ℕ
  s = L / E.D

  abbrev j : ℕ
  j = L % E.D

  abbrev V : View
  V = view_in E w s

  abbrev r : Rec
  r = w.book.records L

  abbrev g : Gathered
  g = gathered E s V j

  a : s < E.S
  a = stripe_lt E G L h

  l : j < E.D
  l = index_lt E G L

  rec_home : rec_at E w.book.records s j ≡ r
  rec_home = ap w.book.records (home E G L)

  abbrev block : List ℕ
  block = data_of E s j (rec_at E w.book.records s j)

  owned : owner_of block ≡ r.owner
  owned = own_of_data E C s a w.book.records I.fits j l ∙ ap (λ x. x.owner) rec_home

  paid : take 80 block ≡ r.payload
  paid = pay_of_data E C s a w.book.records I.fits j l ∙ ap (λ x. x.payload) rec_home

  shown_good : Good E w s (Data j) ⊎ OnlyBad E w s (Data j) → showing g.obtained (read_answer g.obtained g.looks r.owner) ≡ Some r.payload
  shown_good (inl x) =
      ap (λ z. showing z (read_answer z g.looks r.owner))
      (obtained_good E C s a w.book.records I.fits V j l (sorted E C w I O s a) (fine_good E C w I s (Data j) a l x))
      ∙ (shows_found block g.looks r.owner owned ∙ ap Some paid)
  shown_good (inr x) =
      ap (λ z. showing z (read_answer z g.looks r.owner))
      (obtained_alone E C s a w.book.records I.fits V j l (sorted E C w I O s a)
      (only_alone E C w I O s a (Data j) l x))
      ∙ (shows_rebuilt block g.looks r.owner owned ∙ ap Some paid)

  answer_rebuilt : OnlyBad E w s (Data j)
      → read_answer g.obtained g.looks r.owner ≡ Ok (record { source = AsRebuilt; looks = E.D + 1 })
  answer_rebuilt x =
      let z : Alone E s V (Data j) = only_alone E C w I O s a (Data j) l x in
      ap₂ (λ y n. read_answer y n r.owner)
      (obtained_alone E C s a w.book.records I.fits V j l (sorted E C w I O s a) z)
      (looks_bad E C s a w.book.records I.fits V j l (sorted E C w I O s a) z.itself)
      ∙ cond-true (eqb (owner_of block) r.owner) (Ok (record { source = AsRebuilt; looks = E.D + 1 })) (Err OtherOwner) (eq-eqb _ _ owned)

  answer_lost : (Good E w s (Data j) ⊎ OnlyBad E w s (Data j) → ⊥) → read_answer g.obtained g.looks r.owner ≡ Err IsLost
  answer_lost n =
      ap (λ z. read_answer z g.looks r.owner)
      (obtained_lost E C s a w.book.records I.fits V j l (sorted E C w I O s a) (go (O.each s (Data j) a l))
      (λ x. n (inr (alone_only E C w I O s a (Data j) x))))
    where
      go : Good E w s (Data j) ⊎ Bad E w s (Data j) → bad_role E.D V (Data j) ≡ true
      go (inl x) = absurd (n (inl x))
      go (inr b) = bad_set E C w I O s a (Data j) l b

  pub gives : (on : Bool) (f b : List ℕ) (fs : List Finding) → length f ≡ 128 → length b ≡ 128
      → Good E w s (Data j) ⊎ OnlyBad E w s (Data j) → shown (read_in E w L r.owner on f b fs) ≡ Some r.payload
  unfolding read_at
  gives on f b fs x y c =
      ap shown (call_at E (w.shelf []) w.array.slots w.array.tally L r.owner on f b fs x y h) ∙ shown_good c

  -- a stripe's only bad block is given rebuilt, after a look at all places
  pub rebuilds : (on : Bool) (f b : List ℕ) (fs : List Finding) → length f ≡ 128 → length b ≡ 128 → OnlyBad E w s (Data j)
      → (read_in E w L r.owner on f b fs).answer ≡ Ok (record { source = AsRebuilt; looks = E.D + 1 })
  unfolding read_at
  rebuilds on f b fs x y c =
      ap (λ z. z.answer) (call_at E (w.shelf []) w.array.slots w.array.tally L r.owner on f b fs x y h) ∙ answer_rebuilt c

  pub loses : (on : Bool) (f b : List ℕ) (fs : List Finding) → length f ≡ 128 → length b ≡ 128
      → (Good E w s (Data j) ⊎ OnlyBad E w s (Data j) → ⊥) → (read_in E w L r.owner on f b fs).answer ≡ Err IsLost
  unfolding read_at
  loses on f b fs x y n =
      ap (λ z. z.answer) (call_at E (w.shelf []) w.array.slots w.array.tally L r.owner on f b fs x y h) ∙ answer_lost n

pub reads : (E : Setup) → InRange E → CodecLaws E → (w : World) → Starts E w → Orderly E w → ReadsRight E w
reads E G C w I O = record {
  gives = λ L on f b fs x y h c. gives E G C w I O L h on f b fs x y c;
  loses = λ L on f b fs x y h n. loses E G C w I O L h on f b fs x y n;
}
