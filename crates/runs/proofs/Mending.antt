-- Reads, scrubs and rebuilds leave good blocks good.
use Rattle.std.specs.Prelude.{Some}
use Rattle.std.proofs.Common.{◌≡◌, ℕ, ◌+◌, ◌*◌, ◌/◌, ◌%◌, ◌<◌, ◌≤◌, Bool, true, false, cond, ◌&&◌, eqb, ltb, leb, ◌⊎◌, List, [], ◌∷◌, length, None, Ok, Err, Option, Result, sym, refl, ap, ◌∙◌, subst, inl, inr}
use Rattle.std.proofs.lemmas.Bool.{eqb-true, le-ltb, ltb-true, cases_Bool, cases_lt, cond-true, cond-false, and_parts}
use Rattle.block.specs.declared.refusal.Refusal.{Refusal}
use Rattle.block.specs.declared.refusal.Refusal.TheVariants.{Length, Address}
use Rattle.block.specs.declared.shapes.Role.{Role}
use Rattle.block.specs.declared.shapes.Role.TheVariants.{Parity, Data}
use Rattle.block.specs.Judging.{Setup}
use Rattle.block.specs.Places.{slot_of, position_of}
use Rattle.shelf.specs.Model.{Content, Write, write_of}
use Rattle.stripe.specs.declared.shapes.Decision.{Decision}
use Rattle.stripe.specs.declared.shapes.Decision.TheVariants.{Clean, Only, Lost}
use Rattle.stripe.specs.declared.shapes.Finding.{Finding}
use Rattle.stripe.specs.declared.shapes.SlotState.{SlotState}
use Rattle.stripe.specs.declared.shapes.SlotState.TheVariants.{In, Out, Filling}
use Rattle.stripe.specs.Judge.{decision}
use Rattle.stripe.specs.Mend.{mended}
use Rattle.stripe.specs.View.{Slots, View, view_of}
use Rattle.runs.specs.declared.shapes.Patch.{Patch}
use Rattle.runs.specs.declared.shapes.ReadAnswer.{ReadAnswer}
use Rattle.runs.specs.Book.{Book, block_of}
use Rattle.runs.specs.Gather.{quick, patch_of, patch_writes, gathered_all, gathered_quick, gathered}
use Rattle.runs.specs.Law.{InRange}
use Rattle.runs.specs.Reads.{read_answer, read_patch, read_at, read_from, refused_read, read_call}
use Rattle.runs.specs.Runs.{read, scrub, rebuild, World, next, handed, refill_writes, next_shelf, InStripe, Good, Orderly, Starts}
use Rattle.runs.specs.Scrubs.{cursor_at, sweep_writes}
use Rattle.runs.specs.Slots.{rebuild_by, rebuild_writes}
use Rattle.runs.proofs.CodecLaws.{CodecLaws}
use Rattle.runs.proofs.Decisions.{Says, says}
use Rattle.runs.proofs.Goods.{same_block, after_writes, stays_seen, patch_keeps}
use Rattle.runs.proofs.Mends.{alone_exact}
use Rattle.runs.proofs.Puts.{Did, expected, same_when}
use Rattle.runs.proofs.Readings.{call_at}
use Rattle.runs.proofs.Worlds.{view_in, sorted, stripe_lt}

-- the writes of a read: none, or those of the stripe's patch
patch_of_read : (on : Bool) (a : Result ReadAnswer Refusal) (p : Option Patch) → (read_patch on a p ≡ None) ⊎ (read_patch on a p ≡ p)
patch_of_read on (Err e) p = inl refl
patch_of_read true (Ok a) p = inr refl
patch_of_read false (Ok a) p = inl refl

patch_gathered : (E : Setup) (s : ℕ) (V : View) (j : ℕ) → ((gathered E s V j).patch ≡ None) ⊎ ((gathered E s V j).patch ≡ patch_of E s V)
unfolding gathered gathered_all
patch_gathered E s V j = go (cases_Bool (quick (V (Data j)) (V Parity) j))
  where
    go : (quick (V (Data j)) (V Parity) j ≡ true) ⊎ (quick (V (Data j)) (V Parity) j ≡ false)
        → ((gathered E s V j).patch ≡ None) ⊎ ((gathered E s V j).patch ≡ patch_of E s V)
    go (inl t) = inl (ap (λ g. g.patch) (cond-true _ (gathered_quick (V (Data j))) (gathered_all E s V j) t))
    go (inr t) = inr (ap (λ g. g.patch) (cond-false _ (gathered_quick (V (Data j))) (gathered_all E s V j) t))

module _ (E : Setup) (k : Content) (σ : Slots) (t L o : ℕ) (on : Bool) (f b : List ℕ) (fs : List Finding) where
  abbrev V : View
  V = view_of E k σ (L / E.D)

  abbrev written : List Write
  written = (read_call E k σ t L o on f b fs).writes

  abbrev Writes : Type 0
  Writes = (written ≡ []) ⊎ ((L < E.D * E.S) × (written ≡ patch_writes σ (L / E.D) (patch_of E (L / E.D) V)))

  read_at_writes : (L < E.D * E.S) → written ≡ (read_at E k σ t (L / E.D) (L % E.D) o on).writes → Writes
  unfolding read_at
  read_at_writes h e =
      go (patch_of_read on (read_answer (gathered E (L / E.D) V (L % E.D)).obtained (gathered E (L / E.D) V (L % E.D)).looks o)
      (gathered E (L / E.D) V (L % E.D)).patch) (patch_gathered E (L / E.D) V (L % E.D))
    where
      p : Option Patch
      p = read_patch on (read_answer (gathered E (L / E.D) V (L % E.D)).obtained (gathered E (L / E.D) V (L % E.D)).looks o)
          (gathered E (L / E.D) V (L % E.D)).patch

      go : (p ≡ None) ⊎ (p ≡ (gathered E (L / E.D) V (L % E.D)).patch)
          → ((gathered E (L / E.D) V (L % E.D)).patch ≡ None) ⊎ ((gathered E (L / E.D) V (L % E.D)).patch ≡ patch_of E (L / E.D) V) → Writes
      go (inl x) y = inl (e ∙ ap (patch_writes σ (L / E.D)) x)
      go (inr x) (inl y) = inl (e ∙ ap (patch_writes σ (L / E.D)) (x ∙ y))
      go (inr x) (inr y) = inr (h, e ∙ ap (patch_writes σ (L / E.D)) (x ∙ y))

  pub read_writes : Writes
  unfolding read_call
  read_writes = go (cases_Bool (eqb (length f) 128 && eqb (length b) 128)) (cases_lt L (E.D * E.S))
    where
      go : ((eqb (length f) 128 && eqb (length b) 128) ≡ true) ⊎ ((eqb (length f) 128 && eqb (length b) 128) ≡ false)
          → (L < E.D * E.S) ⊎ (E.D * E.S ≤ L) → Writes
      go (inr x) y =
          inl
          (ap (λ z. z.writes)
          (cond-false _ (read_from E k σ t o on f b fs (position_of E.D E.S L)) (refused_read Length t f b fs) x))
      go (inl x) (inl y) =
          let z = and_parts (eqb (length f) 128) (eqb (length b) 128) x in
          read_at_writes y
          (ap (λ z. z.writes) (call_at E k σ t L o on f b fs (eqb-true _ _ z.0) (eqb-true _ _ z.1) y))
      go (inl x) (inr y) =
          inl
          (ap (λ z. z.writes)
          (cond-true _ (read_from E k σ t o on f b fs (position_of E.D E.S L)) (refused_read Length t f b fs) x
          ∙ ap (read_from E k σ t o on f b fs) (cond-false (ltb L (E.D * E.S)) _ (Err Address) (le-ltb L (E.D * E.S) y))))

-- a cursor names a stripe of the array
pub cursor_lt : (n c : ℕ) → 1 ≤ n → cursor_at n c < n
cursor_lt n c h = go (cases_Bool (ltb c n))
  where
    go : (ltb c n ≡ true) ⊎ (ltb c n ≡ false) → cursor_at n c < n
    go (inl t) = subst (λ z. z < n) (sym (cond-true (ltb c n) c 0 t)) (ltb-true c n t)
    go (inr t) = subst (λ z. z < n) (sym (cond-false (ltb c n) c 0 t)) h

module _ (E : Setup) (G : InRange E) (C : CodecLaws E) (w : World) (I : Starts E w) (O : Orderly E w) where
  abbrev B : Book
  B = w.book

  abbrev σ : Slots
  σ = w.array.slots

  abbrev slot : ℕ → Role → ℕ
  slot s r = slot_of E.D s r

  abbrev block : ℕ → Role → List ℕ
  block s r = block_of E B.records s r

  pub read_stays : (L o : ℕ) (on : Bool) (f b : List ℕ) (fs : List Finding) (s : ℕ) (r : Role) → s < E.S → InStripe E r → Good E w s r
      → Did (E.D + 1) E.S w.shelf (handed E w.shelf w.array (read L o on f b fs)) (slot s r)
      → Good E (next E w (read L o on f b fs)) s r
  read_stays L o on f b fs s r a i g did =
      stays_seen E w I (handed E w.shelf w.array (read L o on f b fs)) s r a i g did
      (go (read_writes E (w.shelf []) σ w.array.tally L o on f b fs))
    where
      ws : List Write
      ws = (read_call E (w.shelf []) σ w.array.tally L o on f b fs).writes

      go : (ws ≡ []) ⊎ ((L < E.D * E.S) × (ws ≡ patch_writes σ (L / E.D) (patch_of E (L / E.D) (view_in E w (L / E.D)))))
          → expected ws (slot s r) s (Some (block s r)) ≡ Some (block s r)
      go (inl e) = ap (λ z. expected z (slot s r) s (Some (block s r))) e
      go (inr e) =
          ap (λ z. expected z (slot s r) s (Some (block s r))) e.1
          ∙ patch_keeps E w I C O (L / E.D) (stripe_lt E G L e.0) s r

  pub scrub_stays : (s : ℕ) (r : Role) → s < E.S → InStripe E r → Good E w s r
      → Did (E.D + 1) E.S w.shelf (handed E w.shelf w.array scrub) (slot s r) → Good E (next E w scrub) s r
  unfolding sweep_writes
  scrub_stays s r a i g did =
      stays_seen E w I (handed E w.shelf w.array scrub) s r a i g did
      (patch_keeps E w I C O (cursor_at E.S w.array.cursor) (cursor_lt E.S w.array.cursor G.some) s r)

  -- the write of a rebuild puts the block of the records
  rebuild_keeps : (d n : ℕ) → n < E.S → (s : ℕ) (r : Role)
      → expected (rebuild_writes E (w.shelf []) σ n d) (slot s r) s (Some (block s r)) ≡ Some (block s r)
  unfolding rebuild_writes
  rebuild_keeps d n l s r = go (decision E.D n (view_in E w n)) (says E n (view_in E w n))
    where
      go : (x : Decision) → Says E n (view_in E w n) x
          → expected (rebuild_by E n (view_in E w n) d x) (slot s r) s (Some (block s r)) ≡ Some (block s r)
      go Clean y = refl
      go Lost y = refl
      go (Only q) y = one (cases_Bool (eqb (slot n q) d))
        where
          put : Write
          put = write_of d n (mended E n (view_in E w n) q)

          one : (eqb (slot n q) d ≡ true) ⊎ (eqb (slot n q) d ≡ false)
              → expected (cond (eqb (slot n q) d) (put ∷ []) []) (slot s r) s (Some (block s r)) ≡ Some (block s r)
          one (inl t) =
              same_when (eqb (slot n q) d) put (slot s r) s (block s r)
              (λ c e.
              same_block E B.records n q s r (mended E n (view_in E w n) q)
              (alone_exact E C n l B.records I.fits (view_in E w n) q (sorted E C w I O n l) y)
              (c ∙ sym (eqb-true (slot n q) d t)) e)
          one (inr t) = ap (λ z. expected z (slot s r) s (Some (block s r))) (cond-false (eqb (slot n q) d) (put ∷ []) [] t)

  refill_keeps : (d : ℕ) (x : SlotState) (s : ℕ) (r : Role)
      → expected (refill_writes E (w.shelf []) σ d x) (slot s r) s (Some (block s r)) ≡ Some (block s r)
  refill_keeps d In s r = refl
  refill_keeps d Out s r = refl
  refill_keeps d (Filling n) s r = go (cases_Bool (ltb n E.S))
    where
      go : (ltb n E.S ≡ true) ⊎ (ltb n E.S ≡ false)
          → expected (cond (ltb n E.S) (rebuild_writes E (w.shelf []) σ n d) []) (slot s r) s (Some (block s r)) ≡ Some (block s r)
      go (inl t) =
          ap (λ z. expected z (slot s r) s (Some (block s r))) (cond-true (ltb n E.S) (rebuild_writes E (w.shelf []) σ n d) [] t)
          ∙ rebuild_keeps d n (ltb-true n E.S t) s r
      go (inr t) =
          ap (λ z. expected z (slot s r) s (Some (block s r))) (cond-false (ltb n E.S) (rebuild_writes E (w.shelf []) σ n d) [] t)

  -- the writes of a rebuild leave a good block's place as it is
  pub rebuild_content : (d s : ℕ) (r : Role) → s < E.S → InStripe E r → Good E w s r
      → Did (E.D + 1) E.S w.shelf (handed E w.shelf w.array (rebuild d)) (slot s r)
      → next_shelf E w.shelf w.array (rebuild d) [] (slot s r) s ≡ Some (block s r)
  rebuild_content d s r a i g did =
      after_writes E w I (handed E w.shelf w.array (rebuild d)) s r (block s r) a i g did (go (leb d E.D))
    where
      go : (b : Bool) → expected (cond b (refill_writes E (w.shelf []) σ d (σ d)) []) (slot s r) s (Some (block s r)) ≡ Some (block s r)
      go true = refill_keeps d (σ d) s r
      go false = refl
