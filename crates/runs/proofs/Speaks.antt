-- Orderly runs exist.
use Rattle.std.specs.Prelude.{Some}
use Rattle.std.proofs.Common.{◌≡◌, ℕ, ◌+◌, ◌*◌, ◌/◌, ◌%◌, ◌<◌, Bool, true, false, cond, ◌⊎◌, List, [], ◌∷◌, ◌++◌, length, None, sym, refl, ap, ◌∙◌, subst, inl, inr, append_assoc, append-nil}
use Rattle.std.proofs.lemmas.Bool.{cond-true, cond-false, both_ways}
use Rattle.block.specs.Shapes.{Cell}
use Rattle.block.specs.declared.shapes.Role.{Role}
use Rattle.block.specs.declared.shapes.Role.TheVariants.{Parity, Data}
use Rattle.block.specs.Judging.{Setup}
use Rattle.block.specs.Places.{slot_of, role_at}
use Rattle.runs.proofs.BlockLaws.{block_length}
use Rattle.shelf.specs.Model.{Write, Conduct, AsTold, Faithful, after_all}
use Rattle.stripe.specs.declared.shapes.Finding.{Finding}
use Rattle.stripe.specs.Judge.{bad_role}
use Rattle.stripe.specs.View.{Slots, takes_at}
use Rattle.runs.specs.declared.shapes.Way.{Way}
use Rattle.runs.specs.Book.{Rec, Fits, blank_book, rec_at, data_of, parity_of, block_of}
use Rattle.runs.specs.Gather.{patch_by, patch_of, patch_writes}
use Rattle.runs.specs.Law.{InRange}
use Rattle.runs.specs.Runs.{
  Step,
  read,
  write,
  look,
  scrub,
  rebuild,
  event,
  damage,
  World,
  next,
  handed,
  accepted,
  start,
  step,
  InStripe,
  Good,
  Bad,
  Orderly,
  Proper,
  Starts,
  Run,
  formatted,
}
use Rattle.runs.specs.Scrubs.{cursor_at, sweep_writes}
use Rattle.runs.specs.Witness.{GoodShelf, Quiet, Quietly, still, then, Reached, LawSpeaks}
use Rattle.runs.specs.Writes.{sent, data_write, parity_write}
use Rattle.runs.proofs.Codec.{codec_laws, data_plain, parity_plain}
use Rattle.runs.proofs.CodecLaws.{CodecLaws}
use Rattle.runs.proofs.Decisions.{is_clean}
use Rattle.runs.proofs.Fields.{row_small, owner_small, vers_small}
use Rattle.runs.proofs.Masks.{Sorted, good_parity, fine_clear, poor_set}
use Rattle.runs.proofs.Mending.{read_writes, cursor_lt, read_stays, scrub_stays}
use Rattle.runs.proofs.Outcomes.{Accepted, write_outcome}
use Rattle.runs.proofs.Places.{role_of_slot, slot_in}
use Rattle.runs.proofs.Puts.{Did, expected, expected_++, named, named_not, named_yes}
use Rattle.runs.proofs.Renews.{new_data_lem}
use Rattle.runs.proofs.RunLaw.{blank_fits, lasts}
use Rattle.runs.proofs.Worlds.{view_in, fine_good, poor_bad, fine_or_poor, stripe_lt, good_clear}
use Rattle.runs.proofs.Writing.{f', B', l₀, a₀, O₀, new_rec, parity_good, write_fits, write_stays}

-- A plain memory that holds a formatted array: each place holds what was last written to it.
pub memory : Setup → Conduct
memory E ws c s = expected ws c s (Some (block_of E blank_book.records s (role_at E.D s c)))

pub memory_good : (E : Setup) → GoodShelf E (memory E)
unfolding memory
memory_good E = record {
  own = λ ws w c s _ _ h. last ws w c s ∙ cond-false (named w c s) _ _ (named_not w c s (λ e _. h e));
  faithful = λ ws w _ _ _.
      record {
        there = last ws w w.slot w.block ∙ cond-true (named w w.slot w.block) _ _ (named_yes w w.slot w.block refl refl);
        elsewhere = λ c s _ _ h.
            last ws w c s
            ∙ (cond-false (named w c s) _ _ (named_not w c s (λ x y. h (x, y))) ∙ ap (λ z. expected z c s (first c s)) (sym (append-nil ws)));
      };
  good = λ s r _ _. ap (λ q. Some (block_of E blank_book.records s q)) (role_of_slot E.D s r);
}
  where
    first : ℕ → ℕ → Cell
    first c s = Some (block_of E blank_book.records s (role_at E.D s c))

    last : (us : List Write) (w : Write) (c s : ℕ)
        → expected (us ++ w ∷ []) c s (first c s) ≡ cond (named w c s) (Some w.bytes) (expected us c s (first c s))
    last us w c s = expected_++ us (w ∷ []) c s (first c s)

-- blocks of records have 128 bytes
pub block_long : (E : Setup) → InRange E → (f : ℕ → Rec) → ((L : ℕ) → Fits (f L)) → (s : ℕ) → s < E.S → (r : Role) → InStripe E r
    → length (block_of E f s r) ≡ 128
unfolding data_of parity_of
block_long E G f F s a Parity i =
    block_length E s Parity _ _ _
    (parity_plain E G s _ _ (λ k. (rec_at E f s k).version) a (row_small E (codec_laws E G) s a f F) (owner_small E (codec_laws E G) s a f F)
    (vers_small E (codec_laws E G) s a f F))
block_long E G f F s a (Data j) i = block_length E s (Data j) _ _ _ (data_plain E G s j (rec_at E f s j) a i (F (s * E.D + j)))

-- writes of whole blocks to places of the shelf
abbrev pub Whole : Setup → Write → Type 0
Whole E w = (w.slot < E.D + 1) × (w.block < E.S) × (length w.bytes ≡ 128)

abbrev AllWhole : Setup → List Write → Type 0
AllWhole E [] = Unit {0}
AllWhole E (w ∷ ws) = Whole E w × AllWhole E ws

whole_sent : (E : Setup) (σ : Slots) (w : Write) (vs : List Write) → Whole E w → AllWhole E vs → AllWhole E (sent σ w ++ vs)
whole_sent E σ w vs h r = go (takes_at (σ w.slot) w.block)
  where
    go : (t : Bool) → AllWhole E (cond t (w ∷ []) [] ++ vs)
    go true = (h, r)
    go false = r

-- a faithful shelf stays one, and does such writes as told
pub faithful_after : (N S : ℕ) (m : Conduct) (us : List Write) → Faithful N S m → Faithful N S (after_all m us)
faithful_after N S m us h ws w a b c =
    subst (λ (k : Conduct). AsTold N S k w) (λ i vs x y. m (append_assoc us ws vs i) x y) (h (us ++ ws) w a b c)

did_whole : (E : Setup) (ws : List Write) (m : Conduct) → Faithful (E.D + 1) E.S m → AllWhole E ws → (c : ℕ) → Did (E.D + 1) E.S m ws c
did_whole E [] m h a c = tt
did_whole E (w ∷ ws) m h a c = (
  λ _. h [] w a.0.0 a.0.1 a.0.2,
  did_whole E ws (after_all m (w ∷ [])) (faithful_after (E.D + 1) E.S m (w ∷ []) h) a.1 c,
)

abbrev pub AllGood : Setup → World → Type 0
AllGood E w = (s : ℕ) (r : Role) → s < E.S → InStripe E r → Good E w s r

-- a world is orderly where all parity is good and each data block is good or bad
pub orderly_beside : (E : Setup) → CodecLaws E → (w : World) → Starts E w → ((s : ℕ) → s < E.S → Good E w s Parity)
    → ((s j : ℕ) → s < E.S → j < E.D → Good E w s (Data j) ⊎ Bad E w s (Data j)) → Orderly E w
orderly_beside E C w I p h = record { each = each; apart = apart }
  where
    each : (s : ℕ) (r : Role) → s < E.S → InStripe E r → Good E w s r ⊎ Bad E w s r
    each s Parity a i = inl (p s a)
    each s (Data j) a i = h s j a i

    sorts : (s : ℕ) → s < E.S → Sorted E s w.book.records (view_in E w s)
    sorts s a = good_parity (fine_good E C w I s Parity a tt (p s a)) (λ j l. fine_or_poor E C w I s (Data j) a l (h s j a l))

    apart : (s j : ℕ) → s < E.S → j < E.D → Bad E w s Parity → Bad E w s (Data j) → ⊥
    apart s j a l b _ =
        both_ways (bad_role E.D (view_in E w s) Parity)
        (fine_clear E C s a w.book.records I.fits (view_in E w s) Parity tt (sorts s a) (fine_good E C w I s Parity a tt (p s a)))
        (poor_set E C s a w.book.records I.fits (view_in E w s) Parity tt (sorts s a) (poor_bad E C w I s Parity tt b))

pub all_orderly : (E : Setup) → CodecLaws E → (w : World) → Starts E w → AllGood E w → Orderly E w
all_orderly E C w I h = orderly_beside E C w I (λ s a. h s Parity a tt) (λ s j a l. inl (h s (Data j) a l))

module _ (E : Setup) (G : InRange E) (C : CodecLaws E) (w : World) (I : Starts E w) (O : Orderly E w) (h : AllGood E w) where
  -- where every block is good there is nothing to mend
  no_patch : (t : ℕ) → t < E.S → patch_of E t (view_in E w t) ≡ None
  unfolding patch_of
  no_patch t a = ap (patch_by E t (view_in E w t)) (is_clean E t (view_in E w t) (λ r i. good_clear E C w I O t a r i (h t r a i)))

  whole_patch : (t : ℕ) → t < E.S → (ws : List Write) → ws ≡ patch_writes w.array.slots t (patch_of E t (view_in E w t)) → AllWhole E ws
  whole_patch t a ws e = subst (AllWhole E) (sym (e ∙ ap (patch_writes w.array.slots t) (no_patch t a))) tt

  -- the writes of an accepted write are whole blocks
  module _ (L : ℕ) (p : List ℕ) (o : ℕ) (y : Way) (fs : List Finding) (q : Proper E (write L p o y fs))
      (t : accepted E w.shelf w.array (write L p o y fs) ≡ true)
      (W : Accepted E (view_in E w (L / E.D)) w.array.slots L p o y (handed E w.shelf w.array (write L p o y fs))) where
    new_fits : (K : ℕ) → Fits (f' E G C w I O L p o y fs K)
    new_fits K =
        subst (λ z. Fits ((B' E G C w I O L p o y fs z).records K)) t (write_fits E G C w I O L p o y fs q.0 q.1 K)

    new_long : (r : Role) → InStripe E r → length (block_of E (f' E G C w I O L p o y fs) (L / E.D) r) ≡ 128
    new_long = block_long E G (f' E G C w I O L p o y fs) new_fits (L / E.D) (a₀ E G C w I O L p o y fs W)

    pub whole_data : Whole E (data_write E (L / E.D) (view_in E w (L / E.D)) (L % E.D) p o)
    whole_data = (
      slot_in E (L / E.D) (Data (L % E.D)) (l₀ E G C w I O L p o y fs),
      a₀ E G C w I O L p o y fs W,
      ap length
          (new_data_lem E C (L / E.D) (a₀ E G C w I O L p o y fs W) w.book.records I.fits (view_in E w (L / E.D)) (L % E.D)
          (l₀ E G C w I O L p o y fs) (O₀ E G C w I O L p o y fs W) (rec_at E (f' E G C w I O L p o y fs) (L / E.D)) p o
          (new_rec E G C w I O L p o y fs))
          ∙ new_long (Data (L % E.D)) (l₀ E G C w I O L p o y fs),
    )

    pub whole_parity : Whole E (parity_write E (L / E.D) (view_in E w (L / E.D)) (L % E.D) y p o)
    whole_parity = (
      slot_in E (L / E.D) Parity tt,
      a₀ E G C w I O L p o y fs W,
      ap length (parity_good E G C w I O L p o y fs W (h (L / E.D) Parity (a₀ E G C w I O L p o y fs W) tt)) ∙ new_long Parity tt,
    )

    whole_pair : AllWhole E (handed E w.shelf w.array (write L p o y fs))
    whole_pair =
        subst (AllWhole E) (sym W.pair)
        (whole_sent E w.array.slots _ _ whole_data
        (subst (AllWhole E) (append-nil _) (whole_sent E w.array.slots _ [] whole_parity tt)))

  whole_handed : (k : Step) → Quiet E k → AllWhole E (handed E w.shelf w.array k)
  unfolding sweep_writes
  whole_handed (read L o on f b fs) q = go (read_writes E (w.shelf []) w.array.slots w.array.tally L o on f b fs)
    where
      ws : List Write
      ws = handed E w.shelf w.array (read L o on f b fs)

      go : (ws ≡ []) ⊎ ((L < E.D * E.S) × (ws ≡ patch_writes w.array.slots (L / E.D) (patch_of E (L / E.D) (view_in E w (L / E.D)))))
          → AllWhole E ws
      go (inl e) = subst (AllWhole E) (sym e) tt
      go (inr e) = whole_patch (L / E.D) (stripe_lt E G L e.0) ws e.1
  whole_handed (write L p o y fs) q = go (write_outcome E (w.shelf []) w.array.slots L p o y fs)
    where
      ws : List Write
      ws = handed E w.shelf w.array (write L p o y fs)

      X : Bool
      X = accepted E w.shelf w.array (write L p o y fs)

      go : ((X ≡ false) × (ws ≡ [])) ⊎ ((X ≡ true) × Accepted E (view_in E w (L / E.D)) w.array.slots L p o y ws) → AllWhole E ws
      go (inl e) = subst (AllWhole E) (sym e.1) tt
      go (inr e) = whole_pair L p o y fs q e.0 e.1
  whole_handed (look L n o out) q = tt
  whole_handed scrub q = whole_patch (cursor_at E.S w.array.cursor) (cursor_lt E.S w.array.cursor G.some) _ refl
  whole_handed (rebuild c) q = absurd q
  whole_handed (event c e) q = absurd q
  whole_handed (damage m) q = absurd q

  -- a quiet step keeps every block good
  good_next : (k : Step) → Quiet E k → Faithful (E.D + 1) E.S w.shelf → AllGood E (next E w k)
  good_next (read L o on f b fs) q t s r a i =
      read_stays E G C w I O L o on f b fs s r a i (h s r a i)
      (did_whole E _ w.shelf t (whole_handed (read L o on f b fs) q) (slot_of E.D s r))
  good_next (write L p o y fs) q t s r a i =
      write_stays E G C w I O L p o y fs s r a i (h s r a i)
      (did_whole E _ w.shelf t (whole_handed (write L p o y fs) q) (slot_of E.D s r))
  good_next (look L n o out) q t s r a i = h s r a i
  good_next scrub q t s r a i =
      scrub_stays E G C w I O s r a i (h s r a i) (did_whole E _ w.shelf t (whole_handed scrub q) (slot_of E.D s r))
  good_next (rebuild c) q t s r a i = absurd q
  good_next (event c e) q t s r a i = absurd q
  good_next (damage m) q t s r a i = absurd q

  faithful_next : (k : Step) → Quiet E k → Faithful (E.D + 1) E.S w.shelf → Faithful (E.D + 1) E.S (next E w k).shelf
  faithful_next (read L o on f b fs) q t = faithful_after (E.D + 1) E.S w.shelf (handed E w.shelf w.array (read L o on f b fs)) t
  faithful_next (write L p o y fs) q t = faithful_after (E.D + 1) E.S w.shelf (handed E w.shelf w.array (write L p o y fs)) t
  faithful_next (look L n o out) q t = t
  faithful_next scrub q t = faithful_after (E.D + 1) E.S w.shelf (handed E w.shelf w.array scrub) t
  faithful_next (rebuild c) q t = absurd q
  faithful_next (event c e) q t = absurd q
  faithful_next (damage m) q t = absurd q

quiet_proper : (E : Setup) (k : Step) → Quiet E k → Proper E k
quiet_proper E (read L o on f b fs) q = tt
quiet_proper E (write L p o y fs) q = q
quiet_proper E (look L n o out) q = tt
quiet_proper E scrub q = tt
quiet_proper E (rebuild c) q = tt
quiet_proper E (event c e) q = tt
quiet_proper E (damage m) q = absurd q

-- the world of a formatted array over a good shelf
pub formatted_starts : (E : Setup) (m : Conduct) → GoodShelf E m → Starts E (formatted m)
formatted_starts E m g = record { lawful = g.own; same = λ c. refl; fits = blank_fits }

record Calm (E : Setup) (m : Conduct) (w : World) : Type 0 where
  run : Run E (formatted m) w
  good : AllGood E w
  faithful : Faithful (E.D + 1) E.S w.shelf

module _ (E : Setup) (G : InRange E) (C : CodecLaws E) (m : Conduct) (g : GoodShelf E m) where
  starts : (w : World) → Calm E m w → Starts E w
  starts w c = lasts E G C (formatted m) (formatted_starts E m g) w c.run

  orderly : (w : World) → Calm E m w → Orderly E w
  orderly w c = all_orderly E C w (starts w c) c.good

  calm : (w : World) → Quietly E m w → Calm E m w
  calm w still = record { run = start; good = g.good; faithful = g.faithful }
  calm w (then v k z q) = go (calm v z)
    where
      go : Calm E m v → Calm E m (next E v k)
      go c = record {
        run = step v k c.run (orderly v c) (quiet_proper E k q);
        good = good_next E G C v (starts v c) (orderly v c) c.good k q c.faithful;
        faithful = faithful_next E G C v (starts v c) (orderly v c) c.good k q c.faithful;
      }

  pub reached : (w : World) → Quietly E m w → Reached E m w
  reached w q = record { run = (calm w q).run; orderly = orderly w (calm w q); good = (calm w q).good }

pub law_speaks : LawSpeaks
law_speaks E G = ((memory E, memory_good E), reached E G (codec_laws E G))
