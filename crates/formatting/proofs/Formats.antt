-- One more place, and one more card, of a format; and the law of what it hands over.
use Rattle.std.proofs.Common.{◌≡◌, ℕ, suc, ◌+◌, ◌-◌, ◌^◌, ◌<◌, ◌≤◌, List, [], ◌∷◌, ◌++◌, sym, refl, ap, ◌∙◌, subst, append_assoc, add-one, arith}
use mathlib.Core.Path.{fun_ext}
use Rattle.std.proofs.lemmas.List.FromFn.{map-range_with_len_more}
use Rattle.block.specs.Judging.{Setup}
use Rattle.checksum.specs.Rows.{Row, OneApart}
use Rattle.shelf.specs.Model.{Conduct, OwnCard, Write, after_all}
use Rattle.stripe.specs.Survey.{setup_on}
use Rattle.runs.specs.Formats.{fresh_write, card_writes, format_slots}
use Rattle.runs.specs.Law.{InRange, FormatLaw}
use Rattle.runs.proofs.Codec.{codec_laws}
use Rattle.runs.proofs.RunLaw.{format_law}

-- writes after writes
pub after_more : (k₀ k k' : Conduct) (vs us : List Write) → k ≡ after_all k₀ vs → k' ≡ after_all k us → k' ≡ after_all k₀ (vs ++ us)
after_more k₀ k k' vs us e d = d ∙ ap (λ x. after_all x us) e ∙ fun_ext (λ ws. ap k₀ (sym (append_assoc vs us ws)))

pub card_none : (E : Setup) (c : ℕ) → card_writes E c 0 ≡ []
unfolding card_writes
card_none E c = refl

pub card_more : (E : Setup) (c n : ℕ) → card_writes E c (n + 1) ≡ card_writes E c n ++ fresh_write E c n ∷ []
unfolding card_writes
card_more E c n = map-range_with_len_more (fresh_write E c) 0 n n (omega arith)

pub format_none : (E : Setup) → format_slots E 0 ≡ []
unfolding format_slots
format_none E = refl

slots_more : (E : Setup) (n : ℕ) → format_slots E (suc n) ≡ format_slots E n ++ card_writes E n E.S
unfolding format_slots
slots_more E n = refl

pub format_more : (E : Setup) (n : ℕ) → format_slots E (n + 1) ≡ format_slots E n ++ card_writes E n E.S
format_more E n = ap (format_slots E) (add-one n) ∙ slots_more E n

-- the law of the runs that follow a format, from what a shelf and a checksum promise
pub law_on : (cards blocks tag mark : ℕ) (sum : List ℕ → ℕ) (k : Conduct) → 3 ≤ cards → cards ≤ 8 → 1 ≤ blocks → blocks ≤ 65536 → tag < 2 ^ 32 → mark < 256
    → ((bs : List ℕ) → Row bs → sum bs < 2 ^ 32) → ((xs ys : List ℕ) → Row xs → Row ys → OneApart xs ys → sum xs ≡ sum ys → ⊥)
    → OwnCard cards blocks k → FormatLaw (setup_on cards blocks tag mark sum) k
law_on cards blocks tag mark sum k a b c d t m narrow tells own =
    let E = setup_on cards blocks tag mark sum in
    let G : InRange E = record {
      wide = omega arith;
      slim = omega arith;
      some = c;
      many = d;
      marked = m;
      tagged = t;
      summed = record { narrow = narrow; tells = tells };
    } in
    let e : cards ≡ cards - 1 + 1 = omega arith in
    format_law E G (codec_laws E G) k (subst (λ n. OwnCard n blocks k) e own)
