-- The reads of a stretch, one after the other. Assumes nothing.
use Rattle.std.proofs.Common.{◌≡◌, ℕ, suc, ◌+◌, ◌-◌, ◌*◌, ◌<◌, ◌≤◌, List, [], ◌++◌, length, take, replicate, Some, None, Ok, Err, Option, Result, sym, ap, ◌∙◌, ap₂, append_assoc, append-nil, arith, take_all}
use Rattle.block.specs.declared.refusal.Refusal.{Refusal}
use Rattle.block.specs.Judging.{Setup}
use Rattle.shelf.specs.Model.{Content}
use Rattle.stripe.specs.View.{Slots}
use Rattle.runs.specs.declared.shapes.ReadAnswer.{ReadAnswer}
use Rattle.runs.specs.Looks.{Seen, one_more, look_read, look_step, look_from}
use Rattle.runs.specs.Reads.{shown_from}
use Rattle.reading.specs.declared.shapes.Settled.{Settled}
use Rattle.reading.specs.Stretches.{settled_in, seen_as, preceded}

-- a step by what was read
step_ok : (y x : Settled) (a : ReadAnswer) (m : ℕ) (rest : ℕ → Seen) → y ≡ x → y.answer ≡ Ok a
    → look_step x.answer x.found x.rebuilt m x.tally (rest x.tally) ≡ one_more (shown_from a.source y.found y.rebuilt) (rest y.tally)
step_ok y x a m rest ey ea =
    ap (λ (z : Settled). look_step z.answer z.found z.rebuilt m z.tally (rest z.tally)) (sym ey)
    ∙ ap (λ (r : Result ReadAnswer Refusal). look_step r y.found y.rebuilt m y.tally (rest y.tally)) ea

-- a stop before m more
abbrev stop_at : Refusal → ℕ → ℕ → Seen
stop_at e m t = record { read = 0; stopped = Some e; bytes = replicate (80 * suc m) 0; tally = t }

step_err : (y x : Settled) (e : Refusal) (m : ℕ) (rest : ℕ → Seen) → y ≡ x → y.answer ≡ Err e
    → look_step x.answer x.found x.rebuilt m x.tally (rest x.tally) ≡ stop_at e m y.tally
step_err y x e m rest ey ea =
    ap (λ (z : Settled). look_step z.answer z.found z.rebuilt m z.tally (rest z.tally)) (sym ey)
    ∙ ap (λ (r : Result ReadAnswer Refusal). look_step r y.found y.rebuilt m y.tally (rest y.tally)) ea

abbrev seen : Option Refusal → ℕ → ℕ → List ℕ → Seen
seen e t n b = record { read = n; stopped = e; bytes = b; tally = t }

-- one block more at the end of what precedes
joined : (bs b : List ℕ) (i : ℕ) (x : Seen) → preceded bs i (one_more b x) ≡ preceded (bs ++ b) (i + 1) x
joined bs b i x =
    let r : i + suc x.read ≡ i + 1 + x.read = omega arith in
    ap₂ (seen x.stopped x.tally) r (sym (append_assoc bs b x.bytes))

module _ (E : Setup) (k : Content) (σ : Slots) (o : ℕ) where
  -- i of n blocks from address L on were read into the front of the buffer, the tally rose from t₀ to t
  abbrev pub SoFar : ℕ → ℕ → ℕ → ℕ → List ℕ → ℕ → Type 0
  SoFar n L t₀ i out t =
      look_from E k σ o n L t₀ ≡ preceded (take (80 * i) out) i (look_from E k σ o (n - i) (L + i) t)

  pub so_far_none : (n L t : ℕ) (out : List ℕ) → SoFar n L t 0 out t
  so_far_none n L t out =
      let x = look_from E k σ o n L t in
      let r : x.read ≡ 0 + x.read = omega arith in
      let p : n ≡ n - 0 = omega arith in
      let q : L ≡ L + 0 = omega arith in
      ap (λ a. seen x.stopped x.tally a x.bytes) r ∙ ap₂ (λ a b. preceded [] 0 (look_from E k σ o a b t)) p q

  -- what is left, with one more to read
  left_more : (n L t₀ i : ℕ) (out : List ℕ) (t : ℕ) → i < n → SoFar n L t₀ i out t
      → look_from E k σ o n L t₀ ≡ preceded (take (80 * i) out) i (look_from E k σ o (suc (n - (i + 1))) (L + i) t)
  left_more n L t₀ i out t l s =
      let p : n - i ≡ suc (n - (i + 1)) = omega arith in
      s ∙ ap (λ z. preceded (take (80 * i) out) i (look_from E k σ o z (L + i) t)) p

  pub so_far_more : (n L t₀ i : ℕ) (out out' : List ℕ) (t : ℕ) (y : Settled) (a : ReadAnswer) → i < n → SoFar n L t₀ i out t
      → y ≡ settled_in (look_read E k σ o t (L + i)) → y.answer ≡ Ok a
      → take (80 * i + 80) out' ≡ take (80 * i) out ++ shown_from a.source y.found y.rebuilt → SoFar n L t₀ (i + 1) out' y.tally
  unfolding look_from
  so_far_more n L t₀ i out out' t y a l s ey ea et =
      let m = n - (i + 1) in
      let bs = take (80 * i) out in
      let b = shown_from a.source y.found y.rebuilt in
      let p : 80 * i + 80 ≡ 80 * (i + 1) = omega arith in
      let q : L + i + 1 ≡ L + (i + 1) = omega arith in
      left_more n L t₀ i out t l s
      ∙ ap (preceded bs i) (step_ok y (settled_in (look_read E k σ o t (L + i))) a m (λ z. look_from E k σ o m (L + i + 1) z) ey ea)
      ∙ joined bs b i (look_from E k σ o m (L + i + 1) y.tally)
      ∙ ap₂ (λ x z. preceded x (i + 1) (look_from E k σ o m z y.tally)) (sym et ∙ ap (λ z. take z out') p) q

  pub so_far_all : (n L t₀ i : ℕ) (out : List ℕ) (t : ℕ) → i ≡ n → length out ≡ 80 * n → SoFar n L t₀ i out t
      → seen_as (record { read = n; stopped = None }) out t ≡ look_from E k σ o n L t₀
  unfolding look_from
  so_far_all n L t₀ i out t e h s =
      let p : n - i ≡ 0 = omega arith in
      let q : i + 0 ≡ n = omega arith in
      let r : length out ≤ 80 * i = omega arith in
      sym (s ∙ ap (λ z. preceded (take (80 * i) out) i (look_from E k σ o z (L + i) t)) p
      ∙ ap₂ (seen None t) q (append-nil (take (80 * i) out) ∙ take_all (80 * i) out r))

  pub so_far_stop : (n L t₀ i : ℕ) (out out' : List ℕ) (t : ℕ) (y : Settled) (e : Refusal) → i < n → length out ≡ 80 * n
      → SoFar n L t₀ i out t → y ≡ settled_in (look_read E k σ o t (L + i)) → y.answer ≡ Err e
      → out' ≡ take (80 * i) out ++ replicate (length out - 80 * i) 0
      → seen_as (record { read = i; stopped = Some e }) out' y.tally ≡ look_from E k σ o n L t₀
  unfolding look_from
  so_far_stop n L t₀ i out out' t y e l h s ey ea eo =
      let m = n - (i + 1) in
      let bs = take (80 * i) out in
      let p : i + 0 ≡ i = omega arith in
      let q : 80 * suc m ≡ length out - 80 * i = omega arith in
      sym (left_more n L t₀ i out t l s
      ∙ ap (preceded bs i) (step_err y (settled_in (look_read E k σ o t (L + i))) e m (λ z. look_from E k σ o m (L + i + 1) z) ey ea)
      ∙ ap₂ (seen (Some e) y.tally) p (ap (λ z. bs ++ replicate z 0) q ∙ sym eo))
