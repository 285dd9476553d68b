-- What the places of a card hold after a list of writes, if the card does as told those that name it.
use Rattle.std.specs.Prelude.{Some, None}
use Rattle.std.proofs.Common.{◌≡◌, ℕ, ◌<◌, Bool, true, false, cond, ◌&&◌, eqb, ◌⊎◌, List, [], ◌∷◌, ◌++◌, sym, refl, ap, ◌∙◌, ap₂, inl, inr, append_assoc, append-nil}
use Rattle.std.proofs.lemmas.Bool.{eq-eqb, ne_eqb, cases_eq, cond-true, cond-false, and_from, and_left, and_right}
use Rattle.block.specs.Shapes.{Cell}
use Rattle.shelf.specs.Model.{Write, Conduct, OwnCard, AsTold, after_all}
use Rattle.stripe.specs.declared.shapes.SlotState.{SlotState}
use Rattle.stripe.specs.View.{Slots, takes_at, seen_at}
use Rattle.runs.specs.Writes.{sent}

-- card c does as told each of the writes that name it
abbrev pub Did : ℕ → ℕ → Conduct → List Write → ℕ → Type 0
Did n s m [] c = Unit {0}
Did n s m (w ∷ ws) c = (w.slot ≡ c → AsTold n s m w) × Did n s (after_all m (w ∷ [])) ws c

abbrev pub named : Write → ℕ → ℕ → Bool
named w c s = eqb c w.slot && eqb s w.block

-- what a place should hold after the writes, if it held x
abbrev pub expected : List Write → ℕ → ℕ → Cell → Cell
expected [] c s x = x
expected (w ∷ ws) c s x = expected ws c s (cond (named w c s) (Some w.bytes) x)

pub named_not : (w : Write) (c s : ℕ) → (c ≡ w.slot → s ≡ w.block → ⊥) → named w c s ≡ false
named_not w c s h = go (cases_eq c w.slot) (cases_eq s w.block)
  where
    go : (c ≡ w.slot) ⊎ (c ≡ w.slot → ⊥) → (s ≡ w.block) ⊎ (s ≡ w.block → ⊥) → named w c s ≡ false
    go (inl a) (inl b) = absurd (h a b)
    go (inl a) (inr b) = and_right (eqb c w.slot) (eqb s w.block) (ne_eqb s w.block b)
    go (inr a) o = and_left (eqb c w.slot) (eqb s w.block) (ne_eqb c w.slot a)

pub named_yes : (w : Write) (c s : ℕ) → c ≡ w.slot → s ≡ w.block → named w c s ≡ true
named_yes w c s a b = and_from (eqb c w.slot) (eqb s w.block) (eq-eqb c w.slot a) (eq-eqb s w.block b)

one_write : (N S : ℕ) (m : Conduct) → OwnCard N S m → (w : Write) (c s : ℕ) → c < N → s < S → (w.slot ≡ c → AsTold N S m w)
    → m (w ∷ []) c s ≡ cond (named w c s) (Some w.bytes) (m [] c s)
one_write N S m law w c s cN sS did = go (cases_eq c w.slot) (cases_eq s w.block)
  where
    go : (c ≡ w.slot) ⊎ (c ≡ w.slot → ⊥) → (s ≡ w.block) ⊎ (s ≡ w.block → ⊥)
        → m (w ∷ []) c s ≡ cond (named w c s) (Some w.bytes) (m [] c s)
    go (inl a) (inl b) =
        ap₂ (λ x y. m (w ∷ []) x y) a b
        ∙ ((did (sym a)).there ∙ sym (cond-true (named w c s) (Some w.bytes) (m [] c s) (named_yes w c s a b)))
    go (inl a) (inr b) =
        (did (sym a)).elsewhere c s cN sS (λ h. b h.1)
        ∙ sym (cond-false (named w c s) (Some w.bytes) (m [] c s) (named_not w c s (λ _. b)))
    go (inr a) o =
        law [] w c s cN sS a ∙ sym (cond-false (named w c s) (Some w.bytes) (m [] c s) (named_not w c s (λ x _. a x)))

-- a shelf stays a shelf
pub lawful_after : (N S : ℕ) (m : Conduct) (ws : List Write) → OwnCard N S m → OwnCard N S (after_all m ws)
lawful_after N S m ws law vs w c s cN sS h =
    ap (λ z. m z c s) (sym (append_assoc ws vs (w ∷ []))) ∙ law (ws ++ vs) w c s cN sS h

settles : (N S : ℕ) (ws : List Write) (m : Conduct) → OwnCard N S m → (c s : ℕ) → c < N → s < S → Did N S m ws c
    → m ws c s ≡ expected ws c s (m [] c s)
settles N S [] m law c s cN sS did = refl
settles N S (w ∷ ws) m law c s cN sS did =
    settles N S ws (after_all m (w ∷ [])) (lawful_after N S m (w ∷ []) law) c s cN sS did.1
    ∙ ap (expected ws c s) (one_write N S m law w c s cN sS did.0)

-- a place after writes that its card did as told
pub settled : (N S : ℕ) (ws : List Write) (m : Conduct) → OwnCard N S m → (c s : ℕ) → c < N → s < S → Did N S m ws c
    → after_all m ws [] c s ≡ expected ws c s (m [] c s)
settled N S ws m law c s cN sS did = ap (λ z. m z c s) (append-nil ws) ∙ settles N S ws m law c s cN sS did

pub expected_++ : (us vs : List Write) (c s : ℕ) (x : Cell) → expected (us ++ vs) c s x ≡ expected vs c s (expected us c s x)
expected_++ [] vs c s x = refl
expected_++ (u ∷ us) vs c s x = expected_++ us vs c s (cond (named u c s) (Some u.bytes) x)

-- a write that goes elsewhere
pub sent_other : (σ : Slots) (w : Write) (c s : ℕ) (x : Cell) → (c ≡ w.slot → s ≡ w.block → ⊥) → expected (sent σ w) c s x ≡ x
sent_other σ w c s x h = go (takes_at (σ w.slot) w.block)
  where
    go : (t : Bool) → expected (cond t (w ∷ []) []) c s x ≡ x
    go true = cond-false (named w c s) (Some w.bytes) x (named_not w c s h)
    go false = refl

-- a write that goes to the place
pub sent_here : (σ : Slots) (w : Write) (c s : ℕ) (x : Cell) → c ≡ w.slot → s ≡ w.block → takes_at (σ c) s ≡ true
    → expected (sent σ w) c s x ≡ Some w.bytes
sent_here σ w c s x a b t =
    ap (λ z. expected z c s x)
    (cond-true (takes_at (σ w.slot) w.block) (w ∷ []) [] (ap₂ (λ p q. takes_at (σ p) q) (sym a) (sym b) ∙ t))
    ∙ cond-true (named w c s) (Some w.bytes) x (named_yes w c s a b)

-- a write that puts there what is there already
pub same_put : (w : Write) (c s : ℕ) (b : List ℕ) → (c ≡ w.slot → s ≡ w.block → w.bytes ≡ b)
    → expected (w ∷ []) c s (Some b) ≡ Some b
same_put w c s b h = go (cases_eq c w.slot) (cases_eq s w.block)
  where
    go : (c ≡ w.slot) ⊎ (c ≡ w.slot → ⊥) → (s ≡ w.block) ⊎ (s ≡ w.block → ⊥)
        → cond (named w c s) (Some w.bytes) (Some b) ≡ Some b
    go (inl x) (inl y) = cond-true (named w c s) (Some w.bytes) (Some b) (named_yes w c s x y) ∙ ap Some (h x y)
    go (inl x) (inr y) = cond-false (named w c s) (Some w.bytes) (Some b) (named_not w c s (λ _. y))
    go (inr x) o = cond-false (named w c s) (Some w.bytes) (Some b) (named_not w c s (λ z _. x z))

pub same_when : (t : Bool) (w : Write) (c s : ℕ) (b : List ℕ) → (c ≡ w.slot → s ≡ w.block → w.bytes ≡ b)
    → expected (cond t (w ∷ []) []) c s (Some b) ≡ Some b
same_when true w c s b h = same_put w c s b h
same_when false w c s b h = refl

-- what is seen of a place
pub seen_bytes : (x : Cell) (t : SlotState) (s : ℕ) (b : List ℕ) → seen_at x t s ≡ Some b → (takes_at t s ≡ true) × (x ≡ Some b)
seen_bytes x t s b e = go (takes_at t s) e
  where
    go : (y : Bool) → cond y x None ≡ Some b → (y ≡ true) × (x ≡ Some b)
    go true h = (refl, h)
    go false h = cc

pub bytes_seen : (x : Cell) (t : SlotState) (s : ℕ) (b : List ℕ) → takes_at t s ≡ true → x ≡ Some b → seen_at x t s ≡ Some b
bytes_seen x t s b h e = cond-true (takes_at t s) x None h ∙ e
