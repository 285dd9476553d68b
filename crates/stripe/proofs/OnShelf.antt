-- The setup of an array on a shelf, and the mask of a stripe with all slots in. Assumes nothing.
use Rattle.std.proofs.Common.{◌≡◌, ℕ, zero, suc, ◌+◌, ◌-◌, ◌≤◌, List, get_or, replicate, refl, ap, ◌∙◌, ap₂, arith}
use mathlib.Core.Path.{fun_ext}
use Rattle.block.specs.declared.frame.Frame.{Frame}
use Rattle.block.specs.Judging.{Setup, setup}
use Rattle.shelf.specs.Model.{Content}
use Rattle.stripe.specs.declared.shapes.SlotState.TheVariants.{In}
use Rattle.stripe.specs.declared.shapes.Stripe.{Stripe}
use Rattle.stripe.specs.Judge.{mask_number}
use Rattle.stripe.specs.Survey.{setup_on, mask_at}
use Rattle.stripe.specs.View.{Slots, slots_in, all_in, view_of, stripe_of, seen_in}
use Rattle.stripe.proofs.Views.{as_view_lem}

-- the frame of a shelf gives the setup on it
pub setup_on_lem : (f : Frame) (cards blocks mark : ℕ) (sum : List ℕ → ℕ) → f.width + 1 ≡ cards → f.blocks ≡ blocks → setup f mark sum ≡ setup_on cards blocks f.tag mark sum
setup_on_lem f cards blocks mark sum p q =
    let w : f.width ≡ cards - 1 = omega arith in
    ap₂ (λ d n. record { D = d; S = n; tag = f.tag; mark = mark; sum = sum }) w q

in_all : (n c : ℕ) → get_or (replicate n In) c In ≡ In
in_all zero c = refl
in_all (suc n) zero = refl
in_all (suc n) (suc c) = in_all n c

pub slots_in_lem : (n : ℕ) → slots_in (replicate n In) ≡ all_in
slots_in_lem n = fun_ext (in_all n)

-- the view of the stripe that code holds
pub held_view : (E : Setup) (k : Content) (σ : Slots) (s : ℕ) (t : Stripe) → E.D ≤ 7 → t ≡ stripe_of (view_of E k σ s) → seen_in t ≡ view_of E k σ s
held_view E k σ s t w e = ap (λ x. seen_in x) e ∙ as_view_lem E k σ s w

-- its mask with all slots in
pub mask_held : (E : Setup) (k : Content) (σ : Slots) (s : ℕ) (t : Stripe) → E.D ≤ 7 → σ ≡ all_in → t ≡ stripe_of (view_of E k σ s) → mask_number E.D s (seen_in t) ≡ mask_at E k s
mask_held E k σ s t w all e = ap (mask_number E.D s) (held_view E k σ s t w e ∙ ap (λ x. view_of E k x s) all)

-- the setup of a frame that is the shelf's, under a tag
pub setup_under : (f : Frame) (cards blocks tag mark : ℕ) (sum : List ℕ → ℕ) → f.width + 1 ≡ cards → f.blocks ≡ blocks → f.tag ≡ tag
    → setup f mark sum ≡ setup_on cards blocks tag mark sum
setup_under f cards blocks tag mark sum p q e = setup_on_lem f cards blocks mark sum p q ∙ ap (λ t. setup_on cards blocks t mark sum) e
