use Rattle.std.proofs.Common.{◌≡◌, [], sym, ap, ◌∙◌, ap₂, arith}
use Rattle.std.proofs.lemmas.Bool.{cond-true, cond-false}
use Rattle.block.specs.Judging.{setup}
use Rattle.shelf.specs.Model.{after_all}
use Rattle.stripe.specs.Findings.{findings_all}
use Rattle.stripe.specs.Judge.{decision}
use Rattle.stripe.specs.View.{slots_in, view_of, stripe_of}
use Rattle.stripe.proofs.OnShelf.{held_view}
use Rattle.runs.specs.Gather.{patch_by, patch_of, patch_writes, patched_slot}
use Rattle.runs.specs.Scrubs.{swept_by, swept_of, sweep_writes, sweep_findings}
use Rattle.scrubbing.proofs.sweeping.sweep_one.Goals.{then-last, else-last}
use Rattle.scrubbing.proofs.sweeping.sweep_one.Goals as goal

pub returns : goal.returns
unfolding swept_of sweep_writes sweep_findings patch_of
returns g c =
    let E = setup c.args.cards.now.frame g.C.Checksum.MARK g.C.Checksum.meaning in
    let σ = slots_in c.args.cards.now.states in
    let s = c.args.s in
    let met = g.met.W.WritableShelf in
    let now = c.args.cards.now.shelf in
    let k = g.W.WritableShelf.conduct now in
    let told : k [] ≡ g.W.ReadableShelf.holds now = met.starts now ∙ met.same now in
    let held : c.look_into.new.stripe ≡ stripe_of (view_of E (k []) σ s) = let v = c.view.ensures in let l = c.look_into.ensures in cc in
    let V = held_view E (k []) σ s _ (omega arith) held in
    let d = c.decide-decision.ensures.is ∙ ap (decision E.D s) V in
    let m = c.apply_patch-mended.ensures in
    let p = c.patch_by-patch.ensures.is ∙ ap₂ (patch_by E s) V d in
    record {
      is =
          c.swept_by.ensures ∙ ap₂ (λ f t. swept_by f.width (slots_in t) s c.decide-decision.result) m.frame m.states
          ∙ ap (swept_by E.D σ s) d;
      wrote = m.wrote ∙ ap (λ x. after_all k (patch_writes σ s x)) p;
      findings = elim c.if-last.branch [
        | then-last w ↦
            w.findings-is ∙ w.findings_all.ensures ∙ ap₂ (findings_all E.D s) V (m.slot ∙ ap (patched_slot σ s) p)
            ∙ sym (cond-true _ _ _ w.if-last.true)
        | else-last w ↦ w.findings-is ∙ sym (cond-false _ _ _ w.if-last.false)
      ];
      frame = m.frame;
      states = m.states;
    }
