use Rattle.std.proofs.Common.{ℕ, List, Some, Option, sym, ap, ◌∙◌, ap₂, arith}
use Rattle.block.specs.Judging.{setup}
use Rattle.stripe.specs.View.{seen_in}
use Rattle.runs.specs.declared.shapes.Patch.{Patch}
use Rattle.runs.specs.Gather.{patch_by}
use Rattle.patches.proofs.patching.patch_by.Goals as goal

pub returns-in-Only : goal.returns-in-Only
returns-in-Only g c =
    let E = setup c.args.frame g.C.Checksum.MARK g.C.Checksum.meaning in
    let V = seen_in c.args.stripe.now in
    let made : ℕ → List ℕ → Option Patch = λ x b. Some (record { slot = x; bytes = b }) in
    record {
      below = omega (arith, c.slot.ensures.below);
      is = ap₂ made c.slot.ensures.is c.mended_block.ensures ∙ ap (patch_by E c.args.s V) (sym c.in-Only.is);
    }
