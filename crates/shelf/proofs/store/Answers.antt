use Rattle.std.proofs.Common.{ap, ◌∙◌, rules}
use Rattle.shelf.specs.Model.{after_all}
use Rattle.shelf.proofs.Steps.{taken}
use Rattle.shelf.proofs.store.Goals as goal

pub returns : goal.returns
returns g c =
    let k = g.W.WritableShelf.conduct c.args.shelf.now in
    record {
      wrote = c.write.ensures.wrote ∙ ap (after_all k) (taken _ _ _ _ c.requires.slot_within c.requires.block_within _ (search rules));
      cards = c.write.ensures.cards;
      blocks = c.write.ensures.blocks;
    }
