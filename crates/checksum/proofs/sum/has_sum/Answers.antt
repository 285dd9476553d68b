use Rattle.std.proofs.Common.{eqb, take, sym, ap, ◌∙◌, ne_eqb}
use Rattle.checksum.specs.Rows.{Row}
use Rattle.checksum.specs.RowLaws.{front_row}
use Rattle.checksum.proofs.sum.has_sum.Goals as goal

pub returns : goal.returns
returns g c =
    let is : Row (take 124 c.args.block.now) = front_row c.args.block.now c.told-block c.fits-block in
    record {
      is = ap (eqb c.args.sum) c.sum.ensures;
      shows = λ was r o e. ne_eqb _ _ (λ z. g.met.C.Checksum.tells was (take 124 c.args.block.now) r is o (sym e ∙ z ∙ c.sum.ensures));
    }
