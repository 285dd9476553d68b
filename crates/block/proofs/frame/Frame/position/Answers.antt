use Rattle.std.proofs.Common.{◌<◌, mod-lt, mul_comm, div-lt_iff_lt-mul, arith, rules}
use Rattle.block.proofs.frame.Frame.position.Goals as goal

pub returns-then-address-self : goal.returns-then-address-self
returns-then-address-self c =
    let h : 0 < c.args.self.width = omega arith in
    record {
      is = search rules;
      within = ((div-lt_iff_lt-mul h).1 (omega (arith, mul_comm c.args.self.width c.args.self.blocks)), mod-lt c.args.address h);
    }
