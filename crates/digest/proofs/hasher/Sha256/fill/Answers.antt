use Rattle.std.proofs.Common.{arith, rules}
use Rattle.digest.proofs.Absorbing.{absorbs, took_fill}
use Rattle.digest.proofs.hasher.Sha256.fill.Goals as goal

pub returns : goal.returns
returns c =
    let h = c.args.self.now in
    let part = c.args.part.now in
    record {
      absorbs =
          absorbs h part _
          (took_fill h part c.place.new.block c.compress.new.state (omega arith) (search rules) (rw c.held-held.ensures at c.place.ensures) c.compress.ensures);
      whole = omega arith;
    }
