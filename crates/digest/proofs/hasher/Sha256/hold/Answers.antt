use Rattle.std.proofs.Common.{arith, rules}
use Rattle.digest.proofs.Absorbing.{absorbs, took_hold}
use Rattle.digest.proofs.hasher.Sha256.hold.Goals as goal

pub returns : goal.returns
returns c =
    let h = c.args.self.now in
    let few = c.args.few.now in
    absorbs h few _ (took_hold h few c.place.new.block (omega arith) (search rules) (rw c.held-held.ensures at c.place.ensures))
