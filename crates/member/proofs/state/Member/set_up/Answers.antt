use Rattle.std.proofs.Common.{◌≡◌, ℕ, true, length, Ok, sym, ◌∙◌, rules}
use Rattle.member.specs.declared.sizes.Lengths.{Lengths}
use Rattle.member.specs.declared.state.Member.{Member}
use Rattle.member.specs.Memories.{lengths_in_mut}
use Rattle.member.specs.SetUp.{site, fresh, set_up}
use Rattle.member.specs.Sizes.{sized}
use Rattle.member.proofs.state.Member.set_up.Goals as goal

made : (own n : ℕ) (k l : Lengths) (m : Member) → k ≡ l → true ≡ sized (site own n k.table) k → m ≡ fresh (site own n k.table) → Ok m ≡ set_up own n l
made own n k l m same fits is = cc

pub returns-clause-answer : goal.returns-clause-answer
returns-clause-answer c =
    made c.args.own c.args.n c.lengths-lengths.result (lengths_in_mut c.args.memory.now (length c.args.out.now)) c.fresh.result (search rules) (sym c.if-not-fit.false ∙ c.fit.ensures.answer) c.fresh.ensures
