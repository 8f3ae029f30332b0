use Rattle.coin.specs.Members.{someone}
use Rattle.coin.proofs.drawn_list.DrawnListCoin.elect.Goals as goal

pub member_of-requires : goal.member_of-requires
member_of-requires c = someone c.args.n c.greatest_value.result c.args.shares.now c.in_ok-examine.ensures
