use Rattle.std.proofs.Common.{◌≡◌, List, [], ◌∷◌, refl, ◌∙◌, slice_index_or, rules}
use Rattle.std.specs.List.{fold}
use Rattle.coin.specs.declared.shares.Share.{Share}
use Rattle.coin.specs.Shares.{nobody}
use Rattle.coin.specs.Drawing.{lower, lowest}
use Rattle.coin.proofs.drawn_list.lowest_of.Goals as goal

fold-lower : (s : Share) (ss : List Share) → fold lower s ss ≡ lowest s ss
fold-lower s [] = refl
fold-lower s (t ∷ ts) = fold-lower (lower s t) ts

pub returns : goal.returns
returns c =
    let shares = c.args.shares.now in
    let folded : c.fold.result ≡ fold lower (slice_index_or shares 0 nobody) shares = search rules in
    folded ∙ fold-lower (slice_index_or shares 0 nobody) shares
