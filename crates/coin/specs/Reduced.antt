-- The shares after one step of the interpolation.
use Rattle.std.specs.Prelude.{◌≡◌, ℕ, ◌+◌, ◌<◌, ◌≤◌, List, [], ◌∷◌, ◌++◌, map, length, take, drop, set, slice_index_or, slice_set}
use Rattle.std.proofs.Common.{ap, ◌∙◌}
use Rattle.std.proofs.lemmas.List.{append-nil, drop_all, take_all, get_or_default}
use Rattle.coin.specs.Pieces.{all_map}
use Rattle.std.proofs.lemmas.List.Edits.{map_over_more}
use Rattle.coin.specs.declared.shares.Share.{Share}
use Rattle.coin.specs.Shares.{nobody, Other, Apart}
use Rattle.coin.specs.Interpolation.{reduce}

-- the members stay apart
pub apart_reduced : (s : Share) (ss : List Share) → Apart ss → Apart (map (reduce s) ss)
apart_reduced s [] h = tt
apart_reduced s (t ∷ ts) h = (all_map (Other (reduce s t)) (reduce s) ts h.0, apart_reduced s ts h.1)

module _ (f : Share → Share) (ys xs : List Share) (i : ℕ) (inv : ys ≡ map f (take i xs) ++ drop i xs) where
  pub next_mapped : (y : Share) → i < length ys → i < length xs → y ≡ f (slice_index_or ys i nobody) → slice_set ys i y ≡ map f (take (i + 1) xs) ++ drop (i + 1) xs
  next_mapped y l h e = ap (set ys i) e ∙ map_over_more f xs ys i (slice_index_or ys i nobody) h inv (get_or_default ys i nobody (slice_index_or ys i nobody) l)

  pub all_mapped : length xs ≤ i → ys ≡ map f xs
  all_mapped h = simp (take_all i xs h, drop_all i xs h, append-nil) at inv
