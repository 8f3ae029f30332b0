-- The first block of the walk.
use Rattle.std.specs.Prelude.{ℕ, replicate, Option}
use Rattle.std.specs.Option.{option_map}
use Rattle.blocks.specs.declared.head.Head.{Head}
use Rattle.blocks.specs.declared.rank.Kind.TheVariants.{Regular}
use Rattle.blocks.specs.Ranks.{leading, round, view}
use Rattle.walkthrough.specs.declared.lot.Lot.{Lot}
use Rattle.walkthrough.specs.declared.lot_block.LotBlock.{LotBlock}

-- a regular block of view 0 and round 1 on genesis, whose id is 32 zeros; its payload has the 7 bytes of a lot
abbrev pub first_head : ℕ → Head
first_head proposer = record {
  kind = Regular;
  height = 0;
  proposer = proposer;
  view = view 0;
  round = round 1;
  parent = replicate 32 0;
  payload = 7;
}

-- the leader of round 1 proposes it
abbrev pub first_block : ℕ → Lot → Option LotBlock
first_block n l = option_map (λ p. record { head = first_head p; lot = l }) (leading n 1)
