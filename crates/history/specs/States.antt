-- What a member keeps that bears on its votes.
use Rattle.std.specs.Prelude.{ℕ, None, Option}
use Rattle.safety.specs.Ranks.{Rank}

pub data Stage : Type 0 where
  steady : Stage
  timedout : Stage
  fallback : Stage

-- of one proposer's fallback chain, within a view
pub record Row (Block : Type 0) : Type 0 where
  -- of the last vote in the chain, or 0
  pub voted_height : ℕ
  pub voted_round : ℕ
  -- the block that the highest recorded certificate of the chain certifies
  pub highest : Option Block

pub record State (Block : Type 0) : Type 0 where
  pub view : ℕ
  pub stage : Stage
  -- a regular block of this round or a lower one gets no vote any more
  pub voted_round : ℕ
  -- a regular or height-1 block gets no vote if its parent ranks lower
  pub lock : Rank
  -- by proposer
  pub rows : ℕ → Row Block

abbrev pub empty_row : {Block : Type 0} → Row Block
empty_row = record { voted_height = 0; voted_round = 0; highest = None }

abbrev pub start_state : {Block : Type 0} → State Block
start_state = record {
  view = 0;
  stage = steady;
  voted_round = 0;
  lock = record { view = 0; kind = 0; round = 0 };
  rows = λ p. empty_row;
}
