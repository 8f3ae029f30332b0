-- The rank of a certificate, by the bytes that hold it, and the higher of two.
use Rattle.std.specs.Prelude.{ℕ, cond, List, length, take, nat_le}
use Rattle.blocks.specs.declared.rank.Rank.{Rank}
use Rattle.blocks.specs.Limits.{statement_length}
use Rattle.blocks.specs.Ranks.{less_rank}
use Rattle.blocks.specs.Statements.{rank_of, genesis, statement_of}

-- the rank of the statement at the start; bytes that are too few for one rank as genesis
abbrev pub certificate_rank : List ℕ → Rank
certificate_rank bs = cond (nat_le statement_length (length bs)) (rank_of (statement_of (take statement_length bs))) (rank_of genesis)

-- the higher in rank of two certificates, the first at equal rank
abbrev pub higher_of : List ℕ → List ℕ → List ℕ
higher_of first second = cond (less_rank (certificate_rank first) (certificate_rank second)) second first
