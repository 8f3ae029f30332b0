-- When two statements say the same.
use Rattle.std.specs.Prelude.{Bool, ◌&&◌, ◌==◌}
use Rattle.std.specs.Str.{bytes_eq}
use Rattle.blocks.specs.declared.statement.Statement.{Statement}
use Rattle.blocks.specs.Ranks.{kind_number}

abbrev pub same_statement : Statement → Statement → Bool
same_statement s t =
    (kind_number s.kind == kind_number t.kind)
    && (s.height == t.height
    && (s.proposer == t.proposer
    && (s.view.0 == t.view.0 && (s.round.0 == t.round.0 && bytes_eq s.id t.id))))
