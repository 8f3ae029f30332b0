use Rattle.table.proofs.Lookups.{finds}
use Rattle.table.proofs.Orders.{ancestry, ancestors}
use Rattle.table.proofs.Agreements.{kept_set}
use Rattle.table.proofs.Chains.{linked_start, linked_next, linked_through, commits, entries}
use Rattle.table.proofs.laws.tables_are_lawful.Goals as goal

pub returns : goal.returns
returns c = record {
  finds = λ t held id. finds t id held;
  ancestry = ancestry;
  ancestors = ancestors;
  links = λ t. record { start = linked_start t; next = linked_next t; below = linked_through t };
  kept = kept_set;
  commits = commits;
  entries = entries;
}
