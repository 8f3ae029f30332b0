-- The kinds of messages, by their numbers.
use Rattle.std.specs.Prelude.{◌≡◌, ℕ, ◌<◌, ◌⊎◌, Result, MatchResult}
use Rattle.wire.specs.declared.kind.MessageKind.{MessageKind}
use Rattle.wire.specs.declared.kind.MessageKind.TheVariants.{Proposal, Vote, Timeout, TimeoutCertificate, Certificate, Share, CoinCertificate}
use Rattle.wire.specs.declared.reader.Malformed.{Malformed}

abbrev pub kind_number : MessageKind → ℕ
kind_number Proposal = 1
kind_number Vote = 2
kind_number Timeout = 3
kind_number TimeoutCertificate = 4
kind_number Certificate = 5
kind_number Share = 6
kind_number CoinCertificate = 7

-- what a number is read as: the kind that has it, or nothing where no kind has
abbrev pub KindRead : ℕ → Result MessageKind Malformed → Type 0
KindRead number r = MatchResult r (λ kind. kind_number kind ≡ number) (λ _. (number < 1) ⊎ (7 < number))
