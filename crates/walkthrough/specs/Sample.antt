-- Keys for a demonstration.
use Rattle.std.specs.Prelude.{ℕ, ◌+◌, ◌*◌, ◌%◌, List, replicate}

-- one byte of signer and receiver, 32 times
abbrev pub demonstration_key : ℕ → ℕ → List ℕ
demonstration_key signer receiver = replicate 32 ((signer * 16 % 256 + receiver) % 256)
