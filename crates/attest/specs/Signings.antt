-- Lists of signings: what an attestor accepts after them.
use Rattle.std.specs.Prelude.{◌≡◌, ℕ, true, cond, List, [], ◌∷◌}
use Rattle.attest.specs.declared.attestor.Attestor.{Ghosts}

-- the attestor once it was asked to sign words: as it was, where it will not
abbrev pub asked : {S : Type 0} → Ghosts S → S → List ℕ → S
asked g a words = cond (g.signs a words) (g.signed a words) a

-- the attestor once it was asked to sign each of some words, in turn
abbrev pub after_all : {S : Type 0} → Ghosts S → S → List (List ℕ) → S
after_all g a [] = a
after_all g a (words ∷ rest) = after_all g (asked g a words) rest

pub record Attested (S : Type 0) (g : Ghosts S) : Type 0 where
  -- what it accepts it accepts after any signings
  pub stays : (a : S) (asks : List (List ℕ)) (signer : ℕ) (words tag : List ℕ)
      → g.accepts a signer words tag ≡ true → g.accepts (after_all g a asks) signer words tag ≡ true
  -- a tag that it gives, after any signings, is accepted for its owner after that signing and any later ones
  pub given : (a : S) (before : List (List ℕ)) (words : List ℕ) (later : List (List ℕ))
      → g.signs (after_all g a before) words ≡ true
      → g.accepts (after_all g (after_all g a before) (words ∷ later)) (g.owner a) words (g.tag_of (after_all g a before) words) ≡ true
