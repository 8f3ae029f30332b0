-- What is accepted stays accepted over any list of signings.
use Rattle.std.proofs.Common.{◌≡◌, ℕ, true, List, [], ◌∷◌, sym, refl, ap, ◌∙◌}
use Rattle.std.proofs.lemmas.Bool.{cond_both, cond-true}
use Rattle.attest.specs.declared.attestor.Attestor.{Ghosts}
use Rattle.attest.specs.Signings.{asked, after_all, Attested}

owner_asked : {S : Type 0} (g : Ghosts S) (a : S) (words : List ℕ) → g.owner (asked g a words) ≡ g.owner a
owner_asked g a words = cond_both (g.signs a words) (g.signed a words) a (λ b. g.owner b ≡ g.owner a) (λ _. g.laws.owner_stays a words) (λ _. refl)

owner_after : {S : Type 0} (g : Ghosts S) (a : S) (asks : List (List ℕ)) → g.owner (after_all g a asks) ≡ g.owner a
owner_after g a [] = refl
owner_after g a (words ∷ rest) = owner_after g (asked g a words) rest ∙ owner_asked g a words

accepted_asked : {S : Type 0} (g : Ghosts S) (a : S) (asks : List ℕ) (signer : ℕ) (words tag : List ℕ) → g.accepts a signer words tag ≡ true → g.accepts (asked g a asks) signer words tag ≡ true
accepted_asked g a asks signer words tag h =
    cond_both (g.signs a asks) (g.signed a asks) a (λ b. g.accepts b signer words tag ≡ true) (λ e. g.laws.accepted_stays a asks e signer words tag h) (λ _. h)

accepted_after : {S : Type 0} (g : Ghosts S) (a : S) (asks : List (List ℕ)) (signer : ℕ) (words tag : List ℕ) → g.accepts a signer words tag ≡ true → g.accepts (after_all g a asks) signer words tag ≡ true
accepted_after g a [] signer words tag h = h
accepted_after g a (first ∷ rest) signer words tag h = accepted_after g (asked g a first) rest signer words tag (accepted_asked g a first signer words tag h)

-- the tag given is accepted from then on
given_after : {S : Type 0} (g : Ghosts S) (b : S) (owner : ℕ) (words : List ℕ) (later : List (List ℕ)) → g.owner b ≡ owner → g.signs b words ≡ true
    → g.accepts (after_all g (asked g b words) later) owner words (g.tag_of b words) ≡ true
given_after g b owner words later is ok =
    let now : g.accepts (asked g b words) owner words (g.tag_of b words) ≡ true =
    ap (λ x. g.accepts x owner words (g.tag_of b words)) (cond-true (g.signs b words) (g.signed b words) b ok)
    ∙ ap (λ (n : ℕ). g.accepts (g.signed b words) n words (g.tag_of b words)) (sym is) ∙ g.laws.given_accepted b words ok in
    accepted_after g (asked g b words) later owner words (g.tag_of b words) now

pub attested : {S : Type 0} (g : Ghosts S) → Attested S g
attested g = record {
  stays = accepted_after g;
  given = λ a before words later ok. given_after g (after_all g a before) (g.owner a) words later (owner_after g a before) ok;
}
