-- A certificate that was read has the rank that its bytes have.
use Rattle.std.proofs.Common.{◌≡◌, ℕ, ◌&&◌, eqb, leb, List, length, take, Some, None, Option, ap, ◌∙◌, arith}
use Rattle.std.proofs.lemmas.Bool.{leb-true, le-leb, cond-true}
use Rattle.std.specs.Option.{option_map}
use Rattle.std.proofs.lemmas.Option.{none-some, cond_some}
use Rattle.blocks.specs.declared.statement.Statement.{Statement}
use Rattle.blocks.specs.Statements.{rank_of, statement_of, statement_formed, read_statement}
use Rattle.wire.specs.declared.form.Form.{Form}
use Rattle.wire.specs.Certificates.{CertificatePart, certified, certificate_saying, read_certificate}
use Rattle.wire.specs.Higher.{certificate_rank}
use Rattle.wire.proofs.Passing.{passed}

said : (form : Form) (at : ℕ) (bs : List ℕ) (o : Option Statement) (c : CertificatePart) → certificate_saying form at bs o ≡ Some c → o ≡ Some c.statement
said form at bs None c e = absurd (none-some c e)
said form at bs (Some s) c e = ap (option_map (λ (p : CertificatePart). p.statement)) (passed (certified form s bs) (Some (record { statement = s; bytes = bs; at = at })) c e).1

pub rank_of_read : (form : Form) (at : ℕ) (bs : List ℕ) (c : CertificatePart) → read_certificate form at bs ≡ Some c → certificate_rank bs ≡ rank_of c.statement
rank_of_read form at bs c e =
    let found = passed (leb 44 (length bs)) _ c e in
    let read = said form at bs (read_statement form.members (take 43 bs)) c found.1 in
    let here = le-leb 43 (length bs) (omega (arith, leb-true 44 (length bs) found.0)) in
    cond-true _ _ _ here ∙ ap rank_of (cond_some (eqb (length (take 43 bs)) 43 && statement_formed form.members (take 43 bs)) (statement_of (take 43 bs)) c.statement read).1
