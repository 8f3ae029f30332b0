use Rattle.std.proofs.Common.{[], ◌∷◌, ◌++◌, length, replicate, ap, ◌∙◌, append_assoc, arith}
use Rattle.std.proofs.lemmas.List.{length-append}
use Rattle.std.specs.List.{flat_map}
use Rattle.blocks.specs.Statements.{statement_bytes}
use Rattle.blocks.proofs.Overlays.{wrote_none, wrote_more, wrote_as, overlay_full}
use Rattle.walkthrough.proofs.signing.certificate.Goals as goal

pub returns : goal.returns
returns c =
    let said = statement_bytes c.args.statement.now in
    let entries = flat_map (λ x. x) c.args.entries.now in
    let long = ap length c.bytes.ensures in
    let wide = ap length c.as_flattened.ensures.value in
    let w1 = wrote_as said _ c.bytes.ensures (wrote_none (replicate 59 0)) (omega arith) c.put-at.ensures.bytes c.put-at.ensures.end in
    let w2 = wrote_more (3 ∷ []) w1 (omega arith) c.put-at-2.ensures.bytes c.put-at-2.ensures.end in
    let w3 = wrote_as entries _ c.as_flattened.ensures.value w2 (omega (arith, length-append said (3 ∷ []))) c.put.ensures.bytes c.put.ensures.end in
    w3.bytes
    ∙ overlay_full (replicate 59 0) _ (omega (arith, length-append (said ++ 3 ∷ []) entries, length-append said (3 ∷ [])))
    ∙ append_assoc said (3 ∷ []) entries
