-- What the code's values tell of a message.
use Rattle.std.specs.Prelude.{Some, None, Ok, Err, Option, Result}
use Rattle.wire.specs.declared.message.Block.{Block}
use Rattle.wire.specs.declared.message.Gathered.{Gathered}
use Rattle.wire.specs.declared.message.Message.{Message}
use Rattle.wire.specs.declared.message.Message.TheVariants as message
use Rattle.wire.specs.declared.reader.Malformed.{Malformed}
use Rattle.wire.specs.Certificates.{certificate_told}
use Rattle.wire.specs.Messages.{BlockPart, GatheredText, Text, proposal, vote, timeout, timeout_certificate, certificate, share, coin_certificate}

abbrev pub block_told : Block → BlockPart
block_told b = record { head = b.head; bytes = b.part.bytes.now; at = b.part.at }

abbrev pub gathered_told : Gathered → GatheredText
gathered_told g = record { view = g.view; entries = g.entries.now }

abbrev pub message_told : Message → Text
message_told (message.Proposal p) = proposal (block_told p.block) (certificate_told p.certificate)
message_told (message.Vote v) = vote (record { statement = v.statement; signer = v.signer; tag = v.tag.now })
message_told (message.Timeout t) =
    timeout (record { view = t.view; signer = t.signer; tag = t.tag.now; certificate = certificate_told t.certificate })
message_told (message.TimeoutCertificate g) = timeout_certificate (gathered_told g)
message_told (message.Certificate c) = certificate (certificate_told c)
message_told (message.Share s) = share (record { view = s.view; member = s.member; value = s.value; tag = s.tag.now })
message_told (message.CoinCertificate g) = coin_certificate (gathered_told g)

-- a message, or nothing where the bytes have not the form
abbrev pub told : Result Message Malformed → Option Text
told (Ok m) = Some (message_told m)
told (Err e) = None
