use Rattle.std.proofs.Common.{◌≡◌, refl, rules}
use Rattle.datagram.specs.Layout.{octets16}
use Rattle.writer.proofs.Puts.{guard_puts_headed}
use Rattle.writer.proofs.element.EntryElement.put.Goals as goal

pub returns : goal.returns
returns c =
    let reason : c.to_be_bytes.result ≡ octets16 c.args.self.now.reason = search rules in
    guard_puts_headed c.number_octets.ensures c.put.ensures (guard_puts_headed reason c.put-2.ensures (guard_puts_headed refl c.put-3.ensures c.put-4.ensures))
