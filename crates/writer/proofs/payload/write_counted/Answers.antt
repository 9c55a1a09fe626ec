use Rattle.std.proofs.Common.{◌*◌, ◌∷◌, ◌++◌, ap, ◌∙◌, one-add, rules}
use Rattle.datagram.specs.Layout.{octets16}
use Rattle.datagram.specs.Kinds.{number_of, deserving_kind}
use Rattle.writer.proofs.Puts.{two_puts, payload_put, grows_by}
use Rattle.writer.proofs.payload.write_counted.Goals as goal

pub returns : goal.returns
returns g c =
    let new = c.new-payload.ensures.value in
    let kind = g.E.Element.its_kind in
    let head = c.payload_header-head.ensures ∙ ap (λ k. 2 * number_of k ∷ (octets16 c.args.crv ++ octets16 c.args.octets)) c.kind-kind.ensures in
    let p = payload_put (number_of kind) c.args.crv _ head (c.requires.size ∙ one-add _) c.put.ensures.put (two_puts c.put-2.ensures.put c.put_all.ensures.put) in
    grows_by kind _ new.0 new.1.0 p (search rules) (search rules) (c.deserves_ack.ensures ∙ ap deserving_kind c.kind-kind.ensures)
