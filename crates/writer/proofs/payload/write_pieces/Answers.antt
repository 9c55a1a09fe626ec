use Rattle.std.proofs.Common.{refl, rules}
use Rattle.datagram.specs.Kinds.{number_of}
use Rattle.writer.proofs.Puts.{payload_puts, grows_by}
use Rattle.writer.proofs.payload.write_pieces.Goals as goal

pub returns : goal.returns
returns c =
    let new = c.new-payload.ensures.value in
    let p = payload_puts (number_of c.args.kind) c.args.crv _ c.payload_header-head.ensures refl c.put.ensures.put c.put-2.ensures.put c.put-3.ensures.put c.put-4.ensures.put in
    grows_by c.args.kind _ new.0 new.1.0 p (search rules) (search rules) c.deserves_ack.ensures
