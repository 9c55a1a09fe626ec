use Rattle.std.proofs.Common.{[], ◌∷◌, sym, subst, refl}
use Rattle.datagram.specs.Structures.{ack, nack}
use Rattle.writer.specs.Bodies.{settled}
use Rattle.endpoint.specs.Parts.{settling_says, Adds}
use Rattle.endpoint.proofs.Writing.{add_holds}
use Rattle.endpoint.proofs.reply.Settling.add_to.Goals as goal

pub returns-in-Acknowledging-clause-adds : goal.returns-in-Acknowledging-clause-adds
returns-in-Acknowledging-clause-adds c =
    let one = add_holds (ack (c.in-Acknowledging.number ∷ [])) c.args.writer.now c.add_ack.new.self c.add_ack.result refl c.add_ack.ensures.does in
    subst (λ s. Adds (settled (settling_says s)) c.args.writer.now c.add_ack.result c.add_ack.new.self) (sym c.in-Acknowledging.is) one

pub returns-in-Rejecting-clause-adds : goal.returns-in-Rejecting-clause-adds
returns-in-Rejecting-clause-adds c =
    let one = add_holds (nack (record { number = c.in-Rejecting.number; reason = 0; octets = c.in-Rejecting.kind ∷ [] } ∷ [])) c.args.writer.now c.add_nack.new.self c.add_nack.result refl c.add_nack.ensures.does in
    subst (λ s. Adds (settled (settling_says s)) c.args.writer.now c.add_nack.result c.add_nack.new.self) (sym c.in-Rejecting.is) one
