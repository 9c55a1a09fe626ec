use Rattle.std.proofs.Common.{rules}
use Rattle.std.proofs.iter.Next.{firm}
use Rattle.std.specs.Iterator.{YieldsFirstBy}
use Rattle.datagram.specs.Views.{payload_says, rest_says, body_says}
use Rattle.datagram.proofs.Bodies.{takes_payload_view}
use Rattle.datagram.proofs.Taking.{goes_on}
use Rattle.datagram.proofs.body.BodyIterator.next.Goals as goal

pub returns : goal.returns
returns c =
    let body = c.args.self.now in
    let ahead = c.take_payload.new.self in
    let taken = takes_payload_view (rest_says body) (rest_says ahead) c.take_payload.result c.take_payload.ensures.gives c.take_payload.ensures.moves in
    let steps : YieldsFirstBy payload_says body_says body c.flatten.result ahead = search rules in
    record { steps = steps; goes = firm (goes_on payload_says c.flatten.result (body_says body) (body_says ahead) steps) (λ h. search rules) }
