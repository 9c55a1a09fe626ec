use Rattle.std.proofs.Common.{rules}
use Rattle.std.proofs.iter.Next.{firm}
use Rattle.std.specs.Iterator.{YieldsFirstBy}
use Rattle.datagram.specs.Views.{payload_says, payloads_say, place_says}
use Rattle.datagram.proofs.Places.{takes_view}
use Rattle.datagram.proofs.Taking.{goes_on}
use Rattle.datagram.proofs.payloads.PayloadsIterator.next.Goals as goal

pub returns : goal.returns
returns c =
    let taken = takes_view (place_says c.args.self.now.reader) (place_says c.next.new.self) c.next.result c.next.ensures.gives c.next.ensures.moves in
    let steps : YieldsFirstBy payload_says payloads_say c.args.self.now c.flatten.result (record { reader = c.next.new.self }) = search rules in
    record { steps = steps; goes = firm (goes_on payload_says c.flatten.result (payloads_say c.args.self.now) (payloads_say (record { reader = c.next.new.self })) steps) (λ h. search rules) }
