use Rattle.std.proofs.Common.{rules}
use Rattle.std.proofs.iter.Next.{firm}
use Rattle.datagram.specs.Views.{payload_says, payloads_say}
use Rattle.datagram.proofs.Taking.{goes_on}
use Rattle.endpoint.specs.Parts.{echoed, echo_says, echoes_say}
use Rattle.endpoint.proofs.Finding.{First, find_map_gives}
use Rattle.endpoint.proofs.Hearing.{echoes_filter}
use Rattle.endpoint.proofs.echoes.EchoesIterator.next.Goals as goal
use borrow.Author.Tests.{tests}

pub returns : goal.returns
returns c =
    let before = c.args.self.now.payloads in
    let after = c.find_map.new.self in
    let found = find_map_gives payload_says payloads_say echo_says (λ p. echoed p.content) _ _ (λ x r q k. search (rules, tests)) before after c.find_map.result c.find_map.ensures.ran c.find_map.ensures.runs in
    let steps : First echo_says (echoes_say (record { payloads = before })) c.find_map.result (echoes_say (record { payloads = after })) =
    rw (echoes_filter (payloads_say before), echoes_filter (payloads_say after)) found in
    record { steps = steps; goes = firm (goes_on echo_says c.find_map.result (echoes_say (record { payloads = before })) (echoes_say (record { payloads = after })) steps) (λ h. search rules) }
