use Rattle.std.proofs.Common.{◌≡◌, Some, rules}
use Rattle.std.proofs.iter.Next.{firm}
use Rattle.datagram.specs.Views.{payload_says, payloads_say}
use Rattle.datagram.proofs.Taking.{goes_on}
use Rattle.endpoint.specs.Sends.{is_message}
use Rattle.endpoint.specs.Parts.{messages_say}
use Rattle.endpoint.proofs.Finding.{First, find_gives}
use Rattle.endpoint.proofs.Hearing.{handed_filter}
use Rattle.endpoint.proofs.messages.MessagesIterator.next.Goals as goal
use borrow.Author.Tests.{tests}

pub returns : goal.returns
returns c =
    let before = c.in_ok-as_mut.field-0.now in
    let after = c.find.new.self in
    let found = find_gives payload_says payloads_say _ (λ p. is_message p.content) _ (λ x b q k. search (rules, tests)) before after c.find.result c.find.ensures.ran in
    let steps : First payload_says (messages_say (record { payloads = Some before })) c.find.result (messages_say (record { payloads = Some after })) =
    rw (handed_filter (payloads_say before), handed_filter (payloads_say after)) found in
    let was : c.args.self.now.payloads ≡ Some before = search rules in
    let left : First payload_says (messages_say c.args.self.now) c.find.result (messages_say (record { payloads = Some after })) = rw was steps in
    record { steps = left; goes = firm (goes_on payload_says c.find.result (messages_say c.args.self.now) (messages_say (record { payloads = Some after })) left) (λ h. search rules) }
