use Rattle.std.proofs.Common.{◌≡◌, ◌∙◌, refl, sym, rules}
use Rattle.datagram.specs.Views.{payload_says, payloads_say}
use Rattle.endpoint.specs.Replies.{unsupported_in, first_unsupported}
use Rattle.endpoint.proofs.Finding.{find_map_gives, first_is}
use Rattle.endpoint.proofs.Hearing.{unsupported_first}
use Rattle.endpoint.proofs.reply.Settling.of.Goals as goal
use Rattle.endpoint.proofs.reply.Settling.of.Goals.{After-find_map}
use borrow.Author.Tests.{tests}

found : (c : After-find_map) → c.find_map.result ≡ first_unsupported (payloads_say c.args.datagram.payloads)
found c =
    let gave = find_map_gives payload_says payloads_say (λ x. x) (λ p. unsupported_in p.content) _ _ (λ x r q k. search (rules, tests)) c.args.datagram.payloads c.find_map.new.self c.find_map.result c.find_map.ensures.ran c.find_map.ensures.runs in
    first_is _ _ c.find_map.result gave ∙ sym (unsupported_first (payloads_say c.args.datagram.payloads))

pub returns-in-Some : goal.returns-in-Some
returns-in-Some c = rw (← found (goal.at.returns-in-Some c).After-find_map, c.in-Some.is) refl

pub returns-then-wants_ack : goal.returns-then-wants_ack
returns-then-wants_ack c = rw (← found (goal.at.returns-then-wants_ack c).After-find_map, c.in_default.is, c.if-wants_ack.true) refl

pub returns-else-wants_ack : goal.returns-else-wants_ack
returns-else-wants_ack c = rw (← found (goal.at.returns-else-wants_ack c).After-find_map, c.in_default.is, c.if-wants_ack.false) refl
