use Rattle.std.proofs.Common.{◌∙◌, sym, rules}
use Rattle.datagram.specs.Views.{payload_says, payloads_say}
use Rattle.endpoint.specs.Replies.{outcome_in}
use Rattle.endpoint.proofs.Finding.{find_map_gives, first_is}
use Rattle.endpoint.proofs.Hearing.{decided_first}
use Rattle.endpoint.proofs.outcome.decide.Goals as goal
use borrow.Author.Tests.{tests}

pub returns : goal.returns
returns c =
    let found = find_map_gives payload_says payloads_say (λ x. x) (λ p. outcome_in c.args.number p.content) _ _ (λ x r q k. search (rules, tests)) c.args.payloads c.find_map.new.self c.find_map.result c.find_map.ensures.ran c.find_map.ensures.runs in
    first_is _ _ c.find_map.result found ∙ sym (decided_first c.args.number (payloads_say c.args.payloads))
