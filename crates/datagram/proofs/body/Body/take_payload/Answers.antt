use Rattle.std.proofs.Common.{◌≡◌, ◌+◌, ◌≤◌, length, drop, Some, Ok, sym, ap, ◌∙◌, arith}
use Rattle.std.proofs.lemmas.List.{take_rest}
use Rattle.datagram.specs.Payloads.{payload_at}
use Rattle.datagram.specs.Places.{next_in}
use Rattle.datagram.specs.Views.{payload_says, rest_says}
use Rattle.datagram.proofs.Bodies.{payload_lies, next_in_gives, next_in_moves}
use Rattle.datagram.proofs.body.Body.take_payload.Goals as goal
use Rattle.datagram.proofs.body.Body.take_payload.Goals.{In_ok-payload}

pub overflow_sub-self : goal.overflow_sub-self
overflow_sub-self c = omega (arith, payload_lies c.in-Some-len1-up.rest.now (c.args.self.now.at + 5) (payload_says c.in_ok-payload.payload) (sym c.in_ok-payload.ensures.gives))

-- what `get` gave is the body from the place on
gave : (c : In_ok-payload) → Ok (Some (payload_says c.in_ok-payload.payload)) ≡ next_in (rest_says c.args.self.now)
gave c =
    let b = c.args.self.now in
    let part : c.in-Some-len1-up.rest.now ≡ drop b.at b.octets.now = c.in-Some-len1-up.ensures.lookup.0.2 ∙ take_rest b.octets.now b.at in
    let some : 1 ≤ length (drop b.at b.octets.now) = omega (arith, ap length part, c.in-Some-len1-up.len_at_least) in
    next_in_gives (drop b.at b.octets.now) (b.at + 5) _ some (c.in_ok-payload.ensures.gives ∙ ap (λ d. payload_at d (b.at + 5)) part)

pub returns-clause-gives : goal.returns-clause-gives
returns-clause-gives c = gave (goal.at.returns-clause-gives c).In_ok-payload

pub returns-clause-moves : goal.returns-clause-moves
returns-clause-moves c =
    let b = c.args.self.now in
    let p = payload_says c.in_ok-payload.payload in
    let lies = payload_lies c.in-Some-len1-up.rest.now (b.at + 5) p (sym c.in_ok-payload.ensures.gives) in
    next_in_moves b.octets.now b.at _ p (gave (goal.at.returns-clause-moves c).In_ok-payload) (omega arith)
