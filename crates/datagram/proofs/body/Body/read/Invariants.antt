use Rattle.std.proofs.Common.{length}
use Rattle.datagram.specs.Places.{rest_payloads}
use Rattle.datagram.specs.Views.{rest_says, body_says}
use Rattle.datagram.proofs.Bodies.{ReadsAs}
use Rattle.datagram.proofs.body.Body.read.Given as goal

-- what is left of the body decides whether it is read
abbrev pub invariant-loop : goal.invariant-loop
invariant-loop l = ReadsAs (rest_payloads (rest_says l.body)) (body_says l.body) (rest_says l.ahead)

abbrev pub decreases-loop : goal.decreases-loop
decreases-loop l = length (body_says l.ahead)
