use Rattle.std.proofs.Common.{◌≡◌, ◌+◌, length, Some, Ok, Err, refl, arith}
use Rattle.std.proofs.lemmas.Bool.{le-leb}
use Rattle.std.proofs.lemmas.Result.{err_from_is_err_and}
use Rattle.datagram.specs.Bodies.{body_payloads}
use Rattle.datagram.specs.Places.{next_in}
use Rattle.datagram.specs.Views.{payload_says, rest_says}
use Rattle.datagram.proofs.Bodies.{reads_first, reads_on, fewer_left, reads_fault}
use Rattle.datagram.proofs.body.Body.read.Goals as goal
use Rattle.datagram.proofs.body.Body.read.Goals.{In-Some}

pub loop-init : goal.loop-init
loop-init c = reads_first (rest_says (record { octets = c.args.octets; at = 0 }))

gave : (c : In-Some) → Ok (Some (payload_says c.in-Some.field-0)) ≡ next_in (rest_says c.loop.ahead)
gave c = rw c.in-Some.is at c.in_ok-take_payload.ensures.gives

pub loop-smaller : goal.loop-smaller
loop-smaller c = fewer_left (rest_says c.loop.ahead) (rest_says c.take_payload.new.self) _ (gave (goal.at.loop-smaller c).In-Some) c.take_payload.ensures.moves

pub loop-preserved : goal.loop-preserved
loop-preserved c = reads_on _ _ (rest_says c.loop.ahead) (rest_says c.take_payload.new.self) _ (gave (goal.at.loop-preserved c).In-Some) c.take_payload.ensures.moves c.loop.invariant

pub returns-in_err-take_payload : goal.returns-in_err-take_payload
returns-in_err-take_payload c =
    let p = err_from_is_err_and c.from_residual.result c.from_residual.ensures.1 in
    let d = c.args.octets.now in
    let e : body_payloads d ≡ Err c.in_err-take_payload.field-0.0 = reads_fault _ _ (rest_says c.loop.ahead) _ c.in_err-take_payload.ensures.gives c.loop.invariant in
    rw (p.1, p.2, le-leb (5 + length d) 1024 (omega arith), e) refl
