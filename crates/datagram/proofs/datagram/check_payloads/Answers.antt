use Rattle.std.proofs.Common.{◌≡◌, ◌||◌, Some, Ok, sym, refl, ap, ◌∙◌}
use Rattle.std.proofs.lemmas.Result.{err_from_is_err_and}
use Rattle.datagram.specs.Results.{map_ok}
use Rattle.datagram.specs.Datagrams.{some_deserves}
use Rattle.datagram.specs.Places.{next_at}
use Rattle.datagram.specs.Payloads.{deserves_ack}
use Rattle.datagram.specs.Views.{payload_says, place_says}
use Rattle.datagram.proofs.Places.{again, refuses}
use Rattle.datagram.proofs.datagram.check_payloads.Goals as goal
use Rattle.datagram.proofs.datagram.check_payloads.Goals.{In-Some}

pub returns-in_err-payload : goal.returns-in_err-payload
returns-in_err-payload c =
    let p = err_from_is_err_and c.from_residual.result c.from_residual.ensures.1 in
    let e = refuses (place_says c.loop-payload.reader) _ c.in_err-payload.ensures.gives in
    rw (p.1, p.2) (sym (c.loop-payload.invariant ∙ ap (map_ok (λ ps. c.loop-payload.deserving || some_deserves ps)) e))

gave : (c : In-Some) → Ok (Some (payload_says c.in-Some.payload)) ≡ next_at (place_says c.loop-payload.reader)
gave c = rw c.in-Some.is at c.in_ok-payload.ensures.gives

pub loop-payload-preserved-then-deserving : goal.loop-payload-preserved-then-deserving
loop-payload-preserved-then-deserving c =
    let b = c.loop-payload.deserving in
    let same : b ≡ (b || deserves_ack (payload_says c.in-Some.payload)) = rw c.if-deserving.true refl in
    again (place_says c.loop-payload.reader) (place_says c.next.new.self) _ b b _ (gave (goal.at.loop-payload-preserved-then-deserving c).In-Some) c.next.ensures.moves same c.loop-payload.invariant

pub loop-payload-preserved : goal.loop-payload-preserved
loop-payload-preserved c =
    let b = c.loop-payload.deserving in
    let same : c.deserves_ack-deserving.result ≡ (b || deserves_ack (payload_says c.in-Some.payload)) = rw c.if-deserving.false c.deserves_ack-deserving.ensures in
    again (place_says c.loop-payload.reader) (place_says c.next.new.self) _ b _ _ (gave (goal.at.loop-payload-preserved c).In-Some) c.next.ensures.moves same c.loop-payload.invariant
