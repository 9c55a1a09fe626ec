use Rattle.std.proofs.Common.{◌≡◌, length, take, refl, ◌∙◌}
use Rattle.std.proofs.lemmas.Result.{err_from_is_err_and}
use Rattle.endpoint.specs.Views.{end_says}
use Rattle.endpoint.proofs.Sending.{refused_send, same_message, front, sent, with_ack, without_ack}
use Rattle.writer.specs.Bodies.{headed}
use Rattle.endpoint.proofs.endpoint.Endpoint.send.Goals as goal

pub returns-in_err-payloads : goal.returns-in_err-payloads
returns-in_err-payloads g c =
    let p = err_from_is_err_and c.from_residual.result c.from_residual.ensures.1 in
    rw (p.1, p.2) (rw (refused_send (end_says g.B.ArrivalBook.seen c.args.self.now) c.args.place c.args.time c.args.wants_ack c.args.body.now _ _ c.in_err-payloads.ensures.answer)
    (record { answers = refl; leaves = refl; writes = refl }))

pub returns-then-wants_ack : goal.returns-then-wants_ack
returns-then-wants_ack g c =
    let e = end_says g.B.ArrivalBook.seen c.args.self.now in
    let body = c.args.body.now in
    let number = c.give-number.result in
    let asked = c.in_ok-payloads.ensures.answer in
    let kept : take c.write_message-size.result c.write_message-size.new.output ≡ headed e.next c.args.wants_ack body =
    front e c.args.place c.args.time c.args.wants_ack body (length c.args.output.now) number c.in_ok-payloads.payloads _ c.write_message-size.ensures.size _ _ c.write_message-size.ensures.buffer
    ∙ same_message e c.args.place c.args.time c.args.wants_ack body _ number c.in_ok-payloads.payloads asked c.give-number.ensures.number in
    let leaves = c.await_ack.ensures
    ∙ with_ack e c.args.place c.args.time c.args.wants_ack body (length c.args.output.now) number _ _ _ c.give-number.ensures.number c.give-number.ensures.next c.give-number.ensures.given c.if-wants_ack.true in
    sent e c.args.place c.args.time c.args.wants_ack body _ number c.in_ok-payloads.payloads asked c.give-number.ensures.number
    _ (rw kept at leaves) _ c.write_message-size.ensures.size _ _ c.write_message-size.ensures.buffer

pub returns-else-wants_ack : goal.returns-else-wants_ack
returns-else-wants_ack g c =
    let e = end_says g.B.ArrivalBook.seen c.args.self.now in
    let body = c.args.body.now in
    sent e c.args.place c.args.time c.args.wants_ack body _ c.give-number.result c.in_ok-payloads.payloads c.in_ok-payloads.ensures.answer c.give-number.ensures.number
    _ (without_ack e c.args.place c.args.time c.args.wants_ack body (length c.args.output.now) c.give-number.result _ _ _ c.give-number.ensures.number c.give-number.ensures.next c.give-number.ensures.given c.if-wants_ack.false)
    _ c.write_message-size.ensures.size _ _ c.write_message-size.ensures.buffer
