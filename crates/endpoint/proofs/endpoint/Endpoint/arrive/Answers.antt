use Rattle.std.proofs.Common.{refl, sym}
use Rattle.std.proofs.lemmas.Result.{err_from_is_err_and}
use Rattle.datagram.specs.Views.{datagram_says}
use Rattle.endpoint.specs.Parts.{reply_says}
use Rattle.endpoint.specs.Views.{end_says}
use Rattle.endpoint.proofs.Arriving.{refused_unread, refused_faulty, refused_late, arrived}
use Rattle.endpoint.proofs.Replying.{number_small, reply_within}
use Rattle.endpoint.proofs.endpoint.Endpoint.arrive.Goals as goal

pub returns-in_err-place : goal.returns-in_err-place
returns-in_err-place g c =
    let p = err_from_is_err_and c.from_residual.result c.from_residual.ensures.1 in
    rw (p.1, p.2) (rw (refused_unread g.B.ArrivalBook.depth (end_says g.B.ArrivalBook.seen c.args.self.now) c.args.time c.args.sender c.args.octets.now _ _ _ c.in_err-place.ensures.answer)
    (record { answers = refl; leaves = refl; writes = refl }))

pub returns-in_err-datagram : goal.returns-in_err-datagram
returns-in_err-datagram g c =
    let p = err_from_is_err_and c.from_residual-in_err-datagram.result c.from_residual-in_err-datagram.ensures.1 in
    rw (p.1, p.2) (rw (refused_faulty g.B.ArrivalBook.depth (end_says g.B.ArrivalBook.seen c.args.self.now) c.args.time c.args.sender c.args.octets.now _ _ c.in_ok-place.ensures.answer _ (sym c.in_err-datagram.ensures.gives))
    (record { answers = refl; leaves = refl; writes = refl }))

pub returns-in_err-fresh : goal.returns-in_err-fresh
returns-in_err-fresh g c =
    let p = err_from_is_err_and c.from_residual-in_err-fresh.result c.from_residual-in_err-fresh.ensures.1 in
    rw (p.1, p.2) (rw (refused_late g.B.ArrivalBook.depth (end_says g.B.ArrivalBook.seen c.args.self.now) c.args.time c.args.sender c.args.octets.now _ _ c.in_ok-place.ensures.answer
    (datagram_says c.in_ok-datagram.datagram) (sym c.in_ok-datagram.ensures.gives) (reply_says c.to-reply.result) c.to-reply.ensures _ c.in_err-fresh.ensures)
    (record { answers = refl; leaves = refl; writes = refl }))

pub reply-reply-requires-clause-inside : goal.reply-reply-requires-clause-inside
reply-reply-requires-clause-inside g c =
    let d = c.args.octets.now in
    let said = datagram_says c.in_ok-datagram.datagram in
    let read = sym c.in_ok-datagram.ensures.gives in
    rw c.to-reply.ensures (reply_within d said (number_small d said c.type_inv.octets read) read)

pub returns : goal.returns
returns g c =
    arrived g.B.ArrivalBook.depth (end_says g.B.ArrivalBook.seen c.args.self.now) c.args.time c.args.sender c.args.octets.now _ _ c.in_ok-place.ensures.answer
    (datagram_says c.in_ok-datagram.datagram) (sym c.in_ok-datagram.ensures.gives) (reply_says c.to-reply.result) c.to-reply.ensures
    c.in_ok-fresh.fresh c.in_ok-fresh.ensures c.hear-settled.result c.hear-settled.ensures.settled
    (end_says g.B.ArrivalBook.seen c.hear-settled.new.self) (end_says g.B.ArrivalBook.seen c.reply-reply.new.self) c.hear-settled.ensures.after c.reply-reply.ensures.after
    c.reply-reply.result c.reply-reply.ensures.answer _ _ c.reply-reply.ensures.buffer _ c.of.ensures
