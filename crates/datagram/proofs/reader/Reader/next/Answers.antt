use Rattle.std.proofs.Common.{◌≡◌, drop, ap, ◌∙◌, arith}
use Rattle.std.proofs.lemmas.List.{take_rest}
use Rattle.std.proofs.lemmas.Result.{err_from_is_err_and}
use Rattle.datagram.specs.Payloads.{payload_at}
use Rattle.datagram.proofs.Places.{next_gives, next_refuses, next_moves, next_stays}
use Rattle.datagram.proofs.reader.Reader.next.Goals as goal
use Rattle.datagram.proofs.reader.Reader.next.Goals.{In-Some}

-- what `get` gave is the datagram from the reader's place on
same_part : (c : In-Some) → payload_at c.in-Some.rest.now c.args.self.now.at ≡ payload_at (drop c.args.self.now.at c.args.self.now.datagram.now) c.args.self.now.at
same_part c =
    let r = c.args.self.now in
    ap (λ l. payload_at l r.at) (c.in-Some.ensures.lookup.0.2 ∙ take_rest r.datagram.now r.at)

pub returns-in_err-payload : goal.returns-in_err-payload
returns-in_err-payload c =
    let r = c.args.self.now in
    let p = err_from_is_err_and c.from_residual.result c.from_residual.ensures.1 in
    let s = same_part (goal.at.returns-in_err-payload c).In-Some in
    let e = next_refuses r.datagram.now r.at r.left c.in_err-payload.field-0.0 (omega arith) (c.in_err-payload.ensures.gives ∙ s) in
    rw (p.1, p.2) (record { gives = e; moves = next_stays _ _ _ _ e })

pub returns : goal.returns
returns c =
    let r = c.args.self.now in
    let s = same_part (goal.at.returns c).In-Some in
    let e = next_gives r.datagram.now r.at r.left _ (omega arith) (c.in_ok-payload.ensures.gives ∙ s) in
    record { gives = e; moves = next_moves _ _ _ _ e }
