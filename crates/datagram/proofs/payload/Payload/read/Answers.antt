use Rattle.std.proofs.Common.{◌-◌, ◌≤◌, length, Err, refl, ap, arith, rules}
use Rattle.std.proofs.lemmas.List.{take_rest, length-drop}
use Rattle.std.proofs.lemmas.Result.{err_from_is_err_and}
use Rattle.datagram.proofs.Fields.{payload_reads}
use Rattle.datagram.proofs.payload.Payload.read.Goals as goal

-- the data that was cut is the definition's, so a fault of its content is the payload's
pub returns-in_err-content-clause-gives : goal.returns-in_err-content-clause-gives
returns-in_err-content-clause-gives c =
    let d = c.args.rest.now in
    let n = c.from_be_bytes-length.result in
    let rest = take_rest d 5 in
    let long : 5 ≤ length d = search rules in
    let cut = c.in-Some.ensures.cases in
    let fits : n ≤ length d - 5 = omega (arith, length-drop 5 d, ap length rest, cut.0) in
    let p = err_from_is_err_and c.from_residual.result c.from_residual.ensures.1 in
    rw (p.1, p.2) (payload_reads d _ n _ _ (Err c.in_err-content.field-0.0) long c.from_be_bytes-length.ensures refl fits (rw rest at cut.1) c.in_err-content.ensures)
