use Rattle.std.proofs.lemmas.Result.{err_from_is_err_and}
use Rattle.writer.proofs.Answering.{counted_refused, counted_added}
use Rattle.writer.proofs.writer.Writer.add_counted.Goals as goal

pub returns-in_err-check_payload-clause-does : goal.returns-in_err-check_payload-clause-does
returns-in_err-check_payload-clause-does g c =
    let p = err_from_is_err_and c.from_residual.result c.from_residual.ensures.1 in
    rw (p.1, p.2)
    (counted_refused (g.met.E.Element.counts c.args.elements.now) c.args.self.now c.args.crv _ _ _ c.check_payload.ensures c.ranges.crv.fits c.counted_size-octets.ensures c.counted_within.ensures _ c.in_err-check_payload.was)

pub returns-clause-does : goal.returns-clause-does
returns-clause-does g c = counted_added (g.met.E.Element.counts c.args.elements.now) c.args.self.now c.args.crv _ _ _ c.check_payload.ensures c.ranges.crv.fits c.counted_size-octets.ensures c.counted_within.ensures _ _ c.in_ok-check_payload.was c.write_counted.ensures
