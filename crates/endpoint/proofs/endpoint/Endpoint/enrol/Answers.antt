use Rattle.std.proofs.Common.{Some, refl}
use Rattle.std.proofs.lemmas.List.{map-set}
use Rattle.std.proofs.lemmas.Result.{err_from_is_err_and}
use Rattle.endpoint.specs.Enrols.{enrol_asks, enrol_acts, enrol}
use Rattle.endpoint.specs.Steps.{first_no}
use Rattle.endpoint.specs.Views.{end_says, site_says}
use Rattle.endpoint.proofs.Passing.{is_refused, is_passed}
use Rattle.endpoint.proofs.endpoint.Endpoint.enrol.Goals as goal

pub returns-in_err-check_enrolling : goal.returns-in_err-check_enrolling
unfolding enrol
returns-in_err-check_enrolling g c =
    let p = err_from_is_err_and c.from_residual.result c.from_residual.ensures.1 in
    let e = end_says g.B.ArrivalBook.seen c.args.self.now in
    rw (p.1, p.2) (rw (is_refused (first_no (enrol_asks e c.args.place c.args.time c.args.peer)) tt c.in_err-check_enrolling.field-0.0 e (enrol_acts e c.args.place c.args.time c.args.peer c.args.role) c.in_err-check_enrolling.ensures)
    (record { answers = refl; leaves = refl }))

pub returns : goal.returns
unfolding enrol
returns g c =
    let e = end_says g.B.ArrivalBook.seen c.args.self.now in
    rw (is_passed (first_no (enrol_asks e c.args.place c.args.time c.args.peer)) tt tt e (enrol_acts e c.args.place c.args.time c.args.peer c.args.role) c.in_ok-check_enrolling.ensures)
    (record { answers = refl; leaves = rw (map-set site_says c.args.self.now.places c.args.place (Some c.new.result), c.new.ensures) refl })
