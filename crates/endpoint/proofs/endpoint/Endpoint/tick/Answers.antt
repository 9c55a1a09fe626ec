use Rattle.std.proofs.Common.{Some, refl}
use Rattle.std.proofs.lemmas.List.{map-set}
use Rattle.std.proofs.lemmas.Result.{err_from_is_err_and}
use Rattle.endpoint.specs.Views.{end_says, site_says}
use Rattle.endpoint.proofs.Sites.{site_of}
use Rattle.endpoint.proofs.Ticking.{refused_early, moved, spent}
use Rattle.endpoint.proofs.endpoint.Endpoint.tick.Goals as goal

pub returns-in_err-check_writing : goal.returns-in_err-check_writing
returns-in_err-check_writing g c =
    let p = err_from_is_err_and c.from_residual.result c.from_residual.ensures.1 in
    let e = end_says g.B.ArrivalBook.seen c.args.self.now in
    rw (p.1, p.2) (rw (refused_early e c.args.place c.args.time _ _ c.in_err-check_writing.ensures) (record { answers = refl; leaves = refl; writes = refl }))

-- the neighbour that is lent is the one of that place
pub returns-in_err-ticked : goal.returns-in_err-ticked
returns-in_err-ticked g c =
    let p = err_from_is_err_and c.from_residual-in_err-ticked.result c.from_residual-in_err-ticked.ensures.1 in
    let e = end_says g.B.ArrivalBook.seen c.args.self.now in
    rw (p.1, p.2) (rw (map-set site_says c.args.self.now.places c.args.place (Some c.tick.new.self))
    (spent e c.args.place c.args.time _ _ _ _ _ _ _ c.in_ok-check_writing.ensures (site_of c.args.self.now.places c.args.place _ c.in-Some.is) _ c.in_err-ticked.ensures))

pub returns : goal.returns
returns g c =
    let e = end_says g.B.ArrivalBook.seen c.args.self.now in
    rw (map-set site_says c.args.self.now.places c.args.place (Some c.tick.new.self))
    (moved e c.args.place c.args.time _ _ _ _ _ _ _ c.in_ok-check_writing.ensures (site_of c.args.self.now.places c.args.place _ c.in-Some.is) _ c.in_ok-ticked.ensures)
