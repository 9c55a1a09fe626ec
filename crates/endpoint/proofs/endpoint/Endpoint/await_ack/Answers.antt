use Rattle.std.proofs.Common.{Some}
use Rattle.std.proofs.lemmas.List.{map-set}
use Rattle.endpoint.specs.Views.{end_says, site_says}
use Rattle.endpoint.proofs.Sending.{kept}
use Rattle.endpoint.proofs.Sites.{site_of}
use Rattle.endpoint.proofs.endpoint.Endpoint.await_ack.Goals as goal

pub returns : goal.returns
returns g c =
    let places = c.args.self.now.places in
    rw (map-set site_says places c.args.place (Some c.keep.new.self))
    (kept (end_says g.B.ArrivalBook.seen c.args.self.now) c.args.place c.args.time c.args.number c.args.message.now _ _ (site_of places c.args.place _ c.in-Some.is) c.keep.ensures)
