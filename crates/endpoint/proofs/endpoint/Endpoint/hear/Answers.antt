use Rattle.std.proofs.Common.{Some}
use Rattle.std.proofs.lemmas.List.{map-set}
use Rattle.endpoint.specs.Views.{end_says, site_says}
use Rattle.endpoint.proofs.Arriving.{hears}
use Rattle.endpoint.proofs.Sites.{site_of}
use Rattle.endpoint.proofs.endpoint.Endpoint.hear.Goals as goal

pub returns-clause-after : goal.returns-clause-after
returns-clause-after g c =
    let places = c.args.self.now.places in
    let e = end_says g.B.ArrivalBook.seen c.args.self.now in
    rw (map-set site_says places c.args.place (Some c.hear.new.self))
    (hears g.B.ArrivalBook.depth e c.args.place c.args.time c.args.datagram.number c.hear.result _ _ _ c.note.ensures (site_of places c.args.place _ c.in-Some.is) c.hear.ensures.after)
