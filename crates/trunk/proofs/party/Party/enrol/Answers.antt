use Rattle.std.proofs.Common.{◌≡◌, false, [], ap, ◌∙◌, vec_items, rules}
use Rattle.datagram.specs.Results.{map_ok}
use Rattle.endpoint.specs.Views.{end_says}
use Rattle.trunk.specs.Parties.{party_says, entered}
use Rattle.trunk.specs.Views.{answer_says, enrolled}
use Rattle.trunk.proofs.Entering.{enrol_enters}
use Rattle.trunk.proofs.party.Party.enrol.Goals as goal

pub returns : goal.returns
returns g c =
    let seen = g.B.ArrivalBook.seen in
    let p = party_says seen c.args.self.now in
    let is : map_ok answer_says c.map-answer.result ≡ map_ok (λ _. enrolled) c.enrol-answer.result = search rules in
    let empty : vec_items c.new.result ≡ [] = c.new.ensures.items in
    enrol_enters g.B.ArrivalBook.depth p _ _ c.args.place c.args.time c.args.peer c.args.role c.enrol-answer.result _ _
    c.enrol-answer.ensures is (c.new-2.ensures ∙ ap (λ b. entered p.side (map_ok answer_says c.map-answer.result) b false) empty)
    (ap (λ q. record { side = p.side; peer = p.peer; end = end_says seen c.enrol-answer.new.self; place = q }) c.place_after-self.ensures)
