use Rattle.std.proofs.Common.{◌≡◌, min, length, refl, rules}
use Rattle.std.proofs.lemmas.Result.{IfOk-weaker}
use Rattle.datagram.specs.Results.{map_ok}
use Rattle.trunk.specs.Parties.{party_says}
use Rattle.trunk.specs.Views.{answer_says, entry_says, sent}
use Rattle.trunk.proofs.Entering.{kept_as, has_same_room, send_enters}
use Rattle.trunk.proofs.party.Party.send.Goals as goal

pub returns : goal.returns
returns g c =
    let is : map_ok answer_says c.map-answer.result ≡ map_ok sent c.send-answer.result = search rules in
    let whole : length c.send-answer.new.output ≡ c.in_ok-output.output.len = search rules in
    let short : length c.deref_mut.result.now ≡ min c.args.room 1024 = search rules in
    let lent = has_same_room (length c.deref_mut.result.now) c.args.room short in
    let entered =
    send_enters g.B.ArrivalBook.depth (party_says g.B.ArrivalBook.seen c.args.self.now) _ _ _ _ _ _ c.args.room _ _ _
    c.new.ensures whole lent refl c.args.place c.args.time c.args.wants_ack c.args.body.now c.send-answer.result c.send-answer.ensures is c.has_other_at.ensures in
    IfOk-weaker c.fitted.result _ _ (λ copy same. kept_as (entry_says c.new.result) (entry_says copy) same entered) c.fitted.ensures
