use Rattle.std.proofs.Common.{◌≡◌, ℕ, min, length, refl, rules}
use Rattle.std.proofs.lemmas.Result.{IfOk-weaker}
use Rattle.trunk.specs.Parties.{party_says}
use Rattle.trunk.specs.Views.{entry_says}
use Rattle.trunk.proofs.Entering.{kept_as, has_same_room, arrive_enters}
use Rattle.trunk.proofs.party.Party.receive.Goals as goal

pub returns : goal.returns
returns g c =
    let whole : length c.arrive-arrival.new.output ≡ c.in_ok-output.output.len = search rules in
    let short : length c.deref_mut.result.now ≡ min c.args.room 1024 = search rules in
    let lent = has_same_room (length c.deref_mut.result.now) c.args.room short in
    let entered = λ (from : ℕ).
    arrive_enters g.B.ArrivalBook.depth (party_says g.B.ArrivalBook.seen c.args.self.now) _ _ _ _ _ _ c.args.room _ _ _
    c.new.ensures whole lent refl c.args.time c.args.sender c.args.octets.now from _ c.arrive-arrival.ensures c.in_ok-answer.ensures (search rules) in
    IfOk-weaker c.fitted.result _ _ (λ copy same from. kept_as (entry_says c.new.result) (entry_says copy) same (entered from)) c.fitted.ensures
