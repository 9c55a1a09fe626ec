use Rattle.std.proofs.Common.{◌≡◌, length, map, Some, sym, ap, ◌∙◌}
use Rattle.datagram.specs.Results.{map_ok}
use Rattle.endpoint.specs.Calls as calls
use Rattle.trunk.specs.declared.log.Error.TheVariants.{NoSuchDatagram}
use Rattle.trunk.specs.Acts.{other}
use Rattle.trunk.specs.Parties.{Party, party_says, line_at}
use Rattle.trunk.specs.Runs.{or_else}
use Rattle.trunk.specs.Views.{entry_says}
use Rattle.trunk.proofs.party.Party.arrive.Goals as goal

pub returns : goal.returns
returns g c =
    let p : Party = party_says g.B.ArrivalBook.seen c.args.self.now in
    let rs = map entry_says c.args.log.now in
    let d = c.in-Some.datagram.now in
    let found : line_at rs c.args.entry (other p.side) ≡ Some d = sym (c.in-Some.ensures ∙ ap (line_at rs c.args.entry) c.other.ensures) in
    record {
      call = calls.arrives c.args.time p.peer d c.args.room;
      is = ap (λ o. map_ok (λ x. calls.arrives c.args.time p.peer x c.args.room) (or_else o (NoSuchDatagram (length rs)))) found;
      enters = c.in_ok-receive.ensures c.args.entry;
    }
