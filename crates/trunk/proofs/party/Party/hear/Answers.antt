use Rattle.std.proofs.Common.{◌≡◌, false, not, length, map, Ok, ap, rules}
use Rattle.datagram.specs.Results.{ask}
use Rattle.endpoint.specs.Calls as calls
use Rattle.endpoint.specs.Ends.{same_peer}
use Rattle.trunk.specs.declared.log.Error.TheVariants.{OthersAddress}
use Rattle.trunk.specs.Parties.{Party, party_says}
use Rattle.trunk.specs.Views.{entry_says}
use Rattle.trunk.proofs.party.Party.hear.Goals as goal

pub returns : goal.returns
returns g c =
    let p : Party = party_says g.B.ArrivalBook.seen c.args.self.now in
    let rs = map entry_says c.args.log.now in
    let call = calls.arrives c.args.time c.args.sender c.args.octets.now c.args.room in
    let stranger : same_peer c.args.sender p.peer ≡ false = search rules in
    record {
      call = call;
      is = ap (λ b. ask (not b) (OthersAddress (length rs)) (Ok call)) stranger;
      enters = c.in_ok-receive.ensures 0;
    }
