use Rattle.std.proofs.Common.{◌≡◌, Ok, ap, ◌∙◌}
use Rattle.datagram.specs.Datagrams.{some_deserves}
use Rattle.datagram.specs.Places.{first_place, payloads_ahead, sound_ahead}
use Rattle.datagram.specs.Results.{map_ok}
use Rattle.datagram.specs.Views.{place_says}
use Rattle.datagram.proofs.Accepted.{worth, accepts, payloads_lie_end_to_end}
use Rattle.datagram.proofs.datagram.Datagram.read.Goals as goal

pub returns : goal.returns
returns c =
    let d = c.args.octets.now in
    let h = c.in_ok-header.header in
    let b = c.in_ok-deserving.deserving in
    let reader = c.start-reader.result in
    let start : place_says reader ≡ first_place d h.payloads = c.start-reader.ensures in
    let same : sound_ahead (place_says c.from_here.result.reader) ≡ sound_ahead (first_place d h.payloads) = ap (λ r. sound_ahead (place_says r)) c.from_here.ensures ∙ ap sound_ahead start in
    let found : Ok b ≡ map_ok some_deserves (payloads_ahead (first_place d h.payloads)) = c.in_ok-deserving.ensures ∙ ap (λ p. map_ok some_deserves (payloads_ahead p)) start in
    record {
      gives = ap (λ ps. Ok (record { number = h.number; wants_ack = h.wants_ack; payloads = ps })) same ∙ accepts d h b c.in_ok-header.ensures found (worth h.wants_ack b c.else-header.either);
      law = payloads_lie_end_to_end d;
    }
