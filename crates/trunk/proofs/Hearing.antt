-- What an end hears in a datagram, and what waits, by the definitions of the endpoint.
use Rattle.std.proofs.Common.{map, Some, None, Ok, Err, Option, Result}
use Rattle.std.specs.Option.{option_map}
use Rattle.datagram.specs.declared.fault.Fault.{Fault}
use Rattle.datagram.specs.Datagrams.{Datagram, read}
use Rattle.endpoint.specs.Arrives.{handed_out}
use Rattle.endpoint.specs.Ends.{Message}
use Rattle.endpoint.specs.Replies.{decided}
use Rattle.trunk.specs.Acts.{Octets, said_by}
use Rattle.trunk.specs.Changes.{Waiting, Heard}
use Rattle.trunk.specs.Two.{outcome_of}

abbrev pub heard_as : Datagram → Heard
heard_as g = record {
  number = g.number;
  asks = g.wants_ack;
  hands = map said_by (handed_out g.payloads);
  decides = λ n. option_map outcome_of (decided n g.payloads);
}

abbrev pub or_nothing : Result Datagram Fault → Option Heard
or_nothing (Ok g) = Some (heard_as g)
or_nothing (Err f) = None

abbrev pub heard_in : Octets → Option Heard
heard_in d = or_nothing (read d)

abbrev pub waiting_as : Message → Waiting
waiting_as m = record { number = m.number; times = m.transmissions; due = m.due; octets = m.octets }
