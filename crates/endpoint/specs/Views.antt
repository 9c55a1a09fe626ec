-- What an endpoint in code says, as a plain value. Assumes nothing.
use Rattle.std.specs.Prelude.{ℕ, Bool, List, map, take, Some, None, Option}
use Rattle.arrivals.specs.Meaning.{Book}
use Rattle.endpoint.specs.declared.arrival.Arrival as arrival
use Rattle.endpoint.specs.declared.endpoint.Endpoint.{Endpoint}
use Rattle.endpoint.specs.declared.peer.Peer.{Peer}
use Rattle.endpoint.specs.declared.place.Neighbour as neighbour
use Rattle.endpoint.specs.declared.place.Outstanding.{Outstanding}
use Rattle.endpoint.specs.declared.place.Outstanding.TheVariants.{Nothing, Waiting}
use Rattle.endpoint.specs.Arrives.{Arrival}
use Rattle.endpoint.specs.Ends.{Message, Neighbour, Site, vacant, held, End, same_peer}
use Rattle.endpoint.specs.Parts.{messages_say}

-- the outstanding message, whose octets are these
abbrev pub message_says : Outstanding → List ℕ → Option Message
message_says Nothing octets = None
message_says (Waiting number transmissions due) octets = Some (record { number = number; transmissions = transmissions; due = due; octets = octets })

abbrev pub neighbour_says : neighbour.Neighbour → Neighbour
neighbour_says n = record {
  peer = n.peer;
  role = n.role;
  heard = n.heard;
  last_kept_alive = n.last_kept_alive;
  silent = n.silent;
  outstanding = message_says n.outstanding (take n.size n.datagram);
}

abbrev pub site_says : Option neighbour.Neighbour → Site
site_says None = vacant
site_says (Some n) = held (neighbour_says n)

abbrev pub holds : neighbour.Neighbour → Peer → Bool
holds n peer = same_peer n.peer peer

-- an endpoint over a kind of book that has seen so much
abbrev pub end_says : {B : Type 0} → (B → Book) → Endpoint B → End
end_says seen e = record {
  book = seen e.book;
  latest = e.latest;
  given = e.numbering.given;
  next = e.numbering.next;
  places = map site_says e.places;
}

abbrev pub arrival_says : arrival.Arrival → Arrival
arrival_says a = record { fresh = a.fresh; payloads = messages_say a.payloads; settled = a.settled; reply = a.reply }
