-- Who is held under an address and a port.
use Rattle.std.specs.Prelude.{Bool, ◌&&◌, ◌==◌, Option}
use Rattle.std.specs.Str.{bytes_eq}
use Rattle.search.specs.Places.{some_under}
use Rattle.search_examples.specs.declared.Peer.{Peer}
use Rattle.search_examples.specs.declared.Neighbour.{Neighbour}

abbrev pub same_peer : Peer → Peer → Bool
same_peer a b = bytes_eq a.address b.address && a.port == b.port

abbrev pub held_under : Option Neighbour → Peer → Bool
held_under = some_under (λ n. same_peer n.peer)
