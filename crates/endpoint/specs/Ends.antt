-- What an endpoint knows, whatever keeps it. Assumes nothing.
use Rattle.std.specs.Prelude.{ℕ, ◌+◌, ◌%◌, Bool, true, false, ◌&&◌, List, replicate, Some, None, Option, ◌==◌, slice_index_or, slice_set}
use Rattle.std.specs.Str.{bytes_eq}
use Rattle.arrivals.specs.Meaning.{Book, new_book}
use Rattle.search.specs.First.{first_under}
use Rattle.endpoint.specs.declared.peer.Peer.{Peer}
use Rattle.endpoint.specs.declared.peer.Role.{Role}

-- a message for which an Ack is awaited: it is written again once it is due
pub record Message : Type 0 where
  pub number : ℕ
  pub transmissions : ℕ
  pub due : ℕ
  pub octets : List ℕ

-- when it was last heard, and when tick last sent it an I-Am-Alive
pub record Neighbour : Type 0 where
  pub peer : Peer
  pub role : Role
  pub heard : ℕ
  pub last_kept_alive : ℕ
  pub silent : Bool
  pub outstanding : Option Message

-- what is at a place
pub data Site : Type 0 where
  vacant : Site
  held : Neighbour → Site

-- the latest time of a call, how many numbers were given, and the number to give next
pub record End : Type 0 where
  pub book : Book
  pub latest : ℕ
  pub given : ℕ
  pub next : ℕ
  pub places : List Site

abbrev pub new_end : ℕ → End
new_end start = record { book = new_book; latest = 0; given = 0; next = start; places = replicate 32 vacant }

-- reading an end
abbrev pub site_at : End → ℕ → Site
site_at e place = slice_index_or e.places place vacant

abbrev pub is_held : Site → Bool
is_held vacant = false
is_held (held n) = true

abbrev pub outstanding_at : Site → Option Message
outstanding_at vacant = None
outstanding_at (held n) = n.outstanding

abbrev pub same_peer : Peer → Peer → Bool
same_peer a b = bytes_eq a.address b.address && a.port == b.port

abbrev pub holds_peer : Peer → Site → Bool
holds_peer peer vacant = false
holds_peer peer (held n) = same_peer n.peer peer

-- the place that holds a peer
abbrev pub place_of : End → Peer → Option ℕ
place_of e peer = first_under (holds_peer peer) e.places

-- changing an end: a call at a time leaves these places, and one that gave a number moves to the next, which wraps
abbrev pub at_time : End → ℕ → List Site → End
at_time e time places = record { book = e.book; latest = time; given = e.given; next = e.next; places = places }

abbrev pub numbered : End → End
numbered e = record { book = e.book; latest = e.latest; given = e.given + 1; next = (e.next + 1) % 16777216; places = e.places }

-- one site changed
abbrev pub changed : End → ℕ → Site → List Site
changed e place site = slice_set e.places place site

abbrev pub with_outstanding : Option Message → Site → Site
with_outstanding m vacant = vacant
with_outstanding m (held n) =
    held (record { peer = n.peer; role = n.role; heard = n.heard; last_kept_alive = n.last_kept_alive; silent = n.silent; outstanding = m })

-- whether an option is empty
abbrev pub is_none : {X : Type 0} → Option X → Bool
is_none None = true
is_none (Some x) = false
