-- What the lines of a script say. Assumes nothing.
use Rattle.std.specs.Prelude.{ℕ, ◌-◌, min, Bool, cond, List, [], ◌∷◌, Some, None, codes, Option, ◌==◌}
use Rattle.std.specs.Str.{bytes_eq}
use Rattle.endpoint.specs.declared.peer.Peer.{Peer}
use Rattle.endpoint.specs.declared.peer.Role.{Role}
use Rattle.trunk.specs.Acts.{Octets, Side}
use Rattle.trunk.specs.Views.{Order, enrol, send, tick, arrive, hear, Ask}
use Rattle.rehearsal.specs.declared.order.Setup.{Setup}
use Rattle.rehearsal.specs.declared.word.Book.{Book}
use Rattle.rehearsal.specs.Reading.{number_in, peer_in, octets_in, side_in, book_in, role_in, want_in}
use Rattle.rehearsal.specs.Words.{Text}

-- what the words behind the arguments of a call say of the room
abbrev pub room_in : List Text → Option ℕ
room_in [] = Some 1024
room_in (name ∷ n ∷ []) = cond (bytes_eq name (codes "room")) (number_in n) None
room_in _ = None

-- calls are numbered from 1, and entries counted from 0
abbrev pub entry_of : Option ℕ → Option ℕ
entry_of None = None
entry_of (Some n) = cond (n == 0) None (Some (n - 1))

-- a call is said where each of its words says something
abbrev pub enrol_of : Option ℕ → Option ℕ → Option Peer → Option Role → Option Order
enrol_of (Some place) (Some time) (Some peer) (Some role) = Some (enrol place time peer role)
enrol_of _ _ _ _ = None

abbrev pub send_of : Option ℕ → Option ℕ → Option Bool → Option Octets → Option ℕ → Option Order
send_of (Some place) (Some time) (Some want) (Some body) (Some room) = Some (send place time want body room)
send_of _ _ _ _ _ = None

abbrev pub tick_of : Option ℕ → Option ℕ → Option ℕ → Option Order
tick_of (Some place) (Some time) (Some room) = Some (tick place time room)
tick_of _ _ _ = None

abbrev pub arrive_of : Option ℕ → Option ℕ → Option ℕ → Option Order
arrive_of (Some time) (Some entry) (Some room) = Some (arrive time entry room)
arrive_of _ _ _ = None

abbrev pub hear_of : Option ℕ → Option Peer → Option Octets → Option ℕ → Option Order
hear_of (Some time) (Some sender) (Some octets) (Some room) = Some (hear time sender octets room)
hear_of _ _ _ _ = None

-- what stands behind the word of a call
abbrev pub enrol_in : List Text → Option Order
enrol_in (p ∷ t ∷ b ∷ r ∷ []) = enrol_of (number_in p) (number_in t) (peer_in b) (role_in r)
enrol_in _ = None

abbrev pub send_in : List Text → Option Order
send_in (p ∷ t ∷ w ∷ b ∷ more) = send_of (number_in p) (number_in t) (want_in w) (octets_in b) (room_in more)
send_in _ = None

abbrev pub tick_in : List Text → Option Order
tick_in (p ∷ t ∷ more) = tick_of (number_in p) (number_in t) (room_in more)
tick_in _ = None

abbrev pub arrive_in : List Text → Option Order
arrive_in (t ∷ e ∷ more) = arrive_of (number_in t) (entry_of (number_in e)) (room_in more)
arrive_in _ = None

abbrev pub hear_in : List Text → Option Order
hear_in (t ∷ b ∷ d ∷ more) = hear_of (number_in t) (peer_in b) (octets_in d) (room_in more)
hear_in _ = None

abbrev pub call_in : Text → List Text → Option Order
call_in name ws =
    cond (bytes_eq name (codes "enrol")) (enrol_in ws)
    (cond (bytes_eq name (codes "send")) (send_in ws)
    (cond (bytes_eq name (codes "tick")) (tick_in ws)
    (cond (bytes_eq name (codes "arrive")) (arrive_in ws)
    (cond (bytes_eq name (codes "hear")) (hear_in ws) None))))

abbrev pub ask_of : Option Side → Option Order → Option Ask
ask_of (Some s) (Some o) = Some (record { side = s; order = o })
ask_of _ _ = None

-- a line that is a call
abbrev pub turn_in : List Text → Option Ask
turn_in (s ∷ name ∷ ws) = ask_of (side_in s) (call_in name ws)
turn_in _ = None

-- a start number past the largest of 32 bits is kept as that: open refuses both
abbrev pub setup_of : (line : ℕ) → Option Peer → Option ℕ → Option Book → Option Setup
setup_of line (Some p) (Some n) (Some b) = Some (record { line = line; end = record { peer = p; start = min n 4294967295 }; book = b })
setup_of line _ _ _ = None

-- a line that sets up the end of that name
abbrev pub setup_in : Text → (line : ℕ) → List Text → Option Setup
setup_in name line (s ∷ p ∷ n ∷ b ∷ []) = cond (bytes_eq s name) (setup_of line (peer_in p) (number_in n) (book_in b)) None
setup_in name line _ = None
