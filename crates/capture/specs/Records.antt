-- The records of a capture, and what ends it. Assumes nothing.
use Rattle.std.specs.Prelude.{ℕ, zero, suc, ◌+◌, Bool, cond, ◌&&◌, List, [], ◌∷◌, length, drop, Some, None, Ok, Err, Option, Result, ◌==◌, nat_le, nat_lt}
use Rattle.std.specs.Option.{ok_or}
use Rattle.datagram.specs.Results.{map_ok, ask}
use Rattle.capture.specs.declared.stop.Question.TheVariants.{HoldsRecord, IsDatagram, AmongFirst}
use Rattle.capture.specs.declared.stop.Stop.{Stop}
use Rattle.capture.specs.Layout.{record_end, record_body, kind_field, address_field, port_field, seconds_field, datagram_field}
use Rattle.capture.specs.Stops.{stop}

-- a datagram, who sent it and when
pub record Sent : Type 0 where
  pub address : List ℕ
  pub port : ℕ
  pub seconds : ℕ
  pub datagram : List ℕ

abbrev pub sent_of : List ℕ → Sent
sent_of b = record { address = address_field b; port = port_field b; seconds = seconds_field b; datagram = datagram_field b }

abbrev pub is_datagram : List ℕ → Bool
is_datagram b = nat_le 12 (length b) && nat_le (length b) 4096 && kind_field b == 1

abbrev pub body_of : List ℕ → Option Sent
body_of b = cond (is_datagram b) (Some (sent_of b)) None

-- the record at the front of d, which is record number n
abbrev pub record_at : List ℕ → ℕ → Result Sent Stop
record_at d n =
    ask (nat_le (record_end d) (length d)) (stop HoldsRecord n)
    (ok_or (body_of (record_body d)) (stop IsDatagram n))

-- the octets of a capture from some record on, and how many records came before
pub record Place : Type 0 where
  pub octets : List ℕ
  pub before : ℕ

abbrev pub place_of : List ℕ → ℕ → Place
place_of d k = record { octets = d; before = k }

-- the next record, or none at the capture's end
abbrev pub next_at : Place → Result (Option Sent) Stop
next_at p =
    cond (length p.octets == 0) (Ok None)
    (ask (nat_lt p.before 999999) (stop AmongFirst 1000000)
    (map_ok Some (record_at p.octets (p.before + 1))))

abbrev pub moved : Place → Result (Option Sent) Stop → Place
moved p (Ok (Some s)) = place_of (drop (record_end p.octets) p.octets) (p.before + 1)
moved p (Ok None) = p
moved p (Err e) = p

abbrev pub place_after : Place → Place
place_after p = moved p (next_at p)

-- what a capture holds: its records up to the end or to the first that fails a question, and that question
pub record Capture : Type 0 where
  pub records : List Sent
  pub stopped : Option Stop

abbrev pub with : Result (Option Sent) Stop → Capture → Capture
with (Ok (Some s)) rest = record { records = s ∷ rest.records; stopped = rest.stopped }
with (Ok None) rest = record { records = []; stopped = None }
with (Err e) rest = record { records = []; stopped = Some e }

abbrev pub nothing : Capture
nothing = record { records = []; stopped = None }

-- from a place on, where at most so many records more may be read
unfoldable pub capture_for : ℕ → Place → Capture
capture_for zero p = with (next_at p) nothing
capture_for (suc k) p = with (next_at p) (capture_for k (place_after p))

abbrev pub capture_of : List ℕ → Capture
capture_of d = capture_for 999999 (place_of d 0)
