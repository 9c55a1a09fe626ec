-- Arrive. Assumes nothing.
use Rattle.std.specs.Prelude.{ℕ, Bool, true, false, cond, not, ◌||◌, List, [], ◌∷◌, length, Some, None, Ok, Err, Option, Result, nat_le}
use Rattle.std.specs.Option.{option_map}
use Rattle.arrivals.specs.declared.book.Judgement.{Judgement}
use Rattle.arrivals.specs.declared.book.Judgement.TheVariants.{Fresh, Again, Old}
use Rattle.arrivals.specs.Meaning.{judged, noted, is_fresh}
use Rattle.datagram.specs.declared.fault.Fault.{Fault}
use Rattle.datagram.specs.Datagrams.{Datagram, read}
use Rattle.datagram.specs.Payloads.{Payload}
use Rattle.endpoint.specs.declared.answer.Sent.{Sent}
use Rattle.endpoint.specs.declared.answer.Settled.{Settled}
use Rattle.endpoint.specs.declared.peer.Peer.{Peer}
use Rattle.endpoint.specs.declared.refusal.Refusal.TheVariants.{TimeTooHigh, ClockRanBack, SenderUnknown, BufferTooShort, TooOld, ReplyTooLong, NumbersSpent}
use Rattle.endpoint.specs.Ends.{Message, Site, vacant, held, End, site_at, outstanding_at, place_of, is_none, changed}
use Rattle.endpoint.specs.Replies.{reply_to, is_empty, reply_octets, reply_sent, replying, decided}
use Rattle.endpoint.specs.Sends.{is_message}
use Rattle.endpoint.specs.Steps.{Step, Question, ask, ask_read, first_no, unless, has_room}
use Rattle.endpoint.specs.Timing.{is_time, numbers_left}

-- what an arrival is: fresh or again, with the payloads handed out, the message settled and the reply
pub record Arrival : Type 0 where
  pub fresh : Bool
  pub payloads : List Payload
  pub settled : Option Settled
  pub reply : Option Sent

-- call messages and non-standard payloads are handed out, in order
abbrev pub handed_out : List Payload → List Payload
handed_out [] = []
handed_out (p ∷ ps) = cond (is_message p.content) (p ∷ handed_out ps) (handed_out ps)

-- what a datagram settles. Nothing is settled by one that came before
abbrev pub settles : Bool → Option Message → List Payload → Option Settled
settles fresh None ps = None
settles fresh (Some m) ps = cond fresh (option_map (λ o. record { number = m.number; outcome = o }) (decided m.number ps)) None

abbrev pub kept_unless : Option Settled → Option Message → Option Message
kept_unless None m = m
kept_unless (Some s) m = None

abbrev pub heard_at : ℕ → Option Settled → Site → Site
heard_at time s vacant = vacant
heard_at time s (held n) =
    held (record { peer = n.peer; role = n.role; heard = time; last_kept_alive = n.last_kept_alive; silent = false; outstanding = kept_unless s n.outstanding })

abbrev pub is_current : Judgement → Bool
is_current Fresh = true
is_current Again = true
is_current Old = false

-- what stands in for a place or a datagram where an earlier question was answered with no
abbrev pub or_nowhere : Option ℕ → ℕ
or_nowhere None = 32
or_nowhere (Some place) = place

abbrev pub or_blank : Result Datagram Fault → Datagram
or_blank (Ok g) = g
or_blank (Err f) = record { number = 0; wants_ack = false; payloads = [] }

abbrev pub sender_place : End → Peer → ℕ
sender_place e sender = or_nowhere (place_of e sender)

abbrev pub said_by : List ℕ → Datagram
said_by d = or_blank (read d)

abbrev pub arrive_asks : (below : ℕ → Bool) → ℕ → End → (time : ℕ) → (sender : Peer) → (d : List ℕ) → (room : ℕ) → List Question
arrive_asks below depth e time sender d room =
    ask TimeTooHigh (is_time time)
    ∷ ask ClockRanBack (nat_le e.latest time)
    ∷ ask SenderUnknown (not (is_none (place_of e sender)))
    ∷ ask BufferTooShort (has_room room)
    ∷ ask_read (read d)
    ∷ ask TooOld (is_current (judged depth e.book (sender_place e sender) (said_by d).number))
    ∷ ask ReplyTooLong (nat_le (length (reply_octets e.next (reply_to (said_by d)))) 1024)
    ∷ ask NumbersSpent (is_empty (reply_to (said_by d)) || below e.given)
    ∷ []

abbrev pub hearing : ℕ → End → (place time number : ℕ) → Option Settled → End
hearing depth e place time number s = record {
  book = noted depth e.book place number;
  latest = time;
  given = e.given;
  next = e.next;
  places = changed e place (heard_at time s (site_at e place));
}

abbrev pub arrive_acts : ℕ → End → (place time : ℕ) → Bool → Datagram → Step Arrival
arrive_acts depth e place time fresh g =
    let s : Option Settled = settles fresh (outstanding_at (site_at e place)) g.payloads in
    record {
      answer = Ok (record { fresh = fresh; payloads = cond fresh (handed_out g.payloads) []; settled = s; reply = reply_sent e.next (reply_to g) });
      after = replying (reply_to g) (hearing depth e place time g.number s);
      wrote = reply_octets e.next (reply_to g);
    }

-- at a book of this depth
unfoldable pub arrive_within : (below : ℕ → Bool) → ℕ → End → (time : ℕ) → (sender : Peer) → (d : List ℕ) → (room : ℕ) → Step Arrival
arrive_within below depth e time sender d room =
    unless (first_no (arrive_asks below depth e time sender d room)) e
    (arrive_acts depth e (sender_place e sender) time (is_fresh (judged depth e.book (sender_place e sender) (said_by d).number)) (said_by d))

abbrev pub arrive : ℕ → End → (time : ℕ) → (sender : Peer) → (d : List ℕ) → (room : ℕ) → Step Arrival
arrive = arrive_within numbers_left
