-- Send. Assumes nothing.
use Rattle.std.specs.Prelude.{ℕ, ◌+◌, ◌-◌, Bool, true, false, cond, not, ◌&&◌, ◌||◌, List, [], ◌∷◌, length, Some, Ok, Err, Result, nat_le}
use Rattle.datagram.specs.declared.fault.Fault.{Fault}
use Rattle.datagram.specs.Layout.{octet, odd}
use Rattle.datagram.specs.Payloads.{Payload}
use Rattle.datagram.specs.Structures.{Content, call_message, i_am_alive, ack, nack, non_standard, unsupported}
use Rattle.datagram.specs.Bodies.{body_payloads}
use Rattle.writer.specs.Bodies.{headed}
use Rattle.writer.specs.Values.{every}
use Rattle.endpoint.specs.declared.answer.Sent.{Sent}
use Rattle.endpoint.specs.declared.refusal.Refusal.TheVariants.{NoSuchPlace, TimeTooHigh, ClockRanBack, PlaceVacant, BufferTooShort, BodySize, NotOnlyMessages, StillOutstanding, NumbersSpent}
use Rattle.endpoint.specs.declared.timers.Timers.{Timers}
use Rattle.endpoint.specs.Ends.{Message, Site, vacant, held, End, site_at, is_held, outstanding_at, is_none, at_time, numbered, changed, with_outstanding}
use Rattle.endpoint.specs.Steps.{Step, Question, ask, ask_read, first_no, unless, is_place, has_room, sent_as}
use Rattle.endpoint.specs.Timing.{timers_of, is_time, numbers_left}

-- what is handed out and may be sent: call messages and non-standard payloads
abbrev pub is_message : Content → Bool
is_message (call_message x) = true
is_message (i_am_alive a) = false
is_message (ack ns) = false
is_message (nack es) = false
is_message (non_standard s) = true
is_message (unsupported t x) = false

-- the reserved bit of a body's payload. Its data has an offset that counts the header, its own header lies before that
abbrev pub reserved_bit : List ℕ → Payload → Bool
reserved_bit b p = odd (octet b (p.offset - 10))

abbrev pub is_plain : List ℕ → Payload → Bool
is_plain b p = is_message p.content && not (reserved_bit b p)

abbrev pub only_messages : List ℕ → Result (List Payload) Fault → Bool
only_messages b (Ok ps) = every (is_plain b) ps
only_messages b (Err f) = false

abbrev pub is_body_size : ℕ → Bool
is_body_size n = nat_le 1 n && nat_le n 507

-- the questions that a body has to pass, whatever end it is sent from: they stand among those of a send
abbrev pub body_asks : (body : List ℕ) → List Question
body_asks body =
    ask BodySize (is_body_size (length body))
    ∷ ask_read (body_payloads body)
    ∷ ask NotOnlyMessages (only_messages body (body_payloads body))
    ∷ []

abbrev pub send_asks : (below : ℕ → Bool) → End → (place time : ℕ) → (wants_ack : Bool) → (body : List ℕ) → (room : ℕ) → List Question
send_asks below e place time wants_ack body room =
    ask NoSuchPlace (is_place place)
    ∷ ask TimeTooHigh (is_time time)
    ∷ ask ClockRanBack (nat_le e.latest time)
    ∷ ask PlaceVacant (is_held (site_at e place))
    ∷ ask BufferTooShort (has_room room)
    ∷ ask BodySize (is_body_size (length body))
    ∷ ask_read (body_payloads body)
    ∷ ask NotOnlyMessages (only_messages body (body_payloads body))
    ∷ ask StillOutstanding (not wants_ack || is_none (outstanding_at (site_at e place)))
    ∷ ask NumbersSpent (below e.given)
    ∷ []

-- a message that was sent once
abbrev pub sent_once : Timers → (number time : ℕ) → List ℕ → Message
sent_once τ number time d = record { number = number; transmissions = 1; due = time + τ.first; octets = d }

-- where an Ack is wanted, the message is outstanding
abbrev pub awaiting : (number time : ℕ) → List ℕ → Site → Site
awaiting number time d vacant = vacant
awaiting number time d (held n) = with_outstanding (Some (sent_once (timers_of n) number time d)) (held n)

-- an end that keeps the message d at a place, and nothing else changed
abbrev pub awaits : End → (place time number : ℕ) → List ℕ → End
awaits e place time number d = at_time e e.latest (changed e place (awaiting number time d (site_at e place)))

abbrev pub send_places : End → (place time : ℕ) → (wants_ack : Bool) → List ℕ → List Site
send_places e place time wants_ack d = cond wants_ack (changed e place (awaiting e.next time d (site_at e place))) e.places

abbrev pub send_acts : End → (place time : ℕ) → (wants_ack : Bool) → List ℕ → Step Sent
send_acts e place time wants_ack d = record {
  answer = Ok (sent_as e.next d);
  after = numbered (at_time e time (send_places e place time wants_ack d));
  wrote = d;
}

unfoldable pub send_within : (below : ℕ → Bool) → End → (place time : ℕ) → (wants_ack : Bool) → (body : List ℕ) → (room : ℕ) → Step Sent
send_within below e place time wants_ack body room =
    unless (first_no (send_asks below e place time wants_ack body room)) e (send_acts e place time wants_ack (headed e.next wants_ack body))

abbrev pub send : End → (place time : ℕ) → (wants_ack : Bool) → (body : List ℕ) → (room : ℕ) → Step Sent
send = send_within numbers_left
