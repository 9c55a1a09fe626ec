-- Questions of the calls, as the code asks them in parts. Assumes nothing.
use Rattle.std.specs.Prelude.{ℕ, not, ◌||◌, List, [], ◌∷◌, length, nat_le}
use Rattle.arrivals.specs.Meaning.{judged}
use Rattle.datagram.specs.Structures.{Content}
use Rattle.endpoint.specs.declared.peer.Peer.{Peer}
use Rattle.endpoint.specs.declared.refusal.Refusal.TheVariants.{NoSuchPlace, TimeTooHigh, ClockRanBack, PlaceVacant, BufferTooShort, SenderUnknown, TooOld, ReplyTooLong, NumbersSpent}
use Rattle.endpoint.specs.Arrives.{is_current}
use Rattle.endpoint.specs.Ends.{End, site_at, is_held, place_of, is_none}
use Rattle.endpoint.specs.Replies.{is_empty, reply_octets}
use Rattle.endpoint.specs.Steps.{Question, ask, is_place, has_room}
use Rattle.endpoint.specs.Timing.{is_time, numbers_left}

-- several calls begin with these
abbrev pub time_asks : End → (time : ℕ) → List Question
time_asks e time = ask TimeTooHigh (is_time time) ∷ ask ClockRanBack (nat_le e.latest time) ∷ []

abbrev pub place_asks : End → (place time : ℕ) → List Question
place_asks e place time = ask NoSuchPlace (is_place place) ∷ time_asks e time

-- of a call that may write to the neighbour of a place
abbrev pub writing_asks : End → (place time room : ℕ) → List Question
writing_asks e place time room =
    ask NoSuchPlace (is_place place)
    ∷ ask TimeTooHigh (is_time time)
    ∷ ask ClockRanBack (nat_le e.latest time)
    ∷ ask PlaceVacant (is_held (site_at e place))
    ∷ ask BufferTooShort (has_room room)
    ∷ []

-- of an arrival, before the datagram is read, and after
abbrev pub sender_asks : End → (time : ℕ) → (sender : Peer) → (room : ℕ) → List Question
sender_asks e time sender room =
    ask TimeTooHigh (is_time time)
    ∷ ask ClockRanBack (nat_le e.latest time)
    ∷ ask SenderUnknown (not (is_none (place_of e sender)))
    ∷ ask BufferTooShort (has_room room)
    ∷ []

abbrev pub reply_asks : ℕ → End → (place number : ℕ) → (reply : List Content) → List Question
reply_asks depth e place number reply =
    ask TooOld (is_current (judged depth e.book place number))
    ∷ ask ReplyTooLong (nat_le (length (reply_octets e.next reply)) 1024)
    ∷ ask NumbersSpent (is_empty reply || numbers_left e.given)
    ∷ []
