-- Tick: of what time brings at a place, the first that applies. Assumes nothing.
use Rattle.std.specs.Prelude.{ℕ, ◌+◌, max, Bool, true, false, cond, not, ◌&&◌, ◌||◌, List, [], ◌∷◌, Some, None, Ok, Option, nat_le, nat_lt}
use Rattle.writer.specs.Bodies.{calling}
use Rattle.writer.specs.Values.{written}
use Rattle.endpoint.specs.declared.answer.Ticked.{Ticked}
use Rattle.endpoint.specs.declared.answer.Ticked.TheVariants.{Resent, Unanswered, Silent, KeptAlive, Idle}
use Rattle.endpoint.specs.declared.peer.Role.{Role}
use Rattle.endpoint.specs.declared.peer.Role.TheVariants.{Master, Slave}
use Rattle.endpoint.specs.declared.refusal.Refusal.TheVariants.{NoSuchPlace, TimeTooHigh, ClockRanBack, PlaceVacant, BufferTooShort, NumbersSpent}
use Rattle.endpoint.specs.declared.timers.Timers.{Timers}
use Rattle.endpoint.specs.Ends.{Message, Neighbour, Site, vacant, held, End, site_at, is_held, at_time, numbered, changed, with_outstanding}
use Rattle.endpoint.specs.Steps.{Step, Question, ask, first_no, unless, is_place, has_room, sent_as}
use Rattle.endpoint.specs.Timing.{timers_of, is_time, numbers_left}

pub data Move : Type 0 where
  resends : Message → Move
  gives_up : Message → Move
  marks_silent : Move
  keeps_alive : Move
  rests : Move

abbrev pub is_master : Role → Bool
is_master Master = true
is_master Slave = false

-- not silent, and long unheard
abbrev pub falls_silent : Timers → ℕ → Neighbour → Bool
falls_silent τ time n = not n.silent && nat_le (n.heard + τ.silence) time

-- a master, and the line was long at rest
abbrev pub long_at_rest : Timers → ℕ → Neighbour → Bool
long_at_rest τ time n = is_master n.role && nat_le (max n.heard n.last_kept_alive + τ.rest) time

-- where no message is due
abbrev pub watches : Timers → ℕ → Neighbour → Move
watches τ time n = cond (falls_silent τ time n) marks_silent (cond (long_at_rest τ time n) keeps_alive rests)

-- a message that is due
abbrev pub retries : Timers → Message → Move
retries τ m = cond (nat_lt m.transmissions τ.tries) (resends m) (gives_up m)

abbrev pub move_with : Timers → ℕ → Option Message → Neighbour → Move
move_with τ time None n = watches τ time n
move_with τ time (Some m) n = cond (nat_le m.due time) (retries τ m) (watches τ time n)

abbrev pub move_at : ℕ → Site → Move
move_at time vacant = rests
move_at time (held n) = move_with (timers_of n) time n.outstanding n

abbrev pub takes_number : Move → Bool
takes_number (resends m) = false
takes_number (gives_up m) = false
takes_number marks_silent = false
takes_number keeps_alive = true
takes_number rests = false

abbrev pub tick_asks : (below : ℕ → Bool) → End → (place time room : ℕ) → List Question
tick_asks below e place time room =
    ask NoSuchPlace (is_place place)
    ∷ ask TimeTooHigh (is_time time)
    ∷ ask ClockRanBack (nat_le e.latest time)
    ∷ ask PlaceVacant (is_held (site_at e place))
    ∷ ask BufferTooShort (has_room room)
    ∷ ask NumbersSpent (not (takes_number (move_at time (site_at e place))) || below e.given)
    ∷ []

-- a message sent once more
abbrev pub resent_message : Timers → ℕ → Message → Message
resent_message τ time m = record { number = m.number; transmissions = m.transmissions + 1; due = time + τ.later; octets = m.octets }

abbrev pub resent_at : ℕ → Message → Site → Site
resent_at time m vacant = vacant
resent_at time m (held n) = with_outstanding (Some (resent_message (timers_of n) time m)) (held n)

abbrev pub now_silent : Site → Site
now_silent vacant = vacant
now_silent (held n) =
    held (record { peer = n.peer; role = n.role; heard = n.heard; last_kept_alive = n.last_kept_alive; silent = true; outstanding = n.outstanding })

abbrev pub kept_alive_at : ℕ → Site → Site
kept_alive_at time vacant = vacant
kept_alive_at time (held n) =
    held (record { peer = n.peer; role = n.role; heard = n.heard; last_kept_alive = time; silent = n.silent; outstanding = n.outstanding })

abbrev pub tick_acts : End → (place time : ℕ) → Move → Step Ticked
tick_acts e place time (resends m) = record {
  answer = Ok (Resent (sent_as m.number m.octets));
  after = at_time e time (changed e place (resent_at time m (site_at e place)));
  wrote = m.octets;
}
tick_acts e place time (gives_up m) = record {
  answer = Ok (Unanswered m.number);
  after = at_time e time (changed e place (with_outstanding None (site_at e place)));
  wrote = [];
}
tick_acts e place time marks_silent = record {
  answer = Ok Silent;
  after = at_time e time (changed e place (now_silent (site_at e place)));
  wrote = [];
}
tick_acts e place time keeps_alive = record {
  answer = Ok (KeptAlive (sent_as e.next (written (calling e.next))));
  after = numbered (at_time e time (changed e place (kept_alive_at time (site_at e place))));
  wrote = written (calling e.next);
}
tick_acts e place time rests = record { answer = Ok Idle; after = at_time e time e.places; wrote = [] }

unfoldable pub tick_within : (below : ℕ → Bool) → End → (place time room : ℕ) → Step Ticked
tick_within below e place time room = unless (first_no (tick_asks below e place time room)) e (tick_acts e place time (move_at time (site_at e place)))

abbrev pub tick : End → (place time room : ℕ) → Step Ticked
tick = tick_within numbers_left
