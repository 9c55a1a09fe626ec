-- The four calls on an open end as one, and an end after a list of them. Assumes nothing.
use Rattle.std.specs.Prelude.{ℕ, Bool, List, [], ◌∷◌}
use Rattle.datagram.specs.Results.{map_ok}
use Rattle.endpoint.specs.declared.answer.Sent.{Sent}
use Rattle.endpoint.specs.declared.answer.Ticked.{Ticked}
use Rattle.endpoint.specs.declared.peer.Peer.{Peer}
use Rattle.endpoint.specs.declared.peer.Role.{Role}
use Rattle.endpoint.specs.Arrives.{Arrival, arrive_within, sender_place}
use Rattle.endpoint.specs.Ends.{End}
use Rattle.endpoint.specs.Enrols.{enrol}
use Rattle.endpoint.specs.Sends.{send_within}
use Rattle.endpoint.specs.Steps.{Step}
use Rattle.endpoint.specs.Ticks.{tick_within}
use Rattle.endpoint.specs.Timing.{numbers_left}

pub data Call : Type 0 where
  enrols : (place time : ℕ) (peer : Peer) (role : Role) → Call
  sends : (place time : ℕ) (wants_ack : Bool) (body : List ℕ) (room : ℕ) → Call
  ticks : (place time room : ℕ) → Call
  arrives : (time : ℕ) (sender : Peer) (d : List ℕ) (room : ℕ) → Call

pub data Answer : Type 0 where
  enrolled : Answer
  sent : Sent → Answer
  ticked : Ticked → Answer
  arrived : Arrival → Answer

abbrev pub answering : {A : Type 0} → (A → Answer) → Step A → Step Answer
answering f s = record { answer = map_ok f s.answer; after = s.after; wrote = s.wrote }

-- under any question 12, and under the standing one
abbrev pub called_within : (below : ℕ → Bool) → ℕ → End → Call → Step Answer
called_within below depth e (enrols place time peer role) = answering (λ u. enrolled) (enrol e place time peer role)
called_within below depth e (sends place time wants_ack body room) = answering sent (send_within below e place time wants_ack body room)
called_within below depth e (ticks place time room) = answering ticked (tick_within below e place time room)
called_within below depth e (arrives time sender d room) = answering arrived (arrive_within below depth e time sender d room)

abbrev pub called : ℕ → End → Call → Step Answer
called = called_within numbers_left

abbrev pub after : ℕ → End → List Call → End
after depth e [] = e
after depth e (c ∷ cs) = after depth (called depth e c).after cs

abbrev pub time_of : Call → ℕ
time_of (enrols place time peer role) = time
time_of (sends place time wants_ack body room) = time
time_of (ticks place time room) = time
time_of (arrives time sender d room) = time

-- the place that a call is about
abbrev pub own_place : End → Call → ℕ
own_place e (enrols place time peer role) = place
own_place e (sends place time wants_ack body room) = place
own_place e (ticks place time room) = place
own_place e (arrives time sender d room) = sender_place e sender
