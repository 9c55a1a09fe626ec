-- What the calls and the log of the code say, as plain values. Assumes nothing.
use Rattle.std.specs.Prelude.{ℕ, Bool, List, map, vec_items, Option, Result}
use Rattle.datagram.specs.Results.{map_ok}
use Rattle.endpoint.specs.declared.answer.Sent.{Sent}
use Rattle.endpoint.specs.declared.answer.Settled.{Settled}
use Rattle.endpoint.specs.declared.answer.Ticked.{Ticked}
use Rattle.endpoint.specs.declared.peer.Peer.{Peer}
use Rattle.endpoint.specs.declared.peer.Role.{Role}
use Rattle.endpoint.specs.declared.refusal.Refusal.{Refusal}
use Rattle.trunk.specs.declared.call.Call as call
use Rattle.trunk.specs.declared.call.Call.TheVariants as calling
use Rattle.trunk.specs.declared.call.Turn as turn
use Rattle.trunk.specs.declared.log.Answer as answer
use Rattle.trunk.specs.declared.log.Answer.TheVariants as answering
use Rattle.trunk.specs.declared.log.Arrival as arrival
use Rattle.trunk.specs.declared.log.Entry as entry
use Rattle.trunk.specs.declared.log.HandedOut.{HandedOut}
use Rattle.trunk.specs.declared.setting.Side as end
use Rattle.trunk.specs.declared.setting.Side.TheVariants.{Left, Right}
use Rattle.trunk.specs.Acts.{Octets, Said, Side, left, right}

abbrev pub side_says : end.Side → Side
side_says Left = left
side_says Right = right

-- a call as it is asked for: an arrival under the other end's address names the entry that wrote the datagram
pub data Order : Type 0 where
  enrol : (place time : ℕ) (peer : Peer) (role : Role) → Order
  send : (place time : ℕ) (wants_ack : Bool) (body : Octets) (room : ℕ) → Order
  tick : (place time room : ℕ) → Order
  arrive : (time entry room : ℕ) → Order
  hear : (time : ℕ) (sender : Peer) (octets : Octets) (room : ℕ) → Order

abbrev pub call_says : call.Call → Order
call_says (calling.Enrol place time peer role) = enrol place time peer role
call_says (calling.Send place time wants_ack body room) = send place time wants_ack (vec_items body) room
call_says (calling.Tick place time room) = tick place time room
call_says (calling.Arrive time entry room) = arrive time entry room
call_says (calling.Hear time sender octets room) = hear time sender (vec_items octets) room

pub record Ask : Type 0 where
  pub side : Side
  pub order : Order

abbrev pub turn_says : turn.Turn → Ask
turn_says t = record { side = side_says t.side; order = call_says t.call }

-- what is reported of a call
pub record Arrival : Type 0 where
  pub fresh : Bool
  pub handed : List Said
  pub settled : Option Settled
  pub reply : Option Sent

pub data Answer : Type 0 where
  enrolled : Answer
  sent : Sent → Answer
  ticked : Ticked → Answer
  arrived : Arrival → Answer

-- its answer, the octets that it wrote, and whether it was accepted and between the two ends
pub record Report : Type 0 where
  pub side : Side
  pub answer : Result Answer Refusal
  pub wrote : Octets
  pub between : Bool

abbrev pub handed_says : HandedOut → Said
handed_says h = record { type = h.kind; crv = h.crv; octets = vec_items h.«data» }

abbrev pub arrival_says : arrival.Arrival → Arrival
arrival_says a = record { fresh = a.fresh; handed = map handed_says (vec_items a.payloads); settled = a.settled; reply = a.reply }

abbrev pub answer_says : answer.Answer → Answer
answer_says answering.Enrolled = enrolled
answer_says (answering.Sent x) = sent x
answer_says (answering.Ticked x) = ticked x
answer_says (answering.Arrived a) = arrived (arrival_says a)

abbrev pub entry_says : entry.Entry → Report
entry_says e = record { side = side_says e.side; answer = map_ok answer_says e.answer; wrote = vec_items e.wrote; between = e.between }
