-- What a call does at one of the two ends: the steps of the code, by the definitions of the whole. Assumes nothing.
use Rattle.std.specs.Prelude.{◌≡◌, ℕ, zero, suc, Bool, true, false, cond, not, ◌&&◌, List, [], ◌∷◌, length, take, Some, None, Ok, Err, Option, Result, nat_lt}
use Rattle.arrivals.specs.Meaning.{Book}
use Rattle.datagram.specs.Results.{map_ok, ask}
use Rattle.endpoint.specs.declared.answer.Sent.{Sent}
use Rattle.endpoint.specs.declared.answer.Ticked.{Ticked}
use Rattle.endpoint.specs.declared.answer.Ticked.TheVariants.{Resent, Unanswered, Silent, KeptAlive, Idle}
use Rattle.endpoint.specs.declared.peer.Peer.{Peer}
use Rattle.endpoint.specs.declared.refusal.Refusal.{Refusal}
use Rattle.endpoint.specs.Calls as calls
use Rattle.endpoint.specs.Ends.{End, new_end, same_peer, is_none}
use Rattle.endpoint.specs.Steps.{Step}
use Rattle.endpoint.specs.Views.{end_says}
use Rattle.trunk.specs.declared.log.Error.{Error}
use Rattle.trunk.specs.declared.party.Party as party
use Rattle.trunk.specs.declared.runs.Trunk.{Trunk}
use Rattle.trunk.specs.declared.setting.Side.TheVariants.{Left, Right}
use Rattle.trunk.specs.declared.log.Error.TheVariants.{StartRefused, SamePeer, NoSuchDatagram, OthersAddress, NoMemory}
use Rattle.trunk.specs.Acts.{Octets, Side, left, right, other, same}
use Rattle.trunk.specs.Runs.{by_side, or_else, is_aside, tell}
use Rattle.trunk.specs.Two.{Setting, act_of, place_after}
use Rattle.trunk.specs.Views.{side_says, Order, enrol, send, tick, arrive, hear, Ask, Answer, enrolled, sent, ticked, arrived, Report}

-- the datagram that an answer tells of, if one was written
abbrev pub sent_in_tick : Ticked → Option Sent
sent_in_tick (Resent x) = Some x
sent_in_tick (Unanswered n) = None
sent_in_tick Silent = None
sent_in_tick (KeptAlive x) = Some x
sent_in_tick Idle = None

abbrev pub sent_in : Answer → Option Sent
sent_in enrolled = None
sent_in (sent x) = Some x
sent_in (ticked x) = sent_in_tick x
sent_in (arrived a) = a.reply

abbrev pub sent_by : Result Answer Refusal → Option Sent
sent_by (Ok a) = sent_in a
sent_by (Err r) = None

abbrev pub size_in : Option Sent → ℕ
size_in None = 0
size_in (Some x) = x.size

abbrev pub is_accepted : Result Answer Refusal → Bool
is_accepted (Ok a) = true
is_accepted (Err r) = false

-- the report of a call that was lent a buffer, which is this afterwards; `met` says whether it was meant for the other end
abbrev pub entered : Side → Result Answer Refusal → Octets → (met : Bool) → Report
entered s x buffer met = record { side = s; answer = x; wrote = take (size_in (sent_by x)) buffer; between = met && is_accepted x }

-- the datagram that a report tells of, if s wrote it for the other end
abbrev pub line_of : Side → Report → Option Octets
line_of s r = cond (same s r.side) (cond (r.between && not (is_none (sent_by r.answer))) (Some r.wrote) None) None

abbrev pub line_at : List Report → ℕ → Side → Option Octets
line_at [] k s = None
line_at (r ∷ rs) zero s = line_of s r
line_at (r ∷ rs) (suc k) s = line_at rs k s

-- a call that is asked for at the end s, which knows the other as `peer`, behind these reports
abbrev pub call_for : Peer → Side → List Report → Order → Result calls.Call Error
call_for peer s rs (enrol place time b role) = Ok (calls.enrols place time b role)
call_for peer s rs (send place time wants_ack body room) = Ok (calls.sends place time wants_ack body room)
call_for peer s rs (tick place time room) = Ok (calls.ticks place time room)
call_for peer s rs (arrive time entry room) = map_ok (λ d. calls.arrives time peer d room) (or_else (line_at rs entry (other s)) (NoSuchDatagram (length rs)))
call_for peer s rs (hear time sender octets room) = ask (not (same_peer sender peer)) (OthersAddress (length rs)) (Ok (calls.arrives time sender octets room))

-- the entry that an order names
abbrev pub from_of : Order → ℕ
from_of (enrol place time b role) = 0
from_of (send place time wants_ack body room) = 0
from_of (tick place time room) = 0
from_of (arrive time entry room) = entry
from_of (hear time sender octets room) = 0

-- one of the two ends: which it is, how it knows the other, what it knows, and at which place it has the other
pub record Party : Type 0 where
  pub side : Side
  pub peer : Peer
  pub end : End
  pub place : Option ℕ

-- before its first call
abbrev pub new_party : Side → Peer → (start : ℕ) → Party
new_party s peer start = record { side = s; peer = peer; end = new_end start; place = None }

-- what is reported of a step that the call c was for it, and what it is then
abbrev pub reported : Party → calls.Call → ℕ → Step calls.Answer → Report
reported p c from x = record {
  side = p.side;
  answer = map_ok tell x.answer;
  wrote = x.wrote;
  between = not (is_aside (act_of p.peer p.place c from x.answer x.wrote));
}

abbrev pub stepped : Party → calls.Call → Step calls.Answer → Party
stepped p c x = record { side = p.side; peer = p.peer; end = x.after; place = place_after p.peer c x.answer p.place }

-- the call c came to this report, and left the party as p'
pub record Enters (depth : ℕ) (p : Party) (c : calls.Call) (from : ℕ) (report : Report) (p' : Party) : Type 0 where
  pub reports : report ≡ reported p c from (calls.called depth p.end c)
  pub leaves : p' ≡ stepped p c (calls.called depth p.end c)

-- what a party answers to an order: the report of the call that it is, or why it does not belong
pub record Accepts (depth : ℕ) (p : Party) (rs : List Report) (o : Order) (report : Report) (p' : Party) : Type 0 where
  pub call : calls.Call
  pub is : call_for p.peer p.side rs o ≡ Ok call
  pub enters : Enters depth p call (from_of o) report p'

abbrev pub Takes : ℕ → Party → List Report → Order → Result Report Error → Party → Type 0
Takes depth p rs o (Ok report) p' = Accepts depth p rs o report p'
Takes depth p rs o (Err (StartRefused x)) p' = ⊥
Takes depth p rs o (Err SamePeer) p' = ⊥
Takes depth p rs o (Err (NoSuchDatagram k)) p' = call_for p.peer p.side rs o ≡ Err (NoSuchDatagram k)
Takes depth p rs o (Err (OthersAddress k)) p' = call_for p.peer p.side rs o ≡ Err (OthersAddress k)
Takes depth p rs o (Err NoMemory) p' = Unit {0}

-- a party in code, over a kind of book that has seen so much
abbrev pub party_says : {B : Type 0} → (B → Book) → party.Party B → Party
party_says seen p = record { side = side_says p.side; peer = p.peer; end = end_says seen p.endpoint; place = p.place }

-- both parties, opened: the left one is asked first, and they must differ
abbrev pub opened : Setting → Result (Side → Party) Error
opened σ =
    ask (nat_lt (σ.start left) 16777216) (StartRefused Left)
    (ask (nat_lt (σ.start right) 16777216) (StartRefused Right)
    (ask (not (same_peer (σ.peer left) (σ.peer right))) SamePeer
    (Ok (by_side (new_party left (σ.peer right) (σ.start left)) (new_party right (σ.peer left) (σ.start right))))))

-- one of the two takes a call, and the other stays as it was
pub record TakesTurn (depth : Side → ℕ) (ps : Side → Party) (rs : List Report) (a : Ask) (r : Result Report Error) (ps' : Side → Party) : Type 0 where
  pub takes : Takes (depth a.side) (ps a.side) rs a.order r (ps' a.side)
  pub stays : ps' (other a.side) ≡ ps (other a.side)

-- both parties in code
abbrev pub trunk_says : {L R : Type 0} → (L → Book) → (R → Book) → Trunk L R → Side → Party
trunk_says of_left of_right t = by_side (party_says of_left t.left) (party_says of_right t.right)
