-- A list of calls run on two new ends: the log that comes of it, or why one of the calls does not belong. Assumes nothing.
use Rattle.std.specs.Prelude.{◌≡◌, ℕ, Bool, true, false, cond, not, List, [], ◌∷◌, ◌++◌, map, length, Some, None, Ok, Err, Option, Result, ◌==◌, nat_lt}
use Rattle.datagram.specs.Results.{map_ok, and_then, ask}
use Rattle.endpoint.specs.Arrives as Arrives
use Rattle.endpoint.specs.Calls as calls
use Rattle.endpoint.specs.Ends.{same_peer}
use Rattle.endpoint.specs.Timing.{numbers_left}
use Rattle.trunk.specs.declared.log.Error.{Error}
use Rattle.trunk.specs.declared.log.Error.TheVariants.{StartRefused, SamePeer, NoSuchDatagram, OthersAddress, NoMemory}
use Rattle.trunk.specs.declared.setting.Setting as setting
use Rattle.trunk.specs.declared.setting.Side.TheVariants.{Left, Right}
use Rattle.trunk.specs.Acts.{Octets, said_by, Side, left, right, other, same, Act, aside, sends, ticks, arrives, History, wrote}
use Rattle.trunk.specs.Law.{Law}
use Rattle.trunk.specs.Two.{Setting, Turn, Entry, Log, World, deed_of, history, turned, newly}
use Rattle.trunk.specs.Views.{Order, enrol, send, tick, arrive, hear, Ask, Arrival, Answer, enrolled, sent, ticked, arrived, Report}

-- the setting that the code is given, over books of these depths, with the standing question 12
abbrev pub by_side : {X : Type 0} → X → X → Side → X
by_side x y left = x
by_side x y right = y

abbrev pub setting_says : (of_left of_right : ℕ) → setting.Setting → Setting
setting_says of_left of_right s = record {
  peer = by_side s.left.peer s.right.peer;
  start = by_side s.left.start s.right.start;
  depth = by_side of_left of_right;
  below = numbers_left;
}

-- the datagram that s wrote for the other end at entry k, if it did
abbrev pub wrote_at : History → ℕ → Side → Option Octets
wrote_at [] k s = None
wrote_at (d ∷ h) k s = cond (k == length h) (cond (same s d.side) (wrote d.act) None) (wrote_at h k s)

abbrev pub turn : Side → calls.Call → ℕ → Turn
turn s c from = record { side = s; call = c; from = from }

abbrev pub or_else : {X : Type 0} → Option X → Error → Result X Error
or_else (Some x) e = Ok x
or_else None e = Err e

-- whether a call was between the two, and what is told of its answer
abbrev pub is_aside : Act → Bool
is_aside (aside gave) = true
is_aside (sends want time body datagram) = false
is_aside (ticks time x) = false
is_aside (arrives from fresh handed outcome reply) = false

abbrev pub tell_arrival : Arrives.Arrival → Arrival
tell_arrival a = record { fresh = a.fresh; handed = map said_by a.payloads; settled = a.settled; reply = a.reply }

abbrev pub tell : calls.Answer → Answer
tell calls.enrolled = enrolled
tell (calls.sent x) = sent x
tell (calls.ticked x) = ticked x
tell (calls.arrived a) = arrived (tell_arrival a)

module _ (σ : Setting) where
  -- a call that is asked for, as a call on an end: what arrives under the other's address is a copy of what the entry named wrote
  abbrev pub turn_for : World → Side → Order → Result Turn Error
  turn_for w s (enrol place time peer role) = Ok (turn s (calls.enrols place time peer role) 0)
  turn_for w s (send place time wants_ack body room) = Ok (turn s (calls.sends place time wants_ack body room) 0)
  turn_for w s (tick place time room) = Ok (turn s (calls.ticks place time room) 0)
  turn_for w s (arrive time entry room) =
      map_ok (λ d. turn s (calls.arrives time (σ.peer (other s)) d room) entry)
      (or_else (wrote_at (history σ w.log) entry (other s)) (NoSuchDatagram (length w.log)))
  turn_for w s (hear time sender octets room) =
      ask (not (same_peer sender (σ.peer (other s)))) (OthersAddress (length w.log))
      (Ok (turn s (calls.arrives time sender octets room) 0))

  abbrev pub played : World → List Ask → Result World Error
  played w [] = Ok w
  played w (a ∷ cs) = and_then (turn_for w a.side a.order) (λ c. played (turned σ w c) cs)

  -- the two are opened, and must differ
  abbrev pub ran : List Ask → Result World Error
  ran cs =
      ask (nat_lt (σ.start left) 16777216) (StartRefused Left)
      (ask (nat_lt (σ.start right) 16777216) (StartRefused Right)
      (ask (not (same_peer (σ.peer left) (σ.peer right))) SamePeer
      (played (newly σ) cs)))

  -- what is reported of an entry, which has these before it
  abbrev pub report_of : Log → Entry → Report
  report_of l e = record { side = e.turn.side; answer = map_ok tell e.answer; wrote = e.wrote; between = not (is_aside (deed_of σ l e).act) }

  -- the oldest first
  abbrev pub told : Log → List Report
  told [] = []
  told (e ∷ l) = told l ++ (report_of l e ∷ [])

  -- a run that comes to a log: what is reported is that log, and the law holds of it
  pub record Lawful (cs : List Ask) (reports : List Report) (tries gap : ℕ) : Type 0 where
    pub world : World
    pub comes : ran cs ≡ Ok world
    pub reported : reports ≡ told world.log
    pub law : Law tries gap (history σ world.log)

  -- what a run answers; only want of memory is left open
  abbrev pub Runs : List Ask → Result (List Report) Error → ℕ → ℕ → Type 0
  Runs cs (Ok reports) tries gap = Lawful cs reports tries gap
  Runs cs (Err (StartRefused side)) tries gap = ran cs ≡ Err (StartRefused side)
  Runs cs (Err SamePeer) tries gap = ran cs ≡ Err SamePeer
  Runs cs (Err (NoSuchDatagram call)) tries gap = ran cs ≡ Err (NoSuchDatagram call)
  Runs cs (Err (OthersAddress call)) tries gap = ran cs ≡ Err (OthersAddress call)
  Runs cs (Err NoMemory) tries gap = Unit {0}
