-- Two new ends, a list of calls on them, the log, and the theorem that it keeps the law. Assumes nothing.
use Rattle.std.specs.Prelude.{◌≡◌, ℕ, ◌<◌, ◌≤◌, Bool, true, false, cond, not, List, [], ◌∷◌, map, Some, None, Ok, Err, Option, Result, ◌==◌}
use Rattle.std.specs.Option.{option_map}
use Rattle.endpoint.specs.declared.answer.Outcome as answered
use Rattle.endpoint.specs.declared.answer.Outcome.TheVariants.{Acknowledged, Rejected}
use Rattle.endpoint.specs.declared.answer.Sent.{Sent}
use Rattle.endpoint.specs.declared.answer.Settled.{Settled}
use Rattle.endpoint.specs.declared.answer.Ticked as ticking
use Rattle.endpoint.specs.declared.answer.Ticked.TheVariants.{Resent, Unanswered, Silent, KeptAlive, Idle}
use Rattle.endpoint.specs.declared.peer.Peer.{Peer}
use Rattle.endpoint.specs.declared.refusal.Refusal.{Refusal}
use Rattle.endpoint.specs.Arrives.{Arrival}
use Rattle.endpoint.specs.Calls as calls
use Rattle.endpoint.specs.Ends.{End, new_end, same_peer, place_of, is_none}
use Rattle.endpoint.specs.Steps.{Step}
use Rattle.endpoint.specs.Timing.{numbers_left}
use Rattle.trunk.specs.Acts.{Octets, said_by, Outcome, acknowledged, rejected, Side, left, right, other, same, sent_again, gave_up, kept_alive, let_be, Act, aside, sends, ticks, arrives, Deed, History, Wrote}
use Rattle.trunk.specs.Law.{Law}
use Rattle.trunk.specs.Timely.{given, Timely}

-- how the two are set up: by which peer the other knows each of them, its start number, how deep its book is, and question 12 of both: of how
-- many numbers were given, whether one more may be
pub record Setting : Type 0 where
  pub peer : Side → Peer
  pub start : Side → ℕ
  pub depth : Side → ℕ
  pub below : ℕ → Bool

-- what is asked of a setting
pub record Sound (σ : Setting) : Type 0 where
  pub apart : same_peer (σ.peer left) (σ.peer right) ≡ false
  pub starts : (s : Side) → σ.start s < 16777216
  pub deep : (s : Side) → 1 ≤ σ.depth s
  pub shallow : (s : Side) → σ.depth s ≤ 4096

-- a call on one of the two. Where it is an arrival under the other's peer, `from` names the entry that wrote the datagram
pub record Turn : Type 0 where
  pub side : Side
  pub call : calls.Call
  pub from : ℕ

-- and what came of it
pub record Entry : Type 0 where
  pub turn : Turn
  pub answer : Result calls.Answer Refusal
  pub wrote : Octets

-- the newest first
abbrev pub Log : Type 0
Log = List Entry

-- whether a call gave a number
abbrev pub gave_in : ticking.Ticked → Bool
gave_in (Resent x) = false
gave_in (Unanswered n) = false
gave_in Silent = false
gave_in (KeptAlive x) = true
gave_in Idle = false

abbrev pub gave_with : calls.Answer → Bool
gave_with calls.enrolled = false
gave_with (calls.sent x) = true
gave_with (calls.ticked x) = gave_in x
gave_with (calls.arrived a) = not (is_none a.reply)

abbrev pub gave : Result calls.Answer Refusal → Bool
gave (Ok x) = gave_with x
gave (Err r) = false

-- an accepted send, tick and arrival as what they are between the two
abbrev pub as_send : Bool → ℕ → Octets → Octets → Result calls.Answer Refusal → Act
as_send want t b d (Ok x) = sends want t b d
as_send want t b d (Err r) = aside false

abbrev pub as_ticked : ℕ → Octets → ticking.Ticked → Act
as_ticked t d (Resent x) = ticks t (sent_again d)
as_ticked t d (Unanswered n) = ticks t gave_up
as_ticked t d Silent = ticks t let_be
as_ticked t d (KeptAlive x) = ticks t (kept_alive d)
as_ticked t d Idle = ticks t let_be

abbrev pub as_tick : ℕ → Octets → Result calls.Answer Refusal → Act
as_tick t d (Ok calls.enrolled) = aside false
as_tick t d (Ok (calls.sent x)) = aside false
as_tick t d (Ok (calls.ticked x)) = as_ticked t d x
as_tick t d (Ok (calls.arrived a)) = aside false
as_tick t d (Err r) = aside false

abbrev pub outcome_of : answered.Outcome → Outcome
outcome_of Acknowledged = acknowledged
outcome_of (Rejected r) = rejected r

abbrev pub settled_as : Settled → Outcome
settled_as x = outcome_of x.outcome

abbrev pub reply_in : Option Sent → Octets → Option Octets
reply_in None d = None
reply_in (Some x) d = Some d

abbrev pub as_arrived : ℕ → Octets → Arrival → Act
as_arrived from d a = arrives from a.fresh (map said_by a.payloads) (option_map settled_as a.settled) (reply_in a.reply d)

abbrev pub as_arrival : ℕ → Octets → Result calls.Answer Refusal → Act
as_arrival from d (Ok calls.enrolled) = aside false
as_arrival from d (Ok (calls.sent x)) = aside false
as_arrival from d (Ok (calls.ticked x)) = aside false
as_arrival from d (Ok (calls.arrived a)) = as_arrived from d a
as_arrival from d (Err r) = aside false

-- whether a place is the one of the other end, if there is one
abbrev pub is_there : Option ℕ → ℕ → Bool
is_there None p = false
is_there (Some q) p = q == p

-- what a call is between the two, for an end that has the other end, `peer`, at the place q
abbrev pub act_of : Peer → Option ℕ → calls.Call → (from : ℕ) → Result calls.Answer Refusal → Octets → Act
act_of peer q (calls.enrols p t b role) from x d = aside false
act_of peer q (calls.sends p t want b room) from x d = cond (is_there q p) (as_send want t b d x) (aside (gave x))
act_of peer q (calls.ticks p t room) from x d = cond (is_there q p) (as_tick t d x) (aside (gave x))
act_of peer q (calls.arrives t sender datagram room) from x d = cond (same_peer sender peer) (as_arrival from d x) (aside (gave x))

-- the place of the other end after a call: an accepted enrolling gives it one
abbrev pub if_enrolled : Result calls.Answer Refusal → Option ℕ → Option ℕ → Option ℕ
if_enrolled (Ok x) there q = there
if_enrolled (Err r) there q = q

abbrev pub place_after : Peer → calls.Call → Result calls.Answer Refusal → Option ℕ → Option ℕ
place_after peer (calls.enrols p t b role) x q = cond (same_peer b peer) (if_enrolled x (Some p) q) q
place_after peer (calls.sends p t want b room) x q = q
place_after peer (calls.ticks p t room) x q = q
place_after peer (calls.arrives t sender datagram room) x q = q

-- both ends and the log
pub record World : Type 0 where
  pub ends : Side → End
  pub log : Log

abbrev pub with_end : Side → End → (Side → End) → Side → End
with_end s e f x = cond (same x s) e (f x)

module _ (σ : Setting) where
  -- the place at which s has the other end
  abbrev pub place_for : Side → Log → Option ℕ
  place_for s [] = None
  place_for s (e ∷ l) = cond (same s e.turn.side) (place_after (σ.peer (other s)) e.turn.call e.answer (place_for s l)) (place_for s l)

  abbrev pub deed_of : Log → Entry → Deed
  deed_of l e = record {
    side = e.turn.side;
    act = act_of (σ.peer (other e.turn.side)) (place_for e.turn.side l) e.turn.call e.turn.from e.answer e.wrote;
  }

  abbrev pub history : Log → History
  history [] = []
  history (e ∷ l) = deed_of l e ∷ history l

  abbrev pub step_of : World → Turn → Step calls.Answer
  step_of w c = calls.called_within σ.below (σ.depth c.side) (w.ends c.side) c.call

  abbrev pub entry_of : World → Turn → Entry
  entry_of w c = record { turn = c; answer = (step_of w c).answer; wrote = (step_of w c).wrote }

  abbrev pub turned : World → Turn → World
  turned w c = record { ends = with_end c.side (step_of w c).after w.ends; log = entry_of w c ∷ w.log }

  abbrev pub run : World → List Turn → World
  run w [] = w
  run w (c ∷ cs) = run (turned w c) cs

  -- both as they are opened, and no entry yet
  abbrev pub newly : World
  newly = record { ends = λ s. new_end (σ.start s); log = [] }

  -- what arrives under the other's peer is a copy of a datagram that the other wrote earlier for this end, in the entry named. All else is free
  abbrev pub AllowedCall : World → Side → (from : ℕ) → calls.Call → Type 0
  AllowedCall w s from (calls.enrols p t b role) = Unit {0}
  AllowedCall w s from (calls.sends p t want b room) = Unit {0}
  AllowedCall w s from (calls.ticks p t room) = Unit {0}
  AllowedCall w s from (calls.arrives t sender d room) = same_peer sender (σ.peer (other s)) ≡ true → Wrote (history w.log) from (other s) d

  abbrev pub Proper : World → List Turn → Type 0
  Proper w [] = Unit {0}
  Proper w (c ∷ cs) = AllowedCall w c.side c.from c.call × Proper (turned w c) cs

  -- and it was numbered less than half the numbers ago
  abbrev pub InTimeCall : World → Side → (from : ℕ) → calls.Call → Type 0
  InTimeCall w s from (calls.enrols p t b role) = Unit {0}
  InTimeCall w s from (calls.sends p t want b room) = Unit {0}
  InTimeCall w s from (calls.ticks p t room) = Unit {0}
  InTimeCall w s from (calls.arrives t sender d room) = same_peer sender (σ.peer (other s)) ≡ true → Timely (history w.log) s from

  abbrev pub InTime : World → List Turn → Type 0
  InTime w [] = Unit {0}
  InTime w (c ∷ cs) = InTimeCall w c.side c.from c.call × InTime (turned w c) cs

  -- the history that a list of calls on the two makes
  abbrev pub history_of : List Turn → History
  history_of cs = history (run newly cs).log

-- every list of calls on two new ends keeps the law, where what arrives is in time: of ends that may give numbers for ever, too
abbrev pub TwoEndsInTimeKeepTheLaw : ℕ → ℕ → Type 0
TwoEndsInTimeKeepTheLaw tries gap =
    (σ : Setting) → Sound σ → (cs : List Turn) → Proper σ (newly σ) cs → InTime σ (newly σ) cs → Law tries gap (history_of σ cs)

-- and under the standing question 12, an end gives so few numbers that whatever arrives is in time
abbrev pub TwoEndsKeepTheLaw : ℕ → ℕ → Type 0
TwoEndsKeepTheLaw tries gap =
    (σ : Setting) → Sound σ → ((n : ℕ) → σ.below n ≡ numbers_left n) → (cs : List Turn) → Proper σ (newly σ) cs → Law tries gap (history_of σ cs)

-- what the log tells is so: the place that it gives for the other end is the one that holds it, and the numbers that it counts are those given
pub record LogTellsTruly : Type 0 where
  pub place : (σ : Setting) (cs : List Turn) → Proper σ (newly σ) cs → (s : Side)
      → place_for σ s (run σ (newly σ) cs).log ≡ place_of ((run σ (newly σ) cs).ends s) (σ.peer (other s))
  pub numbers : (σ : Setting) (cs : List Turn) → Proper σ (newly σ) cs → (s : Side) → given (history_of σ cs) s ≡ ((run σ (newly σ) cs).ends s).given
