-- Open and enrol. Assumes nothing.
use Rattle.std.specs.Prelude.{ℕ, false, cond, not, List, [], ◌∷◌, None, Ok, Err, Result, nat_le, nat_lt}
use Rattle.endpoint.specs.declared.peer.Peer.{Peer}
use Rattle.endpoint.specs.declared.peer.Role.{Role}
use Rattle.endpoint.specs.declared.refusal.Refusal.{Refusal}
use Rattle.endpoint.specs.declared.refusal.Refusal.TheVariants.{StartTooHigh, NoSuchPlace, TimeTooHigh, ClockRanBack, PlaceHeld, PeerEnrolled}
use Rattle.endpoint.specs.Ends.{Neighbour, held, End, new_end, site_at, is_held, place_of, is_none, at_time, changed}
use Rattle.endpoint.specs.Steps.{Step, Question, ask, first_no, unless, is_place}
use Rattle.endpoint.specs.Timing.{is_time}

-- a new end that gives this number first
abbrev pub opened : ℕ → Result End Refusal
opened start = cond (nat_lt start 16777216) (Ok (new_end start)) (Err StartTooHigh)

abbrev pub newcomer : Peer → Role → ℕ → Neighbour
newcomer peer role time = record { peer = peer; role = role; heard = time; last_kept_alive = time; silent = false; outstanding = None }

abbrev pub enrol_asks : End → (place time : ℕ) → Peer → List Question
enrol_asks e place time peer =
    ask NoSuchPlace (is_place place)
    ∷ ask TimeTooHigh (is_time time)
    ∷ ask ClockRanBack (nat_le e.latest time)
    ∷ ask PlaceHeld (not (is_held (site_at e place)))
    ∷ ask PeerEnrolled (is_none (place_of e peer))
    ∷ []

abbrev pub enrol_acts : End → (place time : ℕ) → Peer → Role → Step (Unit {0})
enrol_acts e place time peer role = record {
  answer = Ok tt;
  after = at_time e time (changed e place (held (newcomer peer role time)));
  wrote = [];
}

unfoldable pub enrol : End → (place time : ℕ) → Peer → Role → Step (Unit {0})
enrol e place time peer role = unless (first_no (enrol_asks e place time peer)) e (enrol_acts e place time peer role)
