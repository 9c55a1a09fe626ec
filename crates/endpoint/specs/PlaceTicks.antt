-- What a tick does at its place, apart from the endpoint. Assumes nothing.
use Rattle.std.specs.Prelude.{◌≡◌, ℕ, ◌+◌, ◌%◌, Bool, cond, not, ◌||◌, List, [], ◌++◌, length, drop, None, Ok, Err, Result}
use Rattle.endpoint.specs.declared.answer.Ticked.{Ticked}
use Rattle.endpoint.specs.declared.answer.Ticked.TheVariants.{Resent, Unanswered, Silent, KeptAlive, Idle}
use Rattle.endpoint.specs.declared.refusal.Refusal.{Refusal}
use Rattle.endpoint.specs.declared.refusal.Refusal.TheVariants.{NumbersSpent}
use Rattle.endpoint.specs.Ends.{Neighbour, held, Site, with_outstanding}
use Rattle.endpoint.specs.Steps.{sent_as}
use Rattle.endpoint.specs.Ticks.{Move, resends, gives_up, marks_silent, keeps_alive, rests, takes_number, resent_at, now_silent, kept_alive_at}
use Rattle.endpoint.specs.Timing.{numbers_left}
use Rattle.writer.specs.Bodies.{calling}
use Rattle.writer.specs.Values.{written}

-- what a move makes of its site, and what it answers and writes under the number to give next
abbrev pub site_after : ℕ → Move → Site → Site
site_after time (resends m) s = resent_at time m s
site_after time (gives_up m) s = with_outstanding None s
site_after time marks_silent s = now_silent s
site_after time keeps_alive s = kept_alive_at time s
site_after time rests s = s

abbrev pub answer_to : ℕ → Move → Ticked
answer_to next (resends m) = Resent (sent_as m.number m.octets)
answer_to next (gives_up m) = Unanswered m.number
answer_to next marks_silent = Silent
answer_to next keeps_alive = KeptAlive (sent_as next (written (calling next)))
answer_to next rests = Idle

abbrev pub octets_of : ℕ → Move → List ℕ
octets_of next (resends m) = m.octets
octets_of next (gives_up m) = []
octets_of next marks_silent = []
octets_of next keeps_alive = written (calling next)
octets_of next rests = []

-- whether a move may be made when so many numbers were given
abbrev pub may_move : ℕ → Move → Bool
may_move given m = not (takes_number m) || numbers_left given

-- how many numbers were given after a move, and which comes next
abbrev pub given_after : Move → ℕ → ℕ
given_after m given = cond (takes_number m) (given + 1) given

abbrev pub next_after : Move → ℕ → ℕ
next_after m next = cond (takes_number m) ((next + 1) % 16777216) next

-- a neighbour n made the move m at a time, or was refused: it is n' then, and the buffer b is b'
pub record Makes (time : ℕ) (m : Move) (n : Neighbour) (given next : ℕ) (b : List ℕ) (r : Result Ticked Refusal) (n' : Neighbour) (given' next' : ℕ) (b' : List ℕ) : Type 0 where
  pub answers : r ≡ cond (may_move given m) (Ok (answer_to next m)) (Err NumbersSpent)
  pub leaves : held n' ≡ cond (may_move given m) (site_after time m (held n)) (held n)
  pub gives : given' ≡ cond (may_move given m) (given_after m given) given
  pub turns : next' ≡ cond (may_move given m) (next_after m next) next
  pub writes : b' ≡ cond (may_move given m) (octets_of next m ++ drop (length (octets_of next m)) b) b
