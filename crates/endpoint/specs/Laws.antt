-- Laws of one end, whatever is called, at the limits of ends. Assumes nothing.
use Rattle.std.specs.Prelude.{◌≡◌, ℕ, ◌+◌, ◌%◌, ◌<◌, ◌≤◌, true, cond, List, [], length, Some, None, Ok, Err, Option, ◌≢◌, nat_le, nat_lt}
use Rattle.std.specs.Option.{option_map}
use Rattle.endpoint.specs.declared.laws.Limits.{Limits}
use Rattle.endpoint.specs.declared.peer.Peer.{Peer}
use Rattle.endpoint.specs.declared.refusal.Refusal.{Refusal}
use Rattle.endpoint.specs.declared.refusal.Refusal.TheVariants.{StartTooHigh}
use Rattle.endpoint.specs.Calls.{Call, Answer, called, after, time_of, own_place}
use Rattle.endpoint.specs.Ends.{Message, Neighbour, End, new_end, site_at, outstanding_at, holds_peer}
use Rattle.endpoint.specs.Enrols.{opened}
use Rattle.endpoint.specs.Timing.{timers_of, is_time, numbers_left}

-- a refused call changes nothing and writes nothing
pub record Unchanged (depth : ℕ) (e : End) (c : Call) : Type 0 where
  pub end : (called depth e c).after ≡ e
  pub buffer : (called depth e c).wrote ≡ []

abbrev pub RefusedChangesNothing : Type 0
RefusedChangesNothing = (depth : ℕ) (e : End) (c : Call) (r : Refusal) → (called depth e c).answer ≡ Err r → Unchanged depth e c

-- a call changes its own place, and leaves the others as they were, in the book too
pub record OthersStay : Type 0 where
  pub sites : (depth : ℕ) (e : End) (c : Call) (q : ℕ) → (q ≢ own_place e c) → site_at (called depth e c).after q ≡ site_at e q
  pub book : (depth : ℕ) (e : End) (c : Call) (q : ℕ) → (q ≢ own_place e c) → (called depth e c).after.book q ≡ e.book q

-- the latest time never falls, and is that of the last accepted call
pub record ClockRunsOn : Type 0 where
  pub forward : (depth : ℕ) (e : End) (c : Call) → e.latest ≤ (called depth e c).after.latest
  pub accepted : (depth : ℕ) (e : End) (c : Call) (a : Answer) → (called depth e c).answer ≡ Ok a → (called depth e c).after.latest ≡ time_of c

-- the numbers that an end gives run on from the first and wrap
abbrev pub NumbersInTurn : Type 0
NumbersInTurn = (depth start : ℕ) (cs : List Call) → start < 16777216 → (after depth (new_end start) cs).next ≡ (start + (after depth (new_end start) cs).given) % 16777216

-- a peer is at one place at most
abbrev pub OnePlaceEach : Type 0
OnePlaceEach =
    (depth start : ℕ) (cs : List Call) (peer : Peer) (p q : ℕ) → holds_peer peer (site_at (after depth (new_end start) cs) p) ≡ true
    → holds_peer peer (site_at (after depth (new_end start) cs) q) ≡ true → p ≡ q

-- what holds of every outstanding message
pub record SoundMessage (l : Limits) (m : Message) : Type 0 where
  pub sent : 1 ≤ m.transmissions
  pub tries : m.transmissions ≤ l.timers.tries
  pub smallest : l.smallest ≤ length m.octets
  pub largest : length m.octets ≤ l.largest

abbrev pub SoundOutstanding : Limits → Option Message → Type 0
SoundOutstanding l None = Unit {0}
SoundOutstanding l (Some m) = SoundMessage l m

-- what holds of every end
pub record Sound (l : Limits) (e : End) : Type 0 where
  pub places : length e.places ≡ l.places
  pub next : e.next < l.numbers
  pub given : e.given ≤ l.given
  pub latest : e.latest ≤ l.last_time
  pub messages : (place : ℕ) → SoundOutstanding l (outstanding_at (site_at e place))

pub record AlwaysSound (l : Limits) : Type 0 where
  pub new : (start : ℕ) (e : End) → opened start ≡ Ok e → Sound l e
  pub kept : (depth : ℕ) (e : End) (c : Call) → Sound l e → Sound l (called depth e c).after
  pub always : (depth start : ℕ) (cs : List Call) (e : End) → opened start ≡ Ok e → Sound l (after depth e cs)

-- a number of the message that is outstanding at place 0 of a new end after calls
abbrev pub outstanding_after : (Message → ℕ) → List Call → Option ℕ
outstanding_after f cs = option_map f (outstanding_at (site_at (after 1 (new_end 0) cs) 0))

abbrev pub ComesAbout : (Message → ℕ) → ℕ → Type 0
ComesAbout f n = (cs : List Call) × (outstanding_after f cs ≡ Some n)

-- no limit is wider than need be: each is the one that a question asks by, or that some calls reach
pub record LimitsMet (l : Limits) : Type 0 where
  pub numbers : (start : ℕ) → opened start ≡ cond (nat_lt start l.numbers) (Ok (new_end start)) (Err StartTooHigh)
  pub given : (n : ℕ) → numbers_left n ≡ nat_lt n l.given
  pub last_time : (time : ℕ) → is_time time ≡ nat_le time l.last_time
  pub timers : (n : Neighbour) → timers_of n ≡ l.timers
  pub tries : ComesAbout (λ m. m.transmissions) l.timers.tries
  pub smallest : ComesAbout (λ m. length m.octets) l.smallest
  pub largest : ComesAbout (λ m. length m.octets) l.largest
