-- A call: questions in their order, and what is done if none is answered with no. Assumes nothing.
use Rattle.std.specs.Prelude.{◌≡◌, ℕ, Bool, true, false, cond, List, [], ◌∷◌, ◌++◌, length, drop, Some, None, Ok, Err, Option, Result, nat_le, nat_lt}
use Rattle.datagram.specs.declared.fault.Fault.{Fault}
use Rattle.endpoint.specs.declared.answer.Sent.{Sent}
use Rattle.endpoint.specs.declared.refusal.Refusal.{Refusal}
use Rattle.endpoint.specs.declared.refusal.Refusal.TheVariants.{Unreadable, BodySize}
use Rattle.endpoint.specs.Ends.{End}

-- the answer, the end after the call, and the octets written to the front of the caller's buffer, whose others stay
pub record Step (A : Type 0) : Type 0 where
  pub answer : Result A Refusal
  pub after : End
  pub wrote : List ℕ

-- a question, with the refusal that a no gives
pub record Question : Type 0 where
  pub refusal : Refusal
  pub passed : Bool

abbrev pub ask : Refusal → Bool → Question
ask refusal passed = record { refusal = refusal; passed = passed }

-- reading as a question: a fault refuses, passed on as it is. What was read passes, and its refusal is never given
abbrev pub ask_read : {X : Type 0} → Result X Fault → Question
ask_read (Ok x) = ask BodySize true
ask_read (Err f) = ask (Unreadable f) false

abbrev pub first_no : List Question → Option Refusal
first_no [] = None
first_no (q ∷ qs) = cond q.passed (first_no qs) (Some q.refusal)

-- a refused call leaves the end as it was and writes nothing
abbrev pub refused : {A : Type 0} → Refusal → End → Step A
refused r e = record { answer = Err r; after = e; wrote = [] }

abbrev pub unless : {A : Type 0} → Option Refusal → End → Step A → Step A
unless (Some r) e acts = refused r e
unless None e acts = acts

-- what code that only asks answers: the first refusal, or what it found
abbrev pub passes : {A : Type 0} → Option Refusal → A → Result A Refusal
passes (Some r) a = Err r
passes None a = Ok a

-- what a call did: it answered so, left the end e', and of the caller's buffer b made b'
pub record Does {A : Type 0} (s : Step A) (r : Result A Refusal) (e' : End) (b b' : List ℕ) : Type 0 where
  pub answers : r ≡ s.answer
  pub leaves : e' ≡ s.after
  pub writes : b' ≡ s.wrote ++ drop (length s.wrote) b

-- and of a call that is given no buffer
pub record Comes {A : Type 0} (s : Step A) (r : Result A Refusal) (e' : End) : Type 0 where
  pub answers : r ≡ s.answer
  pub leaves : e' ≡ s.after

-- questions of several calls
abbrev pub is_place : ℕ → Bool
is_place place = nat_lt place 32

abbrev pub has_room : ℕ → Bool
has_room room = nat_le 1024 room

-- a datagram that was written, by its number
abbrev pub sent_as : ℕ → List ℕ → Sent
sent_as n d = record { number = n; size = length d }
