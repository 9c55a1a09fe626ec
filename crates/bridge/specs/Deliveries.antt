-- Datagrams delivered to an endpoint, as they are answered into a buffer.
use Rattle.std.specs.Prelude.{◌≡◌, ℕ, zero, suc, min, cond, List, [], ◌∷◌, map, length, take, drop, Ok, Err, Result, nat_le}
use Rattle.std.specs.List.{range_with_len}
use Rattle.endpoint.specs.declared.peer.Peer.{Peer}
use Rattle.endpoint.specs.declared.peer.Role.TheVariants.{Slave}
use Rattle.endpoint.specs.declared.refusal.Refusal.{Refusal}
use Rattle.endpoint.specs.Arrives.{Arrival, arrive}
use Rattle.endpoint.specs.Ends.{held, End, new_end}
use Rattle.endpoint.specs.Enrols.{newcomer, enrol}
use Rattle.endpoint.specs.Refusals.{number_of}
use Rattle.endpoint.specs.Steps.{Step}

-- the neighbour of a number: 10.0.0.number, at port 1720
abbrev pub neighbour : ℕ → Peer
neighbour number = record { address = 10 ∷ 0 ∷ 0 ∷ number ∷ []; port = 1720 }

-- an end after so many enrolments, each neighbour at the place of its number
abbrev pub enrolled : ℕ → End → End
enrolled zero e = e
enrolled (suc place) e = (enrol (enrolled place e) place 0 (neighbour place) Slave).after

-- a new end that gives 0 first, with a neighbour at each of its places
abbrev pub surrounded : End
surrounded = enrolled 32 (new_end 0)

-- none of these enrolments is refused
abbrev pub AllAreHeld : Type 0
AllAreHeld = surrounded.places ≡ map (λ place. held (newcomer (neighbour place) Slave 0)) (range_with_len 0 32)

-- the octet that an answer is written as
abbrev pub code : Result Arrival Refusal → ℕ
code (Ok arrival) = cond arrival.fresh 0 1
code (Err refusal) = number_of refusal

-- the datagrams of these sizes that lie end to end in the octets, as far as they are there whole
abbrev pub datagrams : (sizes octets : List ℕ) → List (List ℕ)
datagrams [] octets = []
datagrams (size ∷ sizes) octets = cond (nat_le size (length octets)) (take size octets ∷ datagrams sizes (drop size octets)) []

abbrev pub arrives : ℕ → End → (sender : ℕ) → (datagram : List ℕ) → Step Arrival
arrives depth e sender datagram = arrive depth e 0 (neighbour sender) datagram 1024

-- a buffer after a run: an octet for each sender and datagram while all three last, and the rest as it was
abbrev pub answered : ℕ → End → (senders : List ℕ) → (datagrams : List (List ℕ)) → (buffer : List ℕ) → List ℕ
answered depth e [] ds buffer = buffer
answered depth e (s ∷ senders) [] buffer = buffer
answered depth e (s ∷ senders) (d ∷ ds) [] = []
answered depth e (s ∷ senders) (d ∷ ds) (b ∷ buffer) = code (arrives depth e s d).answer ∷ answered depth (arrives depth e s d).after senders ds buffer

-- what a run comes to: how far it went, and what the buffer holds after
pub record Delivered (depth : ℕ) (e : End) (senders : List ℕ) (ds : List (List ℕ)) (before : List ℕ) (answer : ℕ) (later : List ℕ) : Type 0 where
  pub counts : answer ≡ min (min (length senders) (length ds)) (length before)
  pub writes : later ≡ answered depth e senders ds before
