-- Reading payload by payload and entry by entry: the steps that the code takes, by the definitions of the whole. Assumes nothing.
use Rattle.std.specs.Prelude.{ℕ, zero, suc, ◌+◌, ◌-◌, Bool, cond, List, [], ◌∷◌, length, drop, Some, None, Ok, Err, Option, Result, nat_le}
use Rattle.datagram.specs.declared.fault.Question.TheVariants.{EndsWithLastPayload}
use Rattle.datagram.specs.declared.fault.Layer.TheVariants as layer
use Rattle.datagram.specs.declared.fault.Fault.{Fault}
use Rattle.datagram.specs.Bodies.{body_from}
use Rattle.datagram.specs.Datagrams.{payloads_from}
use Rattle.datagram.specs.Faults.{no}
use Rattle.datagram.specs.Layout.{entry_end}
use Rattle.datagram.specs.Payloads.{Payload, past, payload_at}
use Rattle.datagram.specs.Results.{map_ok, ask}
use Rattle.datagram.specs.Structures.{Entry, entry_of, meet_end}

-- a datagram that was read up to an offset, with so many payloads still to come
pub record Place : Type 0 where
  pub octets : List ℕ
  pub from : ℕ
  pub left : ℕ

abbrev pub place : List ℕ → ℕ → ℕ → Place
place d at n = record { octets = d; from = at; left = n }

abbrev pub first_place : List ℕ → ℕ → Place
first_place d n = place d 5 n

-- the next payload, or none at the datagram's end
abbrev pub next_at : Place → Result (Option Payload) Fault
next_at p = elim p.left [
  | zero ↦ ask (nat_le (length p.octets) p.from) (no EndsWithLastPayload layer.Datagram p.from) (Ok None)
  | suc n ↦ map_ok Some (payload_at (drop p.from p.octets) p.from)
]

abbrev pub moved : Place → Result (Option Payload) Fault → Place
moved p (Ok (Some q)) = place p.octets (past q) (p.left - 1)
moved p (Ok None) = p
moved p (Err e) = p

abbrev pub place_after : Place → Place
place_after p = moved p (next_at p)

-- all payloads from a place on, or the first fault
abbrev pub payloads_ahead : Place → Result (List Payload) Fault
payloads_ahead p = payloads_from p.left p.octets p.from

-- the payloads from a place on, as far as there is no fault
abbrev pub unless_fault : Result Payload Fault → (Payload → List Payload) → List Payload
unless_fault (Ok p) f = f p
unless_fault (Err e) f = []

abbrev pub sound_from : ℕ → List ℕ → ℕ → List Payload
sound_from zero d at = []
sound_from (suc n) d at = unless_fault (payload_at (drop at d) at) (λ p. p ∷ sound_from n d (past p))

abbrev pub sound_ahead : Place → List Payload
sound_ahead p = sound_from p.left p.octets p.from

-- a body that was read up to a payload, from that payload's first octet on, with that octet's offset
pub record Rest : Type 0 where
  pub octets : List ℕ
  pub from : ℕ

-- the next payload, or none at the body's end
abbrev pub next_of : List ℕ → ℕ → Result (Option Payload) Fault
next_of [] at = Ok None
next_of (x ∷ b) at = map_ok Some (payload_at (x ∷ b) at)

abbrev pub next_in : Rest → Result (Option Payload) Fault
next_in r = next_of r.octets r.from

abbrev pub moved_in : Rest → Result (Option Payload) Fault → Rest
moved_in r (Ok (Some p)) = record { octets = drop (5 + length p.octets) r.octets; from = past p }
moved_in r (Ok None) = r
moved_in r (Err e) = r

abbrev pub rest_after : Rest → Rest
rest_after r = moved_in r (next_in r)

-- all payloads of the rest, or the first fault
abbrev pub rest_payloads : Rest → Result (List Payload) Fault
rest_payloads r = body_from (length r.octets) r.octets r.from

-- the payloads of the rest, as far as there is no fault
abbrev pub sound_body_from : ℕ → List ℕ → ℕ → List Payload
sound_body_from zero b at = []
sound_body_from (suc n) [] at = []
sound_body_from (suc n) (x ∷ b) at = unless_fault (payload_at (x ∷ b) at) (λ p. p ∷ sound_body_from n (drop (5 + length p.octets) (x ∷ b)) (past p))

abbrev pub sound_rest : Rest → List Payload
sound_rest r = sound_body_from (length r.octets) r.octets r.from

-- a Nack that is read entry by entry: so many are still to come, in these octets
pub record Entries : Type 0 where
  pub count : ℕ
  pub octets : List ℕ

abbrev pub entries_meet_end : Entries → Bool
entries_meet_end e = meet_end e.count e.octets

abbrev pub first_in : ℕ → List ℕ → Option Entry
first_in zero d = None
first_in (suc n) d = cond (nat_le (entry_end d) (length d)) (Some (entry_of d)) None

abbrev pub first_entry : Entries → Option Entry
first_entry e = first_in e.count e.octets

abbrev pub without : Entries → Option Entry → Entries
without e None = e
without e (Some x) = record { count = e.count - 1; octets = drop (entry_end e.octets) e.octets }

abbrev pub after_first : Entries → Entries
after_first e = without e (first_entry e)
