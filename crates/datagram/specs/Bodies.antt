-- A body: payloads up to its end, with no header before them. Assumes nothing.
use Rattle.std.specs.Prelude.{ℕ, zero, suc, ◌+◌, List, [], ◌∷◌, length, drop, Ok, Result, nat_le}
use Rattle.datagram.specs.declared.fault.Question.TheVariants.{AtMostMaximum}
use Rattle.datagram.specs.declared.fault.Layer.TheVariants as layer
use Rattle.datagram.specs.declared.fault.Fault.{Fault}
use Rattle.datagram.specs.Faults.{no}
use Rattle.datagram.specs.Payloads.{Payload, past, payload_at}
use Rattle.datagram.specs.Results.{map_ok, and_then, ask}

-- payloads from an offset on until nothing is left, at most so many
abbrev pub body_from : ℕ → List ℕ → ℕ → Result (List Payload) Fault
body_from zero b at = Ok []
body_from (suc n) [] at = Ok []
body_from (suc n) (x ∷ b) at = and_then (payload_at (x ∷ b) at) (λ p. map_ok (λ ps. p ∷ ps) (body_from n (drop (5 + length p.octets) (x ∷ b)) (past p)))

-- the payloads of a body, or its first fault, with offsets counted from the header's first octet
abbrev pub body_payloads : List ℕ → Result (List Payload) Fault
body_payloads b = body_from (length b) b 5

-- a body, read: with its header it must not be longer than a datagram
abbrev pub read_body : List ℕ → Result (List Payload) Fault
read_body b = ask (nat_le (5 + length b) 1024) (no AtMostMaximum layer.Datagram 1024) (body_payloads b)
