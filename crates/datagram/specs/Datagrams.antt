-- What a datagram says, or the first question that it fails. Assumes nothing.
use Rattle.std.specs.Prelude.{ℕ, zero, suc, ◌+◌, Bool, false, not, ◌||◌, List, [], ◌∷◌, length, drop, Ok, Result, ◌==◌, nat_le}
use Rattle.datagram.specs.declared.fault.Question.TheVariants.{AtMostMaximum, HoldsHeader, VersionZero, EndsWithLastPayload, AckIsDeserved}
use Rattle.datagram.specs.declared.fault.Layer.TheVariants as layer
use Rattle.datagram.specs.declared.fault.Fault.{Fault}
use Rattle.datagram.specs.declared.header.Header.{Header}
use Rattle.datagram.specs.Faults.{no}
use Rattle.datagram.specs.Layout.{version, ack_wanted, number_field, count_field}
use Rattle.datagram.specs.Payloads.{Payload, past, payload_at, deserves_ack}
use Rattle.datagram.specs.Results.{map_ok, and_then, ask}

pub record Datagram : Type 0 where
  pub number : ℕ
  pub wants_ack : Bool
  pub payloads : List Payload

abbrev pub header_fields : List ℕ → Header
header_fields d = record { number = number_field d; wants_ack = ack_wanted d; payloads = count_field d + 1 }

abbrev pub header_of : List ℕ → Result Header Fault
header_of d =
    ask (nat_le (length d) 1024) (no AtMostMaximum layer.Datagram 1024)
    (ask (nat_le 5 (length d)) (no HoldsHeader layer.Datagram (length d))
    (ask (version d == 0) (no VersionZero layer.Datagram 0)
    (Ok (header_fields d))))

-- so many payloads from the offset `at` on, and then the datagram's end
abbrev pub payloads_from : ℕ → List ℕ → ℕ → Result (List Payload) Fault
payloads_from zero d at = ask (nat_le (length d) at) (no EndsWithLastPayload layer.Datagram at) (Ok [])
payloads_from (suc n) d at = and_then (payload_at (drop at d) at) (λ p. map_ok (λ ps. p ∷ ps) (payloads_from n d (past p)))

abbrev pub some_deserves : List Payload → Bool
some_deserves [] = false
some_deserves (p ∷ ps) = deserves_ack p || some_deserves ps

abbrev pub datagram_of : Header → List Payload → Result Datagram Fault
datagram_of h ps =
    ask (not h.wants_ack || some_deserves ps) (no AckIsDeserved layer.Datagram 0)
    (Ok (record { number = h.number; wants_ack = h.wants_ack; payloads = ps }))

-- a datagram's octets, read
abbrev pub read : List ℕ → Result Datagram Fault
read d = and_then (header_of d) (λ h. and_then (payloads_from h.payloads d 5) (datagram_of h))
