-- One payload of a datagram, or the question that it fails. Assumes nothing.
use Rattle.std.specs.Prelude.{ℕ, ◌+◌, Bool, true, false, List, length, Result, nat_le}
use Rattle.datagram.specs.declared.fault.Question.TheVariants.{HoldsPayloadHeader, HoldsPayloadData}
use Rattle.datagram.specs.declared.fault.Layer.TheVariants as layer
use Rattle.datagram.specs.declared.fault.Fault.{Fault}
use Rattle.datagram.specs.Faults.{no}
use Rattle.datagram.specs.Layout.{type_field, crv_field, length_field, payload_data}
use Rattle.datagram.specs.Results.{map_ok, ask}
use Rattle.datagram.specs.Structures.{Content, call_message, i_am_alive, ack, nack, non_standard, unsupported, content_of}

-- the data is `octets`, which begin at `offset` of the datagram
pub record Payload : Type 0 where
  pub crv : ℕ
  pub offset : ℕ
  pub octets : List ℕ
  pub content : Content

-- the first octet behind a payload
abbrev pub past : Payload → ℕ
past p = p.offset + length p.octets

-- the payload at the front of d, which is a datagram from the offset `at` on
abbrev pub payload_at : List ℕ → ℕ → Result Payload Fault
payload_at d at =
    ask (nat_le 5 (length d)) (no HoldsPayloadHeader layer.Payload at)
    (ask (nat_le (5 + length_field d) (length d)) (no HoldsPayloadData layer.Payload (at + 3))
    (map_ok (λ c. record { crv = crv_field d; offset = at + 5; octets = payload_data d; content = c })
    (content_of (type_field d) (payload_data d) (at + 5))))

-- whether a payload is something other than an Ack or a Nack, so that an Ack may be asked for
abbrev pub deserving : Content → Bool
deserving (call_message d) = true
deserving (i_am_alive a) = true
deserving (ack ns) = false
deserving (nack es) = false
deserving (non_standard s) = true
deserving (unsupported t d) = true

abbrev pub deserves_ack : Payload → Bool
deserves_ack p = deserving p.content
