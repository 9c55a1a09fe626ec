-- Four datagrams, and what they are read as. Assumes nothing.
use Rattle.std.specs.Prelude.{◌≡◌, ℕ, false, List, [], ◌∷◌, Ok, Err}
use Rattle.datagram.specs.declared.fault.Layer.TheVariants as layer
use Rattle.datagram.specs.Datagrams.{read}
use Rattle.datagram.specs.Faults.{numbered}
use Rattle.datagram.specs.Results.{map_err}
use Rattle.datagram.specs.Structures.{ack}

-- number 9 and one payload, an Ack of 5, with a first octet a and a COUNT c
abbrev pub ack_of_five_octets : ℕ → ℕ → List ℕ
ack_of_five_octets a c = a ∷ 0x00 ∷ 0x00 ∷ 0x09 ∷ c ∷ 0x08 ∷ 0x00 ∷ 0x00 ∷ 0x00 ∷ 0x04 ∷ 0x02 ∷ 0x00 ∷ 0x00 ∷ 0x05 ∷ []

pub record Examples : Type 0 where
  pub ack_of_five : read (ack_of_five_octets 0x00 0x00) ≡ Ok (record {
    number = 9;
    wants_ack = false;
    payloads = record { crv = 0; offset = 10; octets = 0x02 ∷ 0x00 ∷ 0x00 ∷ 0x05 ∷ []; content = ack (5 ∷ []) } ∷ [];
  })
  pub second_payload_missing : map_err numbered (read (ack_of_five_octets 0x00 0x01)) ≡ Err (23, layer.Payload, 14)
  pub ack_for_an_ack : map_err numbered (read (ack_of_five_octets 0x01 0x00)) ≡ Err (28, layer.Datagram, 0)
  pub no_octets : map_err numbered (read []) ≡ Err (21, layer.Datagram, 0)
