-- A datagram to be written. Assumes nothing.
use Rattle.std.specs.Prelude.{false, [], ◌∷◌}
use Rattle.datagram.specs.Structures.{nack}
use Rattle.writer.specs.Values.{Value}

-- number 9, and under the call 2057 a Nack of the number 66,051 with the reason 1,029 and two octets of data
abbrev pub nack_of_one : Value
nack_of_one = record {
  number = 9;
  wants_ack = false;
  items = record { crv = 2057; content = nack (record { number = 66051; reason = 1029; octets = 0x06 ∷ 0x07 ∷ [] } ∷ []) } ∷ [];
}
