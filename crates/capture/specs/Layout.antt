-- Where the fields of a record stand, little-endian. Assumes nothing.
use Rattle.std.specs.Prelude.{ℕ, ◌+◌, ◌*◌, List, take, drop}
use Rattle.datagram.specs.Layout.{octet}

abbrev pub le16 : List ℕ → ℕ → ℕ
le16 d i = octet d i + octet d (i + 1) * 256

abbrev pub le32 : List ℕ → ℕ → ℕ
le32 d i = octet d i + octet d (i + 1) * 256 + octet d (i + 2) * 65536 + octet d (i + 3) * 16777216

-- a record, from its first octet on: length (2 octets), then as many octets of body
abbrev pub body_length : List ℕ → ℕ
body_length r = le16 r 0

abbrev pub record_end : List ℕ → ℕ
record_end r = 2 + body_length r

abbrev pub record_body : List ℕ → List ℕ
record_body r = take (body_length r) (drop 2 r)

-- a body: kind (2 octets), address (4), port (2), seconds (4), datagram
abbrev pub kind_field : List ℕ → ℕ
kind_field b = le16 b 0

abbrev pub address_field : List ℕ → List ℕ
address_field b = take 4 (drop 2 b)

abbrev pub port_field : List ℕ → ℕ
port_field b = le16 b 6

abbrev pub seconds_field : List ℕ → ℕ
seconds_field b = le32 b 8

abbrev pub datagram_field : List ℕ → List ℕ
datagram_field b = drop 12 b
