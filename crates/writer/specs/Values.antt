-- A datagram as a plain value, the octets that it is written as, and where its payloads then lie. Assumes nothing.
use Rattle.std.specs.Prelude.{◌≡◌, ℕ, ◌+◌, ◌-◌, ◌<◌, ◌≤◌, Bool, true, not, ◌&&◌, ◌||◌, List, [], ◌∷◌, ◌++◌, map, length, Some, None, Option, ◌==◌, nat_lt}
use Rattle.std.specs.List.{flat_map, list_all}
use Rattle.datagram.specs.Datagrams.{Datagram, some_deserves}
use Rattle.datagram.specs.Layout.{octets24, header_octets, payload_octets, alive_octets, counted_octets, entry_octets, non_standard_octets}
use Rattle.datagram.specs.Payloads.{Payload}
use Rattle.datagram.specs.Structures.{Alive, Entry, Content, cookie_of, call_message, i_am_alive, ack, nack, non_standard, unsupported, type_of}

-- what a payload says, under the call that it belongs to
pub record Item : Type 0 where
  pub crv : ℕ
  pub content : Content

pub record Value : Type 0 where
  pub number : ℕ
  pub wants_ack : Bool
  pub items : List Item

-- the data of a payload
abbrev pub cookie_octets : Option (List ℕ) → List ℕ
cookie_octets None = []
cookie_octets (Some c) = c

-- a cookie of length 0 is an absent one
abbrev pub plainly : Alive → Alive
plainly a = record { validity = a.validity; wants_reply = a.wants_reply; cookie = cookie_of (cookie_octets a.cookie) }

abbrev pub octets_of_entry : Entry → List ℕ
octets_of_entry e = entry_octets e.number e.reason e.octets

abbrev pub data_of : Content → List ℕ
data_of (call_message x) = x
data_of (i_am_alive a) = alive_octets a.validity a.wants_reply (cookie_octets a.cookie)
data_of (ack ns) = counted_octets (length ns) (flat_map octets24 ns)
data_of (nack es) = counted_octets (length es) (flat_map octets_of_entry es)
data_of (non_standard s) = non_standard_octets s.oid s.free
data_of (unsupported t x) = x

-- a payload with its data, before it has a place in a datagram
pub record Part : Type 0 where
  pub crv : ℕ
  pub octets : List ℕ
  pub content : Content

abbrev pub part_of : Item → Part
part_of i = record { crv = i.crv; octets = data_of i.content; content = i.content }

abbrev pub part_octets : Part → List ℕ
part_octets p = payload_octets (type_of p.content) p.crv p.octets

-- payloads one behind the other
abbrev pub body_octets : List Part → List ℕ
body_octets ps = flat_map part_octets ps

-- a header that counts them, and then the payloads
abbrev pub datagram_octets : ℕ → Bool → List Part → List ℕ
datagram_octets n a ps = header_octets n a (length ps - 1) ++ body_octets ps

abbrev pub written : Value → List ℕ
written v = datagram_octets v.number v.wants_ack (map part_of v.items)

-- the payloads that parts are where the first begins at an offset
abbrev pub placed_at : ℕ → Part → Payload
placed_at at p = record { crv = p.crv; offset = at + 5; octets = p.octets; content = p.content }

abbrev pub placed_from : ℕ → List Part → List Payload
placed_from at [] = []
placed_from at (p ∷ ps) = placed_at at p ∷ placed_from (at + 5 + length p.octets) ps

abbrev pub datagram : ℕ → Bool → List Payload → Datagram
datagram n a ps = record { number = n; wants_ack = a; payloads = ps }

abbrev pub placed : Value → Datagram
placed v = datagram v.number v.wants_ack (placed_from 5 (map part_of v.items))

-- a datagram without offsets and data
abbrev pub item_of : Payload → Item
item_of p = record { crv = p.crv; content = p.content }

abbrev pub value_of : Datagram → Value
value_of g = record { number = g.number; wants_ack = g.wants_ack; items = map item_of g.payloads }

-- whether each value lies within its field
abbrev pub every : {X : Type 0} → (X → Bool) → List X → Bool
every f xs = list_all f xs

abbrev pub is_number : ℕ → Bool
is_number n = nat_lt n 16777216

abbrev pub is_field16 : ℕ → Bool
is_field16 n = nat_lt n 65536

abbrev pub entry_within : Entry → Bool
entry_within e = is_number e.number && (is_field16 e.reason && nat_lt (length e.octets) 256)

abbrev pub cookie_within : Option (List ℕ) → Bool
cookie_within None = true
cookie_within (Some c) = nat_lt 0 (length c) && nat_lt (length c) 32768

-- the types that have a meaning here
abbrev pub supported_type : ℕ → Bool
supported_type t = t == 1 || (t == 3 || (t == 4 || (t == 5 || t == 6)))

abbrev pub content_within : Content → Bool
content_within (call_message x) = true
content_within (i_am_alive a) = is_field16 a.validity && cookie_within a.cookie
content_within (ack ns) = nat_lt (length ns) 128 && every is_number ns
content_within (nack es) = nat_lt (length es) 128 && every entry_within es
content_within (non_standard s) = is_field16 (length s.oid)
content_within (unsupported t x) = nat_lt t 128 && not (supported_type t)

abbrev pub within : Item → Bool
within i = is_field16 i.crv && (is_field16 (length (data_of i.content)) && content_within i.content)

-- a value that can be written and read
pub record InRange (v : Value) : Type 0 where
  pub number : v.number < 16777216
  pub items : every within v.items ≡ true
  pub some : 0 < length v.items
  pub few : length v.items ≤ 256
  pub size : length (written v) ≤ 1024
  pub deserved : v.wants_ack ≡ true → some_deserves (placed v).payloads ≡ true
