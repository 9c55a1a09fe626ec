-- The law of reading: the payloads of an accepted datagram lie end to end, from octet 5 to its end. Assumes nothing.
use Rattle.std.specs.Prelude.{◌≡◌, ℕ, ◌+◌, ◌≤◌, List, [], ◌∷◌, length, take, drop, Ok}
use Rattle.datagram.specs.Datagrams.{Datagram, read}
use Rattle.datagram.specs.Layout.{number_field, ack_wanted, count_field, type_field, crv_field, length_field}
use Rattle.datagram.specs.Payloads.{Payload, past}
use Rattle.datagram.specs.Structures.{type_of, content_of}

-- the part of d that has n octets and begins at an offset
abbrev pub part : List ℕ → ℕ → ℕ → List ℕ
part d at n = take n (drop at d)

-- a payload whose header begins at an offset: its view is the part of the datagram behind that header
pub record Lies (d : List ℕ) (at : ℕ) (p : Payload) : Type 0 where
  pub offset : p.offset ≡ at + 5
  pub view : p.octets ≡ part d p.offset (length_field (drop at d))
  pub whole : length p.octets ≡ length_field (drop at d)
  pub type : type_of p.content ≡ type_field (drop at d)
  pub crv : p.crv ≡ crv_field (drop at d)
  pub content : content_of (type_field (drop at d)) p.octets p.offset ≡ Ok p.content

-- each payload begins where the one before it ends, and the last one ends with the datagram
abbrev pub EndToEnd : List ℕ → ℕ → List Payload → Type 0
EndToEnd d at [] = at ≡ length d
EndToEnd d at (p ∷ ps) = Lies d at p × EndToEnd d (past p) ps

pub record Accepted (d : List ℕ) (g : Datagram) : Type 0 where
  pub size : length d ≤ 1024
  pub number : g.number ≡ number_field d
  pub wants_ack : g.wants_ack ≡ ack_wanted d
  pub count : length g.payloads ≡ count_field d + 1
  pub payloads : EndToEnd d 5 g.payloads

abbrev pub PayloadsLieEndToEnd : List ℕ → Type 0
PayloadsLieEndToEnd d = (g : Datagram) → read d ≡ Ok g → Accepted d g
