-- What is written are octets, if the free data are. Assumes nothing.
use Rattle.std.specs.Prelude.{◌≡◌, ℕ, Bool, true, ◌&&◌, List, nat_lt}
use Rattle.datagram.specs.Structures.{Content, call_message, i_am_alive, ack, nack, non_standard, unsupported}
use Rattle.writer.specs.Values.{Item, Value, cookie_octets, written, every, InRange}

abbrev pub is_octet : ℕ → Bool
is_octet n = nat_lt n 256

abbrev pub are_octets : List ℕ → Bool
are_octets x = every is_octet x

-- whether the free data of a content are octets
abbrev pub plain : Content → Bool
plain (call_message x) = are_octets x
plain (i_am_alive a) = are_octets (cookie_octets a.cookie)
plain (ack ns) = true
plain (nack es) = every (λ e. are_octets e.octets) es
plain (non_standard s) = are_octets s.oid && are_octets s.free
plain (unsupported t x) = are_octets x

abbrev pub plain_item : Item → Bool
plain_item i = plain i.content

abbrev pub OctetsAreWritten : Type 0
OctetsAreWritten = (v : Value) → InRange v → every plain_item v.items ≡ true → are_octets (written v) ≡ true
