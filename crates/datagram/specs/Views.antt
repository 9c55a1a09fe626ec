-- What the views of the code say: each names parts of the caller's octets, and stands for a value of the definitions. Assumes nothing.
-- Functions and no `impl Model`: these types are `Copy`, and a model is not supported for one that has a lifetime.
use Rattle.std.specs.Prelude.{ℕ, ◌+◌, List, drop}
use Rattle.std.specs.Option.{option_map}
use Rattle.datagram.specs.declared.body.Body.{Body}
use Rattle.datagram.specs.declared.content.Content as content
use Rattle.datagram.specs.declared.content.Content.TheVariants as variant
use Rattle.datagram.specs.declared.datagram.Datagram as datagram
use Rattle.datagram.specs.declared.payload.Payload as payload
use Rattle.datagram.specs.declared.payloads.Payloads as payloads
use Rattle.datagram.specs.declared.reader.Reader.{Reader}
use Rattle.datagram.specs.declared.structure.ack.Ack.{Ack}
use Rattle.datagram.specs.declared.structure.alive.Alive as alive
use Rattle.datagram.specs.declared.structure.nack.Entry as entry
use Rattle.datagram.specs.declared.structure.nack.Nack.{Nack}
use Rattle.datagram.specs.declared.structure.nonstandard.NonStandard as nonstandard
use Rattle.datagram.specs.Datagrams.{Datagram}
use Rattle.datagram.specs.Payloads.{Payload}
use Rattle.datagram.specs.Places.{Place, place, sound_ahead, Rest, sound_rest, Entries}
use Rattle.datagram.specs.Structures.{Alive, Entry, NonStandard, Content, call_message, i_am_alive, ack, nack, non_standard, unsupported, numbers, entries}

abbrev pub alive_says : alive.Alive → Alive
alive_says a = record { validity = a.validity; wants_reply = a.wants_reply; cookie = option_map (λ c. c.now) a.cookie }

abbrev pub ack_says : Ack → List ℕ
ack_says a = numbers a.octets.now

abbrev pub entry_says : entry.Entry → Entry
entry_says e = record { number = e.number; reason = e.reason; octets = e.«data».now }

abbrev pub entries_in : Nack → Entries
entries_in n = record { count = n.left; octets = n.octets.now }

abbrev pub nack_says : Nack → List Entry
nack_says n = entries n.left n.octets.now

abbrev pub non_standard_says : nonstandard.NonStandard → NonStandard
non_standard_says s = record { oid = s.oid.now; free = s.free.now }

abbrev pub content_says : content.Content → Content
content_says (variant.CallMessage d) = call_message d.now
content_says (variant.IAmAlive a) = i_am_alive (alive_says a)
content_says (variant.Ack a) = ack (ack_says a)
content_says (variant.Nack n) = nack (nack_says n)
content_says (variant.NonStandard s) = non_standard (non_standard_says s)
content_says (variant.Unsupported t d) = unsupported t d.now

abbrev pub payload_says : payload.Payload → Payload
payload_says p = record { crv = p.crv; offset = p.offset; octets = p.«data».now; content = content_says p.content }

abbrev pub place_says : Reader → Place
place_says r = place r.datagram.now r.at r.left

-- all that are still to come
abbrev pub payloads_say : payloads.Payloads → List Payload
payloads_say p = sound_ahead (place_says p.reader)

abbrev pub datagram_says : datagram.Datagram → Datagram
datagram_says g = record { number = g.number; wants_ack = g.wants_ack; payloads = payloads_say g.payloads }

-- offsets in a body count the five octets of the header that it is to stand under
abbrev pub rest_says : Body → Rest
rest_says b = record { octets = drop b.at b.octets.now; from = b.at + 5 }

abbrev pub body_says : Body → List Payload
body_says b = sound_rest (rest_says b)
