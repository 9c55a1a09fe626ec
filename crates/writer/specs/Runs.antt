-- A datagram written call by call: what is closed reads as the payloads that were accepted, in order. Assumes nothing.
use Rattle.std.specs.Prelude.{◌≡◌, ℕ, ◌+◌, ◌≤◌, Bool, true, false, List, [], ◌∷◌, ◌++◌, map, length, take, drop, Ok, Err, Result}
use Rattle.datagram.specs.declared.fault.Fault.{Fault}
use Rattle.datagram.specs.Datagrams.{some_deserves, read}
use Rattle.datagram.specs.Layout.{header_octets}
use Rattle.datagram.specs.Structures.{Content, unsupported, type_of, content_of}
use Rattle.writer.specs.declared.refusal.Refusal.{Refusal}
use Rattle.writer.specs.declared.writer.Writer.{Writer}
use Rattle.writer.specs.Bodies.{Readable, AllOf}
use Rattle.writer.specs.Drafts.{Draft, draft_says, fresh, Addition, item, typed, open_of, add_of, close_of, after}
use Rattle.writer.specs.Values.{Item, Value, Part, part_of, body_octets, datagram_octets, written, datagram, placed_from, every, supported_type, InRange}

-- what an addition is to be read as; data by type as the reader reads it
abbrev pub content_in : Result Content Fault → Content → Content
content_in (Ok c) other = c
content_in (Err f) other = other

abbrev pub part_added : Addition → Part
part_added (item i) = part_of i
part_added (typed t c x) = record { crv = c; octets = x; content = content_in (content_of t x 0) (unsupported t x) }

-- additions asked for one after the other: a refused one leaves the draft as it was
abbrev pub add_all : Draft → List Addition → Draft
add_all d [] = d
add_all d (x ∷ xs) = add_all (after d (add_of d x)) xs

-- the payloads of those that were accepted
abbrev pub if_accepted : {X : Type 0} → Result X Refusal → Part → List Part → List Part
if_accepted (Ok e) p ps = p ∷ ps
if_accepted (Err f) p ps = ps

abbrev pub accepted : Draft → List Addition → List Part
accepted d [] = []
accepted d (x ∷ xs) = if_accepted (add_of d x) (part_added x) (accepted (after d (add_of d x)) xs)

-- a draft that holds these payloads, under a header with COUNT still 0
pub record Holds (n : ℕ) (a : Bool) (ps : List Part) (d : Draft) : Type 0 where
  pub filled : d.filled ≡ header_octets n a 0 ++ body_octets ps
  pub mark : d.marks.mark ≡ 5 + length (body_octets ps)
  pub count : d.marks.count ≡ length ps
  pub asked : d.marks.asked ≡ a
  pub deserved : d.marks.deserved ≡ some_deserves (placed_from 5 ps)
  pub unclosed : d.marks.closed ≡ false
  pub fitting : d.marks.mark ≤ d.room
  pub small : d.room ≤ 1024
  pub readable : AllOf Readable ps

-- a draft that is their datagram
pub record Closed (n : ℕ) (a : Bool) (ps : List Part) (d : Draft) : Type 0 where
  pub filled : d.filled ≡ datagram_octets n a ps
  pub mark : d.marks.mark ≡ length d.filled
  pub reads : read d.filled ≡ Ok (datagram n a (placed_from 5 ps))

-- whatever was added: what is closed reads as exactly the payloads that were accepted, in order
abbrev pub WhatIsClosedReads : Type 0
WhatIsClosedReads = (d e f : Draft) (n : ℕ) (a : Bool) (xs : List Addition) → d.room ≤ 1024 → open_of d n a ≡ Ok e → close_of (add_all e xs) ≡ Ok f → Closed n a (accepted e xs) f

-- and what fits is written: a value in range, of the types that are written, with all its payloads
abbrev pub is_written : Item → Bool
is_written i = supported_type (type_of i.content)

pub record Writes (d : Draft) (v : Value) : Type 0 where
  pub opened : Draft
  pub closed : Draft
  pub opens : open_of d v.number v.wants_ack ≡ Ok opened
  pub closes : close_of (add_all opened (map item v.items)) ≡ Ok closed
  pub is : Closed v.number v.wants_ack (map part_of v.items) closed

abbrev pub WhatFitsIsWritten : Type 0
WhatFitsIsWritten = (d : Draft) (v : Value) → d.marks ≡ fresh → d.room ≤ 1024 → InRange v → every is_written v.items ≡ true → length (written v) ≤ d.room → Writes d v

-- a closed writer over a buffer, and the octets of the buffer that it answered to have filled
abbrev pub ReadsAs : Writer → Result ℕ Refusal → Writer → Type 0
ReadsAs w (Ok k) w' = (n : ℕ) (a : Bool) (ps : List Part) → Holds n a ps (draft_says w) → read (take k w'.buffer.now) ≡ Ok (datagram n a (placed_from 5 ps))
ReadsAs w (Err f) w' = Unit {0}

-- a writer over the octets b holds these payloads, and has left b as it was past its mark
pub record Run (b : List ℕ) (n : ℕ) (a : Bool) (ps : List Part) (w : Writer) : Type 0 where
  pub holds : Holds n a ps (draft_says w)
  pub beyond : drop w.marks.mark w.buffer.now ≡ drop w.marks.mark b

-- once it is closed, the buffer begins with their datagram, and is as it was behind it
pub record Written (b : List ℕ) (n : ℕ) (a : Bool) (ps : List Part) (k : ℕ) (b' : List ℕ) : Type 0 where
  pub size : k ≡ length (datagram_octets n a ps)
  pub buffer : b' ≡ datagram_octets n a ps ++ drop k b
  pub reads : read (datagram_octets n a ps) ≡ Ok (datagram n a (placed_from 5 ps))
