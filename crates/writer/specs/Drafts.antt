-- A datagram that is being written: what each call makes of it, or the question that the call fails. Assumes nothing.
use Rattle.std.specs.Prelude.{◌≡◌, ℕ, ◌+◌, ◌-◌, min, Bool, true, false, cond, not, ◌&&◌, ◌||◌, List, ◌++◌, length, take, drop, Some, None, Ok, Err, Option, Result, ◌==◌, nat_le, nat_lt, slice_set}
use Rattle.datagram.specs.declared.fault.Fault.{Fault}
use Rattle.datagram.specs.Layout.{octet, odd, header_octets, payload_octets}
use Rattle.datagram.specs.Results.{map_ok}
use Rattle.datagram.specs.Structures.{Content, type_of, content_of}
use Rattle.writer.specs.declared.marks.Marks.{Marks}
use Rattle.writer.specs.declared.refusal.Found.TheVariants.{NoRoom, TypeNotWritten, OutsideField, NotClosable}
use Rattle.writer.specs.declared.refusal.Refusal.{Refusal}
use Rattle.writer.specs.declared.writer.Writer.{Writer}
use Rattle.writer.specs.Refusals.{refused_at}
use Rattle.writer.specs.Values.{Item, data_of, is_number, supported_type, within}

-- the octets before the mark, and how many there may be
pub record Draft : Type 0 where
  pub marks : Marks
  pub filled : List ℕ
  pub room : ℕ

abbrev pub draft_of : List ℕ → Marks → Draft
draft_of b m = record { marks = m; filled = take m.mark b; room = min 1024 (length b) }

abbrev pub draft_says : Writer → Draft
draft_says w = draft_of w.buffer.now w.marks

-- nothing is written
abbrev pub fresh : Marks
fresh = record { mark = 0; count = 0; asked = false; deserved = false; closed = false }

-- the first question that is answered with no, if there is one
abbrev pub first_of : Bool → Refusal → Option Refusal → Option Refusal
first_of passed refusal later = cond passed later (Some refusal)

abbrev pub unless : {X : Type 0} → Option Refusal → X → Result X Refusal
unless None x = Ok x
unless (Some f) x = Err f

-- opening: a header fits where nothing stands yet, and has a number
abbrev pub opened_marks : Bool → Marks
opened_marks a = record { mark = 5; count = 0; asked = a; deserved = false; closed = false }

abbrev pub against_opening : Marks → ℕ → ℕ → Option Refusal
against_opening m room n =
    first_of (m.mark == 0 && nat_le 5 room) (refused_at m.mark NoRoom)
    (first_of (is_number n) (refused_at m.mark OutsideField) None)

abbrev pub with_header : Draft → ℕ → Bool → Draft
with_header d n a = record { marks = opened_marks a; filled = header_octets n a 0; room = d.room }

abbrev pub open_of : Draft → ℕ → Bool → Result Draft Refusal
open_of d n a = unless (against_opening d.marks d.room n) (with_header d n a)

-- a payload fits behind the header of a datagram that is not closed; of 1,024 octets, 203 payloads are the most
abbrev pub is_open : Marks → ℕ → Bool
is_open m room = nat_le 5 (min m.mark room) && not m.closed

abbrev pub fits : Marks → ℕ → ℕ → Bool
fits m room n = is_open m room && (nat_lt m.count 203 && nat_le (m.mark + 5 + n) room)

-- of a payload of type t with n octets of data, whose values lie within their fields or not
abbrev pub against_payload : Marks → ℕ → ℕ → ℕ → Bool → Option Refusal
against_payload m room t n inside =
    first_of (fits m room n) (refused_at m.mark NoRoom)
    (first_of (supported_type t) (refused_at m.mark TypeNotWritten)
    (first_of inside (refused_at m.mark OutsideField) None))

-- a payload of a type other than 4 and 5 deserves an Ack
abbrev pub deserving_type : ℕ → Bool
deserving_type t = not (t == 4 || t == 5)

abbrev pub moved_by : Marks → ℕ → Marks
moved_by m n = record { mark = m.mark + n; count = m.count; asked = m.asked; deserved = m.deserved; closed = m.closed }

abbrev pub counted : Marks → Bool → Marks
counted m deserving = record { mark = m.mark; count = m.count + 1; asked = m.asked; deserved = m.deserved || deserving; closed = m.closed }

abbrev pub grown : Draft → ℕ → List ℕ → Draft
grown d t x = record { marks = counted (moved_by d.marks (length x)) (deserving_type t); filled = d.filled ++ x; room = d.room }

abbrev pub payload_of : Draft → ℕ → ℕ → List ℕ → Bool → Result Draft Refusal
payload_of d t c x inside = unless (against_payload d.marks d.room t (length x) inside) (grown d t (payload_octets t c x))

-- data is well formed if it is read as a structure of its type; the reserved bit beside a count is written as zero
abbrev pub reserved_clear : ℕ → List ℕ → Bool
reserved_clear t x = deserving_type t || not (odd (octet x 0))

abbrev pub reads_and : Result Content Fault → Bool → Bool
reads_and (Ok c) b = b
reads_and (Err f) b = false

abbrev pub well_formed : ℕ → List ℕ → Bool
well_formed t x = reads_and (content_of t x 0) (reserved_clear t x)

-- what can be added: a content under its CRV, or data by type, CRV and octets
pub data Addition : Type 0 where
  item : Item → Addition
  typed : ℕ → ℕ → List ℕ → Addition

abbrev pub add_of : Draft → Addition → Result Draft Refusal
add_of d (item i) = payload_of d (type_of i.content) i.crv (data_of i.content) (within i)
add_of d (typed t c x) = payload_of d t c x (well_formed t x)

-- closing: there is a payload, and one that deserves an Ack if that is asked for
abbrev pub closable : Marks → ℕ → Bool
closable m room = is_open m room && (nat_lt 0 m.count && (not m.asked || m.deserved))

abbrev pub closed_marks : Marks → Marks
closed_marks m = record { mark = m.mark; count = m.count; asked = m.asked; deserved = m.deserved; closed = true }

abbrev pub against_closing : Marks → ℕ → Option Refusal
against_closing m room = first_of (closable m room) (refused_at m.mark NotClosable) None

abbrev pub with_count : Draft → Draft
with_count d = record { marks = closed_marks d.marks; filled = slice_set d.filled 4 (d.marks.count - 1); room = d.room }

abbrev pub close_of : Draft → Result Draft Refusal
close_of d = unless (against_closing d.marks d.room) (with_count d)

-- a refusal changes nothing
abbrev pub after : Draft → Result Draft Refusal → Draft
after d (Ok e) = e
after d (Err f) = d

-- past its own mark a call that is accepted leaves every octet as it was, and a call that is refused leaves all of them
abbrev pub Beyond : {X : Type 0} → Writer → Result X Refusal → Writer → Type 0
Beyond w (Ok x) w' = drop w'.marks.mark w'.buffer.now ≡ drop w'.marks.mark w.buffer.now
Beyond w (Err f) w' = w'.buffer.now ≡ w.buffer.now

-- a call that was to make `plan` of what the writer w holds answered so, and left the writer w'
pub record Does {X : Type 0} (w : Writer) (plan : Result Draft Refusal) (answer : Draft → X) (r : Result X Refusal) (w' : Writer) : Type 0 where
  pub gives : r ≡ map_ok answer plan
  pub leaves : draft_says w' ≡ after (draft_says w) plan
  pub beyond : Beyond w r w'

abbrev pub done : Draft → Unit {0}
done d = tt

abbrev pub size : Draft → ℕ
size d = d.marks.mark
