-- The text of a call sheet, from the octets of a capture. Assumes nothing.
use Rattle.std.specs.Prelude.{ℕ, ◌+◌, List, [], ◌∷◌, ◌++◌, length, Some, None, Ok, Err, codes, decimal, Option, Result}
use Rattle.datagram.specs.declared.fault.Fault.{Fault}
use Rattle.datagram.specs.Datagrams.{Datagram, read}
use Rattle.datagram.specs.Faults as faults
use Rattle.datagram.specs.Layout.{octet}
use Rattle.datagram.specs.Payloads.{Payload}
use Rattle.datagram.specs.Structures.{type_of}
use Rattle.capture.specs.declared.stop.Stop.{Stop}
use Rattle.capture.specs.Records.{Sent, Capture, capture_of}
use Rattle.capture.specs.Stops as stops

-- a number, and the sign that follows it: a space, a point, a colon or a newline
abbrev pub ended : ℕ → ℕ → List ℕ
ended sign n = decimal n ++ (sign ∷ [])

abbrev pub spaced : ℕ → List ℕ
spaced n = ended 0x20 n

abbrev pub last_of_line : ℕ → List ℕ
last_of_line n = ended 0x0A n

-- four numbers and the port: 10.0.0.7:1720
abbrev pub sender_text : List ℕ → ℕ → List ℕ
sender_text a port = ended 0x2E (octet a 0) ++ (ended 0x2E (octet a 1) ++ (ended 0x2E (octet a 2) ++ (ended 0x3A (octet a 3) ++ spaced port)))

-- record, seconds and sender, which begin each line
abbrev pub front_text : ℕ → Sent → List ℕ
front_text n s = spaced n ++ (spaced s.seconds ++ sender_text s.address s.port)

-- type, CRV and LENGTH
abbrev pub payload_text : Payload → List ℕ
payload_text p = spaced (type_of p.content) ++ (spaced p.crv ++ last_of_line (length p.octets))

abbrev pub payload_lines : List ℕ → List Payload → List ℕ
payload_lines front [] = []
payload_lines front (p ∷ ps) = front ++ (payload_text p ++ payload_lines front ps)

abbrev pub fault_text : Fault → List ℕ
fault_text f = codes "fault " ++ (spaced (faults.number_of f.question) ++ last_of_line f.offset)

-- a line for each payload of a datagram that is accepted, or one for the fault of a datagram that is refused
abbrev pub datagram_text : List ℕ → Result Datagram Fault → List ℕ
datagram_text front (Ok g) = payload_lines (front ++ spaced g.number) g.payloads
datagram_text front (Err f) = front ++ fault_text f

-- the lines of record n
abbrev pub record_text : ℕ → Sent → List ℕ
record_text n s = datagram_text (front_text n s) (read s.datagram)

-- the lines of records one after another, of which the first has number n
abbrev pub record_texts : ℕ → List Sent → List ℕ
record_texts n [] = []
record_texts n (s ∷ ss) = record_text n s ++ record_texts (n + 1) ss

abbrev pub stop_text : Stop → List ℕ
stop_text e = codes "stop " ++ (spaced (stops.number_of e.question) ++ last_of_line e.«record»)

abbrev pub end_text : Option Stop → List ℕ
end_text None = []
end_text (Some e) = stop_text e

-- the lines of all records, and of what stopped them
abbrev pub capture_text : ℕ → Capture → List ℕ
capture_text n c = record_texts n c.records ++ end_text c.stopped

abbrev pub column_line : List ℕ
column_line = codes "rec sec from num type call len\n"

-- from the octets of a capture to those of its sheet
abbrev pub sheet_text : List ℕ → List ℕ
sheet_text d = column_line ++ capture_text 1 (capture_of d)
