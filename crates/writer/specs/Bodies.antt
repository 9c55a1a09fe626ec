-- What a body says under a header. What was written reads as what was to be written. Assumes nothing.
use Rattle.std.specs.Prelude.{◌≡◌, ℕ, ◌-◌, ◌<◌, ◌≤◌, Bool, true, false, List, [], ◌∷◌, ◌++◌, map, length, None, Ok, Err, Option, Result, ◌≢◌}
use Rattle.datagram.specs.declared.fault.Fault.{Fault}
use Rattle.datagram.specs.Bodies.{body_payloads}
use Rattle.datagram.specs.Datagrams.{some_deserves, read}
use Rattle.datagram.specs.Layout.{header_octets}
use Rattle.datagram.specs.Payloads.{Payload}
use Rattle.datagram.specs.Results.{map_ok}
use Rattle.datagram.specs.Structures.{Content, i_am_alive, ack, nack, type_of, content_of}
use Rattle.writer.specs.Values.{Item, Value, Part, body_octets, written, datagram, placed_from, placed, value_of, every, content_within, InRange}

abbrev pub how_many : Result (List Payload) Fault → ℕ
how_many (Ok ps) = length ps
how_many (Err f) = 0

-- a body under a header that counts its payloads
abbrev pub headed : ℕ → Bool → List ℕ → List ℕ
headed n a b = header_octets n a (how_many (body_payloads b) - 1) ++ b

-- header and body read as the body's payloads, with the number and A
abbrev pub HeaderAndBodyRead : Type 0
HeaderAndBodyRead = (n : ℕ) (a : Bool) (b : List ℕ) (ps : List Payload) → 0 < length b → length b ≤ 1019 → body_payloads b ≡ Ok ps
    → (a ≡ true → some_deserves ps ≡ true) → read (headed n a b) ≡ Ok (datagram n a ps)

-- a body that has an octet has a payload
abbrev pub BodyIsNotEmpty : Type 0
BodyIsNotEmpty = (b : List ℕ) → 0 < length b → body_payloads b ≢ Ok []

-- the data of a part is read as its content, wherever it stands
abbrev pub Readable : Part → Type 0
Readable p = (at : ℕ) → content_of (type_of p.content) p.octets at ≡ Ok p.content

abbrev pub AllOf : {X : Type 0} → (X → Type 0) → List X → Type 0
AllOf P [] = Unit {0}
AllOf P (x ∷ xs) = P x × AllOf P xs

-- a body that was written reads as its parts
abbrev pub BodyReadsBack : Type 0
BodyReadsBack = (ps : List Part) → AllOf Readable ps → body_payloads (body_octets ps) ≡ Ok (placed_from 5 ps)

-- and so does a datagram
pub record ReadsBack (v : Value) : Type 0 where
  pub as_placed : read (written v) ≡ Ok (placed v)
  pub as_value : map_ok value_of (read (written v)) ≡ Ok v

abbrev pub WrittenReadsBack : Type 0
WrittenReadsBack = (v : Value) → InRange v → ReadsBack v

-- how a reply begins: with the Ack of one number, or the Nack of one, or neither
pub data Settling : Type 0 where
  acknowledging : ℕ → Settling
  rejecting : ℕ → ℕ → List ℕ → Settling
  nothing : Settling

abbrev pub settled : Settling → List Content
settled (acknowledging n) = ack (n ∷ []) ∷ []
settled (rejecting n r x) = nack (record { number = n; reason = r; octets = x } ∷ []) ∷ []
settled nothing = []

-- an I-Am-Alive that gives a cookie back
abbrev pub living : Option (List ℕ) → Content
living c = i_am_alive (record { validity = 0; wants_reply = false; cookie = c })

abbrev pub under_no_call : Content → Item
under_no_call c = record { crv = 0; content = c }

abbrev pub replied : Settling → List (Option (List ℕ)) → List Content
replied s cookies = settled s ++ map living cookies

abbrev pub reply : ℕ → List Content → Value
reply n cs = record { number = n; wants_ack = false; items = map under_no_call cs }

abbrev pub ReplyReadsBack : Type 0
ReplyReadsBack = (n : ℕ) (s : Settling) (cookies : List (Option (List ℕ))) → every content_within (replied s cookies) ≡ true → 0 < length (replied s cookies) → length (written (reply n (replied s cookies))) ≤ 1024
    → read (written (reply n (replied s cookies))) ≡ Ok (placed (reply n (replied s cookies)))

-- an I-Am-Alive with no cookie that wants a reply
abbrev pub calling : ℕ → Value
calling n = record { number = n; wants_ack = false; items = under_no_call (i_am_alive (record { validity = 0; wants_reply = true; cookie = None })) ∷ [] }

abbrev pub CallForLifeReadsBack : Type 0
CallForLifeReadsBack = (n : ℕ) → read (written (calling n)) ≡ Ok (placed (calling n))

pub record RoundTrip : Type 0 where
  pub header_and_body : HeaderAndBodyRead
  pub body_not_empty : BodyIsNotEmpty
  pub body : BodyReadsBack
  pub datagram : WrittenReadsBack
  pub reply : ReplyReadsBack
  pub call_for_life : CallForLifeReadsBack
