-- What is handed out and replied in code: views over a datagram's payloads, and a writer that a reply is made with. Assumes nothing.
use Rattle.std.specs.Prelude.{◌≡◌, ℕ, ◌+◌, ◌≤◌, min, true, false, cond, List, [], ◌∷◌, ◌++◌, map, length, drop, Some, None, Ok, Option, Result}
use Rattle.datagram.specs.declared.payloads.Payloads as payloads
use Rattle.datagram.specs.declared.structure.alive.Alive as alive
use Rattle.datagram.specs.Payloads.{Payload}
use Rattle.datagram.specs.Structures.{Content, call_message, i_am_alive, ack, nack, non_standard, unsupported}
use Rattle.datagram.specs.Views.{alive_says, payloads_say}
use Rattle.writer.specs.Bodies.{Settling, acknowledging, rejecting, nothing, settled, living, under_no_call}
use Rattle.writer.specs.Runs.{Run}
use Rattle.writer.specs.Values.{Part, part_of, body_octets, every, content_within}
use Rattle.writer.specs.declared.refusal.Refusal.{Refusal}
use Rattle.writer.specs.declared.writer.Writer.{Writer}
use Rattle.endpoint.specs.declared.echoes.Echoes.{Echoes}
use Rattle.endpoint.specs.declared.messages.Messages.{Messages}
use Rattle.endpoint.specs.declared.reply.Reply.{Reply}
use Rattle.endpoint.specs.declared.reply.Settling as code
use Rattle.endpoint.specs.declared.reply.Settling.TheVariants.{Acknowledging, Rejecting, Nothing}
use Rattle.endpoint.specs.Arrives.{handed_out}
use Rattle.endpoint.specs.Replies.{cookies_asked}

-- how many octets contents have as the payloads of a datagram under no call
abbrev pub parts : List Content → List Part
parts cs = map part_of (map under_no_call cs)

abbrev pub octets_in : List Content → ℕ
octets_in cs = length (body_octets (parts cs))

-- all that are still to come
abbrev pub handed_of : Option payloads.Payloads → List Payload
handed_of None = []
handed_of (Some ps) = handed_out (payloads_say ps)

abbrev pub messages_say : Messages → List Payload
messages_say m = handed_of m.payloads

-- the answer to an I-Am-Alive that wants a reply
abbrev pub echoed : Content → Option Content
echoed (call_message x) = None
echoed (i_am_alive a) = cond a.wants_reply (Some (living a.cookie)) None
echoed (ack ns) = None
echoed (nack es) = None
echoed (non_standard s) = None
echoed (unsupported t x) = None

abbrev pub echo_says : alive.Alive → Content
echo_says a = i_am_alive (alive_says a)

abbrev pub echoes_say : Echoes → List Content
echoes_say e = map living (cookies_asked (payloads_say e.payloads))

abbrev pub settling_says : code.Settling → Settling
settling_says (Acknowledging n) = acknowledging n
settling_says (Rejecting n t) = rejecting n 0 (t ∷ [])
settling_says Nothing = nothing

abbrev pub reply_says : Reply → List Content
reply_says r = settled (settling_says r.settling) ++ echoes_say r.echoes

-- contents that lie within their fields, and have room in one datagram
pub record Writable (cs : List Content) : Type 0 where
  pub inside : every content_within cs ≡ true
  pub room : 5 + octets_in cs ≤ 1024

-- a writer over the octets b holds these contents under no call, and its buffer has room for any datagram
pub record Holding (b : List ℕ) (n : ℕ) (cs : List Content) (w : Writer) : Type 0 where
  pub run : Run b n false (parts cs) w
  pub room : min 1024 (length w.buffer.now) ≡ 1024

-- contents were added to those that the writer w held: where all are writable, none is refused
abbrev pub Adds : List Content → Writer → Result (Unit {0}) Refusal → Writer → Type 0
Adds cs w r w' = (b : List ℕ) (n : ℕ) (ds : List Content) → Holding b n ds w → Writable (ds ++ cs) → (r ≡ Ok tt) × Holding b n (ds ++ cs) w'

-- these octets were written to the front of a buffer, whose others stay
pub record Wrote (x : List ℕ) (r : Result ℕ Refusal) (b b' : List ℕ) : Type 0 where
  pub answers : r ≡ Ok (length x)
  pub buffer : b' ≡ x ++ drop (length x) b
