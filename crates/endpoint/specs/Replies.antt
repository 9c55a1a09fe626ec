-- What a datagram is replied with, and what it says of an outstanding message. Assumes nothing.
use Rattle.std.specs.Prelude.{ℕ, Bool, true, false, cond, List, [], ◌∷◌, ◌++◌, Some, None, Option}
use Rattle.std.specs.Option.{option_map}
use Rattle.datagram.specs.Datagrams.{Datagram}
use Rattle.datagram.specs.Payloads.{Payload}
use Rattle.datagram.specs.Structures.{Content, call_message, i_am_alive, ack, nack, non_standard, unsupported, among, reason_for}
use Rattle.writer.specs.Bodies.{Settling, acknowledging, rejecting, nothing, replied, reply}
use Rattle.writer.specs.Values.{written}
use Rattle.endpoint.specs.declared.answer.Outcome.{Outcome}
use Rattle.endpoint.specs.declared.answer.Outcome.TheVariants.{Acknowledged, Rejected}
use Rattle.endpoint.specs.declared.answer.Sent.{Sent}
use Rattle.endpoint.specs.Ends.{End, numbered}
use Rattle.endpoint.specs.Steps.{sent_as}

abbrev pub or_else : {X : Type 0} → Option X → Option X → Option X
or_else (Some x) o = Some x
or_else None o = o

-- the first type that is not supported
abbrev pub unsupported_in : Content → Option ℕ
unsupported_in (call_message x) = None
unsupported_in (i_am_alive a) = None
unsupported_in (ack ns) = None
unsupported_in (nack es) = None
unsupported_in (non_standard s) = None
unsupported_in (unsupported t x) = Some t

abbrev pub first_unsupported : List Payload → Option ℕ
first_unsupported [] = None
first_unsupported (p ∷ ps) = or_else (unsupported_in p.content) (first_unsupported ps)

-- how the reply begins: the Nack of this number with that type, else the Ack that is wanted
abbrev pub settling : ℕ → Bool → Option ℕ → Settling
settling n wants_ack (Some t) = rejecting n 0 (t ∷ [])
settling n wants_ack None = cond wants_ack (acknowledging n) nothing

-- the cookies to give back: one for each I-Am-Alive that wants a reply
abbrev pub cookie_asked : Content → List (Option (List ℕ))
cookie_asked (call_message x) = []
cookie_asked (i_am_alive a) = cond a.wants_reply (a.cookie ∷ []) []
cookie_asked (ack ns) = []
cookie_asked (nack es) = []
cookie_asked (non_standard s) = []
cookie_asked (unsupported t x) = []

abbrev pub cookies_asked : List Payload → List (Option (List ℕ))
cookies_asked [] = []
cookies_asked (p ∷ ps) = cookie_asked p.content ++ cookies_asked ps

-- what the reply to a datagram says; nothing where none is due
abbrev pub reply_to : Datagram → List Content
reply_to g = replied (settling g.number g.wants_ack (first_unsupported g.payloads)) (cookies_asked g.payloads)

abbrev pub is_empty : {X : Type 0} → List X → Bool
is_empty [] = true
is_empty (x ∷ xs) = false

-- a reply under a number: its octets, how it is answered, and the end that gave the number
abbrev pub reply_octets : ℕ → List Content → List ℕ
reply_octets n [] = []
reply_octets n (c ∷ cs) = written (reply n (c ∷ cs))

abbrev pub reply_sent : ℕ → List Content → Option Sent
reply_sent n [] = None
reply_sent n (c ∷ cs) = Some (sent_as n (written (reply n (c ∷ cs))))

abbrev pub replying : List Content → End → End
replying [] e = e
replying (c ∷ cs) e = numbered e

-- what a payload says of a number
abbrev pub outcome_in : ℕ → Content → Option Outcome
outcome_in n (call_message x) = None
outcome_in n (i_am_alive a) = None
outcome_in n (ack ns) = cond (among n ns) (Some Acknowledged) None
outcome_in n (nack es) = option_map Rejected (reason_for n es)
outcome_in n (non_standard s) = None
outcome_in n (unsupported t x) = None

-- the first payload that names the number decides
abbrev pub decided : ℕ → List Payload → Option Outcome
decided n [] = None
decided n (p ∷ ps) = or_else (outcome_in n p.content) (decided n ps)
