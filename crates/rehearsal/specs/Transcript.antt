-- The transcript of a list of calls, from what came of each. Assumes nothing.
use Rattle.std.specs.Prelude.{ℕ, ◌+◌, Bool, true, false, List, [], ◌∷◌, ◌++◌, Some, None, Ok, Err, codes, decimal, flat_map, Option, Result}
use Rattle.endpoint.specs.declared.answer.Outcome.{Outcome}
use Rattle.endpoint.specs.declared.answer.Outcome.TheVariants.{Acknowledged, Rejected}
use Rattle.endpoint.specs.declared.answer.Sent.{Sent}
use Rattle.endpoint.specs.declared.answer.Settled.{Settled}
use Rattle.endpoint.specs.declared.answer.Ticked.{Ticked}
use Rattle.endpoint.specs.declared.answer.Ticked.TheVariants.{Resent, Unanswered, Silent, KeptAlive, Idle}
use Rattle.endpoint.specs.declared.refusal.Layer.{Layer}
use Rattle.endpoint.specs.declared.refusal.Layer.TheVariants.{End, Datagram, Payload, Structure}
use Rattle.endpoint.specs.declared.refusal.Refusal.{Refusal}
use Rattle.endpoint.specs.Refusals.{number_of, layer_of, offset_of}
use Rattle.trunk.specs.Acts.{Octets, Said, Side, left, right}
use Rattle.trunk.specs.Views.{Order, enrol, send, tick, arrive, hear, Ask, Arrival, Answer, enrolled, sent, ticked, arrived, Report}
use Rattle.rehearsal.specs.declared.tally.Tally.{Tally}
use Rattle.rehearsal.specs.Counts.{tally}
use Rattle.rehearsal.specs.Words.{Text, pairs, pairs_or_none, then, then_number}

abbrev pub side_word : Side → Text
side_word left = codes "left"
side_word right = codes "right"

abbrev pub call_word : Order → Text
call_word (enrol place time peer role) = codes "enrol"
call_word (send place time want body room) = codes "send"
call_word (tick place time room) = codes "tick"
call_word (arrive time entry room) = codes "arrive"
call_word (hear time sender octets room) = codes "hear"

-- a datagram that was written: what for, its number and its octets
abbrev pub written : Text → Sent → Octets → Text
written w x d = then w ++ (then_number x.number ++ then (pairs d))

abbrev pub tick_text : Ticked → Octets → Text
tick_text (Resent x) d = written (codes "resent") x d
tick_text (Unanswered n) d = codes " unanswered" ++ then_number n
tick_text Silent d = codes " silent"
tick_text (KeptAlive x) d = written (codes "alive") x d
tick_text Idle d = codes " idle"

abbrev pub freshness : Bool → Text
freshness true = codes "fresh"
freshness false = codes "again"

-- a payload that was handed out: type, CRV and data
abbrev pub payload_text : Said → Text
payload_text p = codes " payload" ++ (then_number p.type ++ (then_number p.crv ++ then (pairs_or_none p.octets)))

abbrev pub outcome_text : ℕ → Outcome → Text
outcome_text n Acknowledged = codes " acknowledged" ++ then_number n
outcome_text n (Rejected reason) = codes " rejected" ++ (then_number n ++ then_number reason)

abbrev pub settled_text : Option Settled → Text
settled_text None = []
settled_text (Some s) = outcome_text s.number s.outcome

abbrev pub reply_text : Option Sent → Octets → Text
reply_text None d = []
reply_text (Some x) d = written (codes "reply") x d

abbrev pub arrival_text : Arrival → Octets → Text
arrival_text a d = then (freshness a.fresh) ++ (flat_map payload_text a.handed ++ (settled_text a.settled ++ reply_text a.reply d))

abbrev pub answer_text : Answer → Octets → Text
answer_text enrolled d = codes " enrolled"
answer_text (sent x) d = written (codes "sent") x d
answer_text (ticked x) d = tick_text x d
answer_text (arrived a) d = arrival_text a d

abbrev pub layer_word : Layer → Text
layer_word End = codes "end"
layer_word Datagram = codes "datagram"
layer_word Payload = codes "payload"
layer_word Structure = codes "structure"

abbrev pub refusal_text : Refusal → Text
refusal_text r = codes " refused" ++ (then_number (number_of r) ++ (then (layer_word (layer_of r)) ++ then_number (offset_of r)))

abbrev pub result_text : Result Answer Refusal → Octets → Text
result_text (Ok x) d = answer_text x d
result_text (Err r) d = refusal_text r

abbrev pub report_text : Report → Text
report_text r = result_text r.answer r.wrote

-- the line of call n
abbrev pub call_line : ℕ → Ask → Report → Text
call_line n a r =
    decimal n ++ (then (side_word a.side) ++ (then (call_word a.order) ++ (report_text r ++ codes "\n")))

-- the lines of calls and what came of each, of which the first has number n
abbrev pub call_lines : ℕ → List Ask → List Report → Text
call_lines n [] told = []
call_lines n (a ∷ asked) [] = []
call_lines n (a ∷ asked) (r ∷ told) = call_line n a r ++ call_lines (n + 1) asked told

-- a count, behind the word that says of what
abbrev pub tallied : Text → ℕ → Text
tallied w n = then w ++ then_number n

-- the closing line of an end
abbrev pub closing_line : Side → Tally → Text
closing_line s t =
    side_word s
    ++ (tallied (codes "sent") t.sent ++ (tallied (codes "resent") t.resent ++ (tallied (codes "handed") t.handed
    ++ (tallied (codes "acknowledged") t.acknowledged ++ (tallied (codes "rejected") t.rejected ++ (tallied (codes "unanswered") t.unanswered
    ++ codes "\n"))))))

-- the whole, from the calls asked for and what came of each
abbrev pub transcript : List Ask → List Report → Text
transcript asked told = call_lines 1 asked told ++ (closing_line left (tally left asked told) ++ closing_line right (tally right asked told))
