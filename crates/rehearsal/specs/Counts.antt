-- What the closing lines count. Assumes nothing.
use Rattle.std.specs.Prelude.{ℕ, Bool, true, false, ◌&&◌, List, [], ◌∷◌, count_by, zip, Some, None, Ok, Err, Option, Result}
use Rattle.endpoint.specs.declared.answer.Outcome.{Outcome}
use Rattle.endpoint.specs.declared.answer.Outcome.TheVariants.{Acknowledged, Rejected}
use Rattle.endpoint.specs.declared.answer.Settled.{Settled}
use Rattle.endpoint.specs.declared.answer.Ticked.{Ticked}
use Rattle.endpoint.specs.declared.answer.Ticked.TheVariants.{Resent, Unanswered}
use Rattle.endpoint.specs.declared.refusal.Refusal.{Refusal}
use Rattle.trunk.specs.Acts.{Said, Side, other, same}
use Rattle.trunk.specs.Views.{Order, arrive, Ask, Answer, sent, ticked, arrived, Report}
use Rattle.rehearsal.specs.declared.tally.Event.{Event}
use Rattle.rehearsal.specs.declared.tally.Event.TheVariants as event
use Rattle.rehearsal.specs.declared.tally.Tally.{Tally}

abbrev pub is_arrive : Order → Bool
is_arrive (arrive time entry room) = true
is_arrive _ = false

abbrev pub is_sent : Answer → Bool
is_sent (sent x) = true
is_sent _ = false

abbrev pub is_resent : Ticked → Bool
is_resent (Resent x) = true
is_resent _ = false

abbrev pub is_unanswered : Ticked → Bool
is_unanswered (Unanswered n) = true
is_unanswered _ = false

abbrev pub is_acknowledged : Outcome → Bool
is_acknowledged Acknowledged = true
is_acknowledged _ = false

abbrev pub is_rejected : Outcome → Bool
is_rejected (Rejected reason) = true
is_rejected _ = false

abbrev pub ticked_so : (Ticked → Bool) → Answer → Bool
ticked_so is (ticked x) = is x
ticked_so is _ = false

abbrev pub settled_so : (Outcome → Bool) → Option Settled → Bool
settled_so is None = false
settled_so is (Some s) = is s.outcome

abbrev pub arrived_so : (Outcome → Bool) → Answer → Bool
arrived_so is (arrived a) = settled_so is a.settled
arrived_so is _ = false

abbrev pub is_some : List Said → Bool
is_some [] = false
is_some (p ∷ ps) = true

abbrev pub hands_out : Answer → Bool
hands_out (arrived a) = is_some a.handed
hands_out _ = false

-- whether an answer tells of the event
abbrev pub told : Event → Answer → Bool
told event.Sent a = is_sent a
told event.Resent a = ticked_so is_resent a
told event.Handed a = hands_out a
told event.Acknowledged a = arrived_so is_acknowledged a
told event.Rejected a = arrived_so is_rejected a
told event.Unanswered a = ticked_so is_unanswered a

abbrev pub tells : Event → Result Answer Refusal → Bool
tells e (Ok a) = told e a
tells e (Err r) = false

-- where the event of a send of s towards the other end is told: sends and ticks of the other end's place, and arrivals, of the other end where
-- the send is handed out there
abbrev pub concerns : Event → Side → Ask → Report → Bool
concerns event.Sent s a r = same s a.side && r.between
concerns event.Resent s a r = same s a.side && r.between
concerns event.Handed s a r = same (other s) a.side && is_arrive a.order
concerns event.Acknowledged s a r = same s a.side && is_arrive a.order
concerns event.Rejected s a r = same s a.side && is_arrive a.order
concerns event.Unanswered s a r = same s a.side && r.between

abbrev pub shows : Event → Side → Ask → Report → Bool
shows e s a r = concerns e s a r && tells e r.answer

-- how many calls show the event
abbrev pub counted : Event → Side → List Ask → List Report → ℕ
counted e s asked rs = count_by (λ p. shows e s p.0 p.1) (zip asked rs)

abbrev pub tally : Side → List Ask → List Report → Tally
tally s asked told = record {
  sent = counted event.Sent s asked told;
  resent = counted event.Resent s asked told;
  handed = counted event.Handed s asked told;
  acknowledged = counted event.Acknowledged s asked told;
  rejected = counted event.Rejected s asked told;
  unanswered = counted event.Unanswered s asked told;
}
