-- Two ends in code keep step with the definitions: what they know and report is what a world of the definitions holds.
use Rattle.std.proofs.Common.{◌≡◌, ℕ, zero, suc, ◌<◌, ◌≤◌, Bool, true, false, cond, not, ◌&&◌, eqb, List, [], ◌∷◌, ◌++◌, map, length, get_or, Some, None, Ok, Err, Option, Result, sym, refl, ap, ◌∙◌, arith, length-append}
use Rattle.std.proofs.lemmas.Bool.Decides.{nat_tests}
use Rattle.datagram.specs.Results.{map_ok, ask}
use Rattle.endpoint.specs.declared.answer.Sent.{Sent}
use Rattle.endpoint.specs.declared.answer.Ticked as ticking
use Rattle.endpoint.specs.declared.answer.Ticked.TheVariants.{Resent, Unanswered, Silent, KeptAlive, Idle}
use Rattle.endpoint.specs.declared.peer.Peer.{Peer}
use Rattle.endpoint.specs.declared.refusal.Refusal.{Refusal}
use Rattle.endpoint.specs.Arrives.{Arrival, arrive_within}
use Rattle.endpoint.specs.Calls as calls
use Rattle.endpoint.specs.Ends.{End, same_peer, is_none}
use Rattle.endpoint.specs.Enrols as enrolling
use Rattle.endpoint.specs.Sends.{send_within}
use Rattle.endpoint.specs.Steps.{Step}
use Rattle.endpoint.specs.Ticks.{tick_within}
use Rattle.endpoint.specs.Timing.{numbers_left}
use Rattle.trunk.specs.declared.log.Error.{Error}
use Rattle.trunk.specs.declared.log.Error.TheVariants.{NoSuchDatagram, OthersAddress}
use Rattle.trunk.specs.Acts.{Octets, Side, left, right, other, same, Act, aside, wrote}
use Rattle.trunk.specs.Two.{Setting, Turn, Log, World, act_of, as_send, as_tick, as_arrival, reply_in, gave, is_there, place_after, place_for, deed_of, history, step_of, entry_of, turned, newly}
use Rattle.trunk.specs.Views.{Order, enrol, send, tick, arrive, hear, Report}
use Rattle.trunk.specs.Runs.{wrote_at, turn, or_else, turn_for, is_aside, tell, report_of, told}
use Rattle.trunk.specs.Parties.{sent_by, line_of, line_at, call_for, from_of, Party, new_party, reported, Enters}

-- the datagram that a report tells of is the one that the act wrote for the other end
abbrev Line : Act → Result calls.Answer Refusal → Octets → Type 0
Line a x d = cond (not (is_aside a) && not (is_none (sent_by (map_ok tell x)))) (Some d) None ≡ wrote a

send_line : (z want : Bool) (t : ℕ) (b d : Octets) (r : Result Sent Refusal) → Line (cond z (as_send want t b d (map_ok calls.sent r)) (aside (gave (map_ok calls.sent r)))) (map_ok calls.sent r) d
send_line true want t b d (Ok x) = refl
send_line true want t b d (Err r) = refl
send_line false want t b d (Ok x) = refl
send_line false want t b d (Err r) = refl

tick_line : (z : Bool) (t : ℕ) (d : Octets) (r : Result ticking.Ticked Refusal) → Line (cond z (as_tick t d (map_ok calls.ticked r)) (aside (gave (map_ok calls.ticked r)))) (map_ok calls.ticked r) d
tick_line true t d (Ok (Resent x)) = refl
tick_line true t d (Ok (Unanswered n)) = refl
tick_line true t d (Ok Silent) = refl
tick_line true t d (Ok (KeptAlive x)) = refl
tick_line true t d (Ok Idle) = refl
tick_line true t d (Err r) = refl
tick_line false t d (Ok x) = refl
tick_line false t d (Err r) = refl

reply_line : (o : Option Sent) (d : Octets) → cond (not (is_none o)) (Some d) None ≡ reply_in o d
reply_line (Some x) d = refl
reply_line None d = refl

arrive_line : (z : Bool) (from : ℕ) (d : Octets) (r : Result Arrival Refusal) → Line (cond z (as_arrival from d (map_ok calls.arrived r)) (aside (gave (map_ok calls.arrived r)))) (map_ok calls.arrived r) d
arrive_line true from d (Ok a) = reply_line a.reply d
arrive_line true from d (Err r) = refl
arrive_line false from d (Ok a) = refl
arrive_line false from d (Err r) = refl

enrol_line : (d : Octets) (r : Result (Unit {0}) Refusal) → Line (aside false) (map_ok (λ u. calls.enrolled) r) d
enrol_line d (Ok u) = refl
enrol_line d (Err r) = refl

call_line : (below : ℕ → Bool) (depth : ℕ) (e : End) (peer : Peer) (q : Option ℕ) (c : calls.Call) (from : ℕ)
    → Line (act_of peer q c from (calls.called_within below depth e c).answer (calls.called_within below depth e c).wrote) (calls.called_within below depth e c).answer (calls.called_within below depth e c).wrote
call_line below depth e peer q (calls.enrols p t b role) from = enrol_line (enrolling.enrol e p t b role).wrote (enrolling.enrol e p t b role).answer
call_line below depth e peer q (calls.sends p t want b room) from = send_line (is_there q p) want t b (send_within below e p t want b room).wrote (send_within below e p t want b room).answer
call_line below depth e peer q (calls.ticks p t room) from = tick_line (is_there q p) t (tick_within below e p t room).wrote (tick_within below e p t room).answer
call_line below depth e peer q (calls.arrives t x d room) from = arrive_line (same_peer x peer) from (arrive_within below depth e t x d room).wrote (arrive_within below depth e t x d room).answer

-- the datagram of the last of some reports, or of one before
pub line_more : (rs : List Report) (r : Report) (k : ℕ) (s : Side) → line_at (rs ++ (r ∷ [])) k s ≡ cond (eqb k (length rs)) (line_of s r) (line_at rs k s)
line_more [] r zero s = refl
line_more [] r (suc k) s = let e : eqb (suc k) 0 ≡ false = grind (arith, nat_tests) in rw e refl
line_more (x ∷ rs) r zero s = let e : eqb 0 (suc (length rs)) ≡ false = grind (arith, nat_tests) in rw e refl
line_more (x ∷ rs) r (suc k) s = line_more rs r k s ∙ ap (λ b. cond b (line_of s r) (line_at rs k s)) (sym (shifts k (length rs)))
  where
    shifts : (a b : ℕ) → eqb (suc a) (suc b) ≡ eqb a b
    shifts a b = grind (arith, nat_tests)

-- the datagram in a log, by the entry
pub line_in : {X : Type 0} (says : X → Report) (l : List X) (k : ℕ) (s : Side) (x : X) → k < length l → line_at (map says l) k s ≡ line_of s (says (get_or l k x))
line_in says [] k s x h = absurd (omega arith)
line_in says (y ∷ l) zero s x h = refl
line_in says (y ∷ l) (suc k) s x h = line_in says l k s x (omega arith)

pub line_past : {X : Type 0} (says : X → Report) (l : List X) (k : ℕ) (s : Side) → length l ≤ k → line_at (map says l) k s ≡ None
line_past says [] k s h = refl
line_past says (y ∷ l) zero s h = absurd (omega arith)
line_past says (y ∷ l) (suc k) s h = line_past says l k s (omega arith)

told_length : (σ : Setting) (l : Log) → length (told σ l) ≡ length l
told_length σ [] = refl
told_length σ (e ∷ l) = let h = told_length σ l in length-append (told σ l) (report_of σ l e ∷ []) ∙ omega arith

history_length : (σ : Setting) (l : Log) → length (history σ l) ≡ length l
history_length σ [] = refl
history_length σ (e ∷ l) = ap suc (history_length σ l)

-- the parties are the ends of this world, and the log is reported so
pub record Matches (σ : Setting) (w : World) (ps : Side → Party) (rs : List Report) : Type 0 where
  pub sides : (s : Side) → (ps s).side ≡ s
  pub peers : (s : Side) → (ps s).peer ≡ σ.peer (other s)
  pub ends : (s : Side) → w.ends s ≡ (ps s).end
  pub places : (s : Side) → place_for σ s w.log ≡ (ps s).place
  pub reports : rs ≡ told σ w.log
  pub lines : (k : ℕ) (s : Side) → line_at rs k s ≡ wrote_at (history σ w.log) k s

pub matches_length : (σ : Setting) (w : World) (ps : Side → Party) (rs : List Report) → Matches σ w ps rs → length rs ≡ length w.log
matches_length σ w ps rs m = ap length m.reports ∙ told_length σ w.log

-- an order is the same call by the reports as by the world
module _ (σ : Setting) (w : World) (ps : Side → Party) (rs : List Report) (m : Matches σ w ps rs) (s : Side) where
  called_so : (o : Order) → turn_for σ w s o ≡ map_ok (λ c. turn s c (from_of o)) (call_for (σ.peer (other s)) s rs o)
  called_so (enrol p t b role) = refl
  called_so (send p t want b room) = refl
  called_so (tick p t room) = refl
  called_so (arrive t k room) =
      copy (wrote_at (history σ w.log) k (other s)) (NoSuchDatagram (length w.log))
      ∙ ap (λ x. map_ok (λ c. turn s c k) (map_ok (λ d. calls.arrives t (σ.peer (other s)) d room) x)) (ap (λ x. or_else x (NoSuchDatagram (length w.log))) (sym (m.lines k (other s))) ∙ ap (λ n. or_else (line_at rs k (other s)) (NoSuchDatagram n)) (sym (matches_length σ w ps rs m)))
    where
      copy : (o : Option Octets) (e : Error) → map_ok (λ d. turn s (calls.arrives t (σ.peer (other s)) d room) k) (or_else o e) ≡ map_ok (λ c. turn s c k) (map_ok (λ d. calls.arrives t (σ.peer (other s)) d room) (or_else o e))
      copy (Some d) e = refl
      copy None e = refl
  called_so (hear t x d room) =
      pass (not (same_peer x (σ.peer (other s)))) (OthersAddress (length w.log))
      ∙ ap (λ n. map_ok (λ c. turn s c 0) (ask (not (same_peer x (σ.peer (other s)))) (OthersAddress n) (Ok (calls.arrives t x d room)))) (sym (matches_length σ w ps rs m))
    where
      pass : (b : Bool) (e : Error) → ask b e (Ok (turn s (calls.arrives t x d room) 0)) ≡ map_ok (λ c. turn s c 0) (ask b e (Ok (calls.arrives t x d room)))
      pass true e = refl
      pass false e = refl

  pub same_turn : (o : Order) → turn_for σ w s o ≡ map_ok (λ c. turn s c (from_of o)) (call_for (ps s).peer (ps s).side rs o)
  same_turn o =
      called_so o
      ∙ ap (λ y. map_ok (λ c. turn s c (from_of o)) (call_for y s rs o)) (sym (m.peers s))
      ∙ ap (λ y. map_ok (λ c. turn s c (from_of o)) (call_for (ps s).peer y rs o)) (sym (m.sides s))

-- both parties with one of them changed
abbrev pub set_side : {X : Type 0} → Side → X → (Side → X) → Side → X
set_side s x f t = cond (same t s) x (f t)

-- one call more: the end s took the call c, and the other did nothing
module _ (σ : Setting) (w : World) (ps : Side → Party) (rs : List Report) (m : Matches σ w ps rs) (standing : σ.below ≡ numbers_left)
    (s : Side) (c : calls.Call) (from : ℕ) (report : Report) (p' : Party) (E : Enters (σ.depth s) (ps s) c from report p') where
  abbrev t : Turn
  t = turn s c from

  abbrev step : Step calls.Answer
  step = calls.called (σ.depth s) (ps s).end c

  same_step : step_of σ w t ≡ step
  same_step = ap (λ b. calls.called_within b (σ.depth s) (w.ends s) c) standing ∙ ap (λ e. calls.called (σ.depth s) e c) (m.ends s)

  -- what the party was left as, told from the world
  party_on : p' ≡ record { side = s; peer = σ.peer (other s); end = (step_of σ w t).after; place = place_after (σ.peer (other s)) c (step_of σ w t).answer (place_for σ s w.log) }
  party_on =
      E.leaves
      ∙ ap (λ y. record { side = y; peer = (ps s).peer; end = step.after; place = place_after (ps s).peer c step.answer (ps s).place }) (m.sides s)
      ∙ ap (λ y. record { side = s; peer = y; end = step.after; place = place_after y c step.answer (ps s).place }) (m.peers s)
      ∙ ap (λ y. record { side = s; peer = σ.peer (other s); end = step.after; place = place_after (σ.peer (other s)) c step.answer y }) (sym (m.places s))
      ∙ ap (λ (y : Step calls.Answer). record { side = s; peer = σ.peer (other s); end = y.after; place = place_after (σ.peer (other s)) c y.answer (place_for σ s w.log) }) (sym same_step)

  report_on : report ≡ report_of σ w.log (entry_of σ w t)
  report_on =
      E.reports
      ∙ ap (λ y. reported (record { side = y; peer = (ps s).peer; end = (ps s).end; place = (ps s).place }) c from step) (m.sides s)
      ∙ ap (λ y. reported (record { side = s; peer = y; end = (ps s).end; place = (ps s).place }) c from step) (m.peers s)
      ∙ ap (λ y. reported (record { side = s; peer = σ.peer (other s); end = (ps s).end; place = y }) c from step) (sym (m.places s))
      ∙ ap (reported (record { side = s; peer = σ.peer (other s); end = (ps s).end; place = place_for σ s w.log }) c from) (sym same_step)

  reports_on : rs ++ (report ∷ []) ≡ told σ (turned σ w t).log
  reports_on = ap (λ l. l ++ (report ∷ [])) m.reports ∙ ap (λ r. told σ w.log ++ (r ∷ [])) report_on

  line_on : (x : Side) → line_of x report ≡ cond (same x s) (wrote (deed_of σ w.log (entry_of σ w t)).act) None
  line_on x =
      ap (line_of x) report_on
      ∙ ap (λ o. cond (same x s) o None) (call_line σ.below (σ.depth s) (w.ends s) (σ.peer (other s)) (place_for σ s w.log) c from)

  lines_on : (k : ℕ) (x : Side) → line_at (rs ++ (report ∷ [])) k x ≡ wrote_at (history σ (turned σ w t).log) k x
  lines_on k x =
      line_more rs report k x
      ∙ ap (λ n. cond (eqb k n) (line_of x report) (line_at rs k x)) (matches_length σ w ps rs m ∙ sym (history_length σ w.log))
      ∙ ap (λ o. cond (eqb k (length (history σ w.log))) o (line_at rs k x)) (line_on x)
      ∙ ap (cond (eqb k (length (history σ w.log))) (cond (same x s) (wrote (deed_of σ w.log (entry_of σ w t)).act) None)) (m.lines k x)

pub goes_on : (σ : Setting) (w : World) (ps : Side → Party) (rs : List Report) → Matches σ w ps rs → σ.below ≡ numbers_left
    → (s : Side) (c : calls.Call) (from : ℕ) (report : Report) (p' : Party) → Enters (σ.depth s) (ps s) c from report p'
    → Matches σ (turned σ w (turn s c from)) (set_side s p' ps) (rs ++ (report ∷ []))
goes_on σ w ps rs m standing left c from report p' E =
    let p = party_on σ w ps rs m standing left c from report p' E in
    record {
      sides = elim [ left ↦ ap (λ y. y.side) p | right ↦ m.sides right ];
      peers = elim [ left ↦ ap (λ y. y.peer) p | right ↦ m.peers right ];
      ends = elim [ left ↦ sym (ap (λ y. y.end) p) | right ↦ m.ends right ];
      places = elim [ left ↦ sym (ap (λ y. y.place) p) | right ↦ m.places right ];
      reports = reports_on σ w ps rs m standing left c from report p' E;
      lines = lines_on σ w ps rs m standing left c from report p' E;
    }
goes_on σ w ps rs m standing right c from report p' E =
    let p = party_on σ w ps rs m standing right c from report p' E in
    record {
      sides = elim [ left ↦ m.sides left | right ↦ ap (λ y. y.side) p ];
      peers = elim [ left ↦ m.peers left | right ↦ ap (λ y. y.peer) p ];
      ends = elim [ left ↦ m.ends left | right ↦ sym (ap (λ y. y.end) p) ];
      places = elim [ left ↦ m.places left | right ↦ sym (ap (λ y. y.place) p) ];
      reports = reports_on σ w ps rs m standing right c from report p' E;
      lines = lines_on σ w ps rs m standing right c from report p' E;
    }

-- two new ends
pub begins : (σ : Setting) → Matches σ (newly σ) (λ s. new_party s (σ.peer (other s)) (σ.start s)) []
begins σ = record { sides = λ s. refl; peers = λ s. refl; ends = λ s. refl; places = λ s. refl; reports = refl; lines = λ k s. refl }
