-- A call of an end in code is reported as the definitions report it.
use Rattle.std.proofs.Common.{◌≡◌, ℕ, Bool, true, false, cond, not, ◌&&◌, List, [], ◌∷◌, ◌++◌, length, take, drop, Some, None, Ok, Err, Option, Result, sym, refl, ap, ◌∙◌, min, arith}
use Rattle.std.proofs.lemmas.Bool.Decides.{nat_tests}
use Rattle.std.proofs.lemmas.List.{take_at}
use Rattle.datagram.specs.Results.{map_ok}
use Rattle.datagram.specs.Structures.{Content}
use Rattle.endpoint.specs.declared.answer.Sent.{Sent}
use Rattle.endpoint.specs.declared.answer.Ticked as ticking
use Rattle.endpoint.specs.declared.answer.Ticked.TheVariants.{Resent, Unanswered, Silent, KeptAlive, Idle}
use Rattle.endpoint.specs.declared.peer.Peer.{Peer}
use Rattle.endpoint.specs.declared.peer.Role.{Role}
use Rattle.endpoint.specs.declared.refusal.Refusal.{Refusal}
use Rattle.endpoint.specs.Arrives.{Arrival, arrive, arrive_within, arrive_asks}
use Rattle.endpoint.specs.Calls as calls
use Rattle.endpoint.specs.Ends.{End, same_peer}
use Rattle.endpoint.specs.Enrols as enrolling
use Rattle.endpoint.specs.Replies.{reply_octets, reply_sent}
use Rattle.endpoint.specs.Sends.{send, send_within, send_asks}
use Rattle.endpoint.specs.Steps.{Step, Does, Comes, first_no, unless, has_room}
use Rattle.endpoint.specs.Ticks.{Move, resends, gives_up, marks_silent, keeps_alive, rests, tick, tick_within, tick_acts, tick_asks}
use Rattle.endpoint.specs.Timing.{numbers_left}
use Rattle.trunk.specs.Acts.{Octets, aside}
use Rattle.trunk.specs.Parties.{sent_by, size_in, is_accepted, entered, Party, reported, stepped, Enters}
use Rattle.trunk.specs.Runs.{is_aside, tell_arrival, tell}
use Rattle.trunk.specs.Two.{act_of, as_send, as_tick, as_arrival, gave, is_there, if_enrolled}
use Rattle.trunk.specs.Views.{Answer, enrolled, sent, ticked, arrived, Report}

-- what was written is as long as the answer says
abbrev Sized : {A : Type 0} → (A → calls.Answer) → Step A → Type 0
Sized f x = size_in (sent_by (map_ok tell (map_ok f x.answer))) ≡ length x.wrote

asked : {A : Type 0} (f : A → calls.Answer) (o : Option Refusal) (e : End) (x : Step A) → Sized f x → Sized f (unless o e x)
asked f None e x s = s
asked f (Some r) e x s = refl

sized_tick : (e : End) (p t : ℕ) (m : Move) → Sized calls.ticked (tick_acts e p t m)
sized_tick e p t (resends m) = refl
sized_tick e p t (gives_up m) = refl
sized_tick e p t marks_silent = refl
sized_tick e p t keeps_alive = refl
sized_tick e p t rests = refl

sized_reply : (n : ℕ) (cs : List Content) → size_in (reply_sent n cs) ≡ length (reply_octets n cs)
sized_reply n [] = refl
sized_reply n (c ∷ cs) = refl

sized : (depth : ℕ) (e : End) (c : calls.Call) → size_in (sent_by (map_ok tell (calls.called depth e c).answer)) ≡ length (calls.called depth e c).wrote
unfolding enrolling.enrol send_within tick_within arrive_within
sized depth e (calls.enrols p t b role) = asked (λ u. calls.enrolled) (first_no (enrolling.enrol_asks e p t b)) e _ refl
sized depth e (calls.sends p t want b room) = asked calls.sent (first_no (send_asks numbers_left e p t want b room)) e _ refl
sized depth e (calls.ticks p t room) = asked calls.ticked (first_no (tick_asks numbers_left e p t room)) e _ (sized_tick e p t _)
sized depth e (calls.arrives t x d room) = asked calls.arrived (first_no (arrive_asks numbers_left depth e t x d room)) e _ (sized_reply e.next _)

-- a call that was meant for the other end is between the two if it is accepted
abbrev Between : Party → calls.Call → ℕ → (met : Bool) → Step calls.Answer → Type 0
Between p c from met x = (met && is_accepted (map_ok tell x.answer)) ≡ not (is_aside (act_of p.peer p.place c from x.answer x.wrote))

-- the buffer that a call was lent has `size` octets; `old` is what it was, `out` what the call made of it
module _ (depth : ℕ) (p p' : Party) (x : Result Answer Refusal) (old out rest : Octets) (size : ℕ) (met : Bool) (report : Report)
    (told : report ≡ entered p.side x (take size (out ++ rest)) met) (whole : length out ≡ size) where
  enters : (c : calls.Call) (from : ℕ)
      → x ≡ map_ok tell (calls.called depth p.end c).answer
      → out ≡ (calls.called depth p.end c).wrote ++ drop (length (calls.called depth p.end c).wrote) old
      → Between p c from met (calls.called depth p.end c)
      → p' ≡ stepped p c (calls.called depth p.end c)
      → Enters depth p c from report p'
  enters c from answer writes between leaves =
      let s : Step calls.Answer = calls.called depth p.end c in
      let wrote : take (size_in (sent_by (map_ok tell s.answer))) (s.wrote ++ drop (length s.wrote) old) ≡ s.wrote = take_at s.wrote _ _ (sym (sized depth p.end c)) in
      record {
        reports =
            told
            ∙ ap (λ y. entered p.side x y met) (take_at out rest size whole ∙ writes)
            ∙ ap (λ y. entered p.side y (s.wrote ++ drop (length s.wrote) old) met) answer
            ∙ ap (λ y. record { side = p.side; answer = map_ok tell s.answer; wrote = y; between = met && is_accepted (map_ok tell s.answer) }) wrote
            ∙ ap (λ y. record { side = p.side; answer = map_ok tell s.answer; wrote = s.wrote; between = y }) between;
        leaves = leaves;
      }

send_between : (z want : Bool) (t : ℕ) (b d : Octets) (r : Result Sent Refusal)
    → (z && is_accepted (map_ok tell (map_ok calls.sent r))) ≡ not (is_aside (cond z (as_send want t b d (map_ok calls.sent r)) (aside (gave (map_ok calls.sent r)))))
send_between true want t b d (Ok x) = refl
send_between true want t b d (Err r) = refl
send_between false want t b d r = refl

tick_between : (z : Bool) (t : ℕ) (d : Octets) (r : Result ticking.Ticked Refusal)
    → (z && is_accepted (map_ok tell (map_ok calls.ticked r))) ≡ not (is_aside (cond z (as_tick t d (map_ok calls.ticked r)) (aside (gave (map_ok calls.ticked r)))))
tick_between true t d (Ok (Resent x)) = refl
tick_between true t d (Ok (Unanswered n)) = refl
tick_between true t d (Ok Silent) = refl
tick_between true t d (Ok (KeptAlive x)) = refl
tick_between true t d (Ok Idle) = refl
tick_between true t d (Err r) = refl
tick_between false t d r = refl

arrive_between : (z : Bool) (from : ℕ) (d : Octets) (r : Result Arrival Refusal)
    → (z && is_accepted (map_ok tell (map_ok calls.arrived r))) ≡ not (is_aside (cond z (as_arrival from d (map_ok calls.arrived r)) (aside (gave (map_ok calls.arrived r)))))
arrive_between true from d (Ok a) = refl
arrive_between true from d (Err r) = refl
arrive_between false from d r = refl

told_sent : (r : Result Sent Refusal) → map_ok sent r ≡ map_ok tell (map_ok calls.sent r)
told_sent (Ok x) = refl
told_sent (Err r) = refl

told_ticked : (r : Result ticking.Ticked Refusal) → map_ok ticked r ≡ map_ok tell (map_ok calls.ticked r)
told_ticked (Ok x) = refl
told_ticked (Err r) = refl

told_arrived : (r : Result Arrival Refusal) → map_ok (λ a. arrived (tell_arrival a)) r ≡ map_ok tell (map_ok calls.arrived r)
told_arrived (Ok x) = refl
told_arrived (Err r) = refl

-- a party whose end alone changed
abbrev pub party_with : Party → End → Party
party_with p e = record { side = p.side; peer = p.peer; end = e; place = p.place }

-- of a buffer's length it matters only whether a datagram has room in it
module _ (depth : ℕ) (p p' : Party) (report : Report) (from n m : ℕ) (lent : has_room n ≡ has_room m) where
  alike : (c c' : calls.Call) → calls.called depth p.end c ≡ calls.called depth p.end c'
      → ((x : Result calls.Answer Refusal) (d : Octets) → act_of p.peer p.place c from x d ≡ act_of p.peer p.place c' from x d)
      → ((x : Step calls.Answer) → stepped p c x ≡ stepped p c' x)
      → Enters depth p c from report p' → Enters depth p c' from report p'
  alike c c' same acts steps E =
      let x : Step calls.Answer = calls.called depth p.end c in
      record {
        reports =
            E.reports
            ∙ ap (λ a. record { side = p.side; answer = map_ok tell x.answer; wrote = x.wrote; between = not (is_aside a) }) (acts x.answer x.wrote)
            ∙ ap (reported p c' from) same;
        leaves = E.leaves ∙ steps x ∙ ap (stepped p c') same;
      }

  room_to_send : (place time : ℕ) (want : Bool) (body : Octets) → Enters depth p (calls.sends place time want body n) from report p' → Enters depth p (calls.sends place time want body m) from report p'
  unfolding send_within
  room_to_send place time want body = alike (calls.sends place time want body n) (calls.sends place time want body m) (rw lent refl) (λ x d. refl) (λ x. refl)

  room_to_tick : (place time : ℕ) → Enters depth p (calls.ticks place time n) from report p' → Enters depth p (calls.ticks place time m) from report p'
  unfolding tick_within
  room_to_tick place time = alike (calls.ticks place time n) (calls.ticks place time m) (rw lent refl) (λ x d. refl) (λ x. refl)

  room_to_arrive : (time : ℕ) (sender : Peer) (octets : Octets) → Enters depth p (calls.arrives time sender octets n) from report p' → Enters depth p (calls.arrives time sender octets m) from report p'
  unfolding arrive_within
  room_to_arrive time sender octets = alike (calls.arrives time sender octets n) (calls.arrives time sender octets m) (rw lent refl) (λ x d. refl) (λ x. refl)

-- what is reported may be kept in another place
pub kept_as : {depth : ℕ} {p p' : Party} {c : calls.Call} {from : ℕ} (report copy : Report) → copy ≡ report → Enters depth p c from report p' → Enters depth p c from copy p'
kept_as report copy same E = record { reports = same ∙ E.reports; leaves = E.leaves }

pub has_same_room : (n room : ℕ) → n ≡ min room 1024 → has_room n ≡ has_room room
has_same_room n room e = grind (arith, nat_tests)

-- each call of the code, that did as the endpoint says, with the place that it was for or the sender whose datagram came
module _ (depth : ℕ) (p p' : Party) (e' : End) (x : Result Answer Refusal) (old out rest : Octets) (room size : ℕ) (met : Bool) (report : Report)
    (told : report ≡ entered p.side x (take size (out ++ rest)) met) (whole : length out ≡ size) (lent : has_room (length old) ≡ has_room room) (leaves : p' ≡ party_with p e') where
  pub send_enters : (place time : ℕ) (want : Bool) (body : Octets) (r : Result Sent Refusal) → Does (send p.end place time want body (length old)) r e' old out
      → x ≡ map_ok sent r → met ≡ is_there p.place place → Enters depth p (calls.sends place time want body room) 0 report p'
  send_enters place time want body r does is there =
      room_to_send depth p p' report 0 (length old) room lent place time want body
      (enters depth p p' x old out rest size met report told whole (calls.sends place time want body (length old)) 0
      (is ∙ ap (map_ok sent) does.answers ∙ told_sent _)
      does.writes
      (ap (λ z. z && is_accepted (map_ok tell (map_ok calls.sent (send p.end place time want body (length old)).answer))) there ∙ send_between (is_there p.place place) want time body _ _)
      (leaves ∙ ap (party_with p) does.leaves))

  pub tick_enters : (place time : ℕ) (r : Result ticking.Ticked Refusal) → Does (tick p.end place time (length old)) r e' old out
      → x ≡ map_ok ticked r → met ≡ is_there p.place place → Enters depth p (calls.ticks place time room) 0 report p'
  tick_enters place time r does is there =
      room_to_tick depth p p' report 0 (length old) room lent place time
      (enters depth p p' x old out rest size met report told whole (calls.ticks place time (length old)) 0
      (is ∙ ap (map_ok ticked) does.answers ∙ told_ticked _)
      does.writes
      (ap (λ z. z && is_accepted (map_ok tell (map_ok calls.ticked (tick p.end place time (length old)).answer))) there ∙ tick_between (is_there p.place place) time _ _)
      (leaves ∙ ap (party_with p) does.leaves))

  pub arrive_enters : (time : ℕ) (sender : Peer) (octets : Octets) (from : ℕ) (r : Result Arrival Refusal) → Does (arrive depth p.end time sender octets (length old)) r e' old out
      → x ≡ map_ok (λ a. arrived (tell_arrival a)) r → met ≡ same_peer sender p.peer → Enters depth p (calls.arrives time sender octets room) from report p'
  arrive_enters time sender octets from r does is there =
      room_to_arrive depth p p' report from (length old) room lent time sender octets
      (enters depth p p' x old out rest size met report told whole (calls.arrives time sender octets (length old)) from
      (is ∙ ap (map_ok (λ a. arrived (tell_arrival a))) does.answers ∙ told_arrived _)
      does.writes
      (ap (λ z. z && is_accepted (map_ok tell (map_ok calls.arrived (arrive depth p.end time sender octets (length old)).answer))) there ∙ arrive_between (same_peer sender p.peer) from _ _)
      (leaves ∙ ap (party_with p) does.leaves))

-- and enrolling, which writes nothing and may give the other a place
told_enrolled : (r : Result (Unit {0}) Refusal) → map_ok (λ u. enrolled) r ≡ map_ok tell (map_ok (λ u. calls.enrolled) r)
told_enrolled (Ok u) = refl
told_enrolled (Err r) = refl

nothing_sent : (r : Result (Unit {0}) Refusal) → size_in (sent_by (map_ok (λ u. enrolled) r)) ≡ 0
nothing_sent (Ok u) = refl
nothing_sent (Err r) = refl

nothing_written : (o : Option Refusal) (e : End) (place time : ℕ) (peer : Peer) (role : Role) → (unless o e (enrolling.enrol_acts e place time peer role)).wrote ≡ []
nothing_written None e place time peer role = refl
nothing_written (Some r) e place time peer role = refl

enrol_silent : (e : End) (place time : ℕ) (peer : Peer) (role : Role) → (enrolling.enrol e place time peer role).wrote ≡ []
unfolding enrolling.enrol
enrol_silent e place time peer role = nothing_written (first_no (enrolling.enrol_asks e place time peer)) e place time peer role

pub enrol_enters : (depth : ℕ) (p p' : Party) (e' : End) (place time : ℕ) (peer : Peer) (role : Role) (r : Result (Unit {0}) Refusal) (x : Result Answer Refusal) (report : Report)
    → Comes (enrolling.enrol p.end place time peer role) r e'
    → x ≡ map_ok (λ u. enrolled) r → report ≡ entered p.side x [] false
    → p' ≡ record { side = p.side; peer = p.peer; end = e'; place = cond (same_peer peer p.peer) (if_enrolled (map_ok (λ u. calls.enrolled) r) (Some place) p.place) p.place }
    → Enters depth p (calls.enrols place time peer role) 0 report p'
enrol_enters depth p p' e' place time peer role r x report comes is told leaves =
    let s : Step (Unit {0}) = enrolling.enrol p.end place time peer role in
    record {
      reports =
          told
          ∙ ap (λ y. entered p.side y [] false) is
          ∙ ap (λ n. record { side = p.side; answer = map_ok (λ u. enrolled) r; wrote = take n []; between = false }) (nothing_sent r)
          ∙ ap (λ y. record { side = p.side; answer = y; wrote = []; between = false }) (ap (map_ok (λ u. enrolled)) comes.answers ∙ told_enrolled s.answer)
          ∙ ap (λ y. record { side = p.side; answer = map_ok tell (map_ok (λ u. calls.enrolled) s.answer); wrote = y; between = false }) (sym (enrol_silent p.end place time peer role));
      leaves =
          leaves
          ∙ ap (λ y. record { side = p.side; peer = p.peer; end = y; place = cond (same_peer peer p.peer) (if_enrolled (map_ok (λ u. calls.enrolled) r) (Some place) p.place) p.place }) comes.leaves
          ∙ ap (λ y. record { side = p.side; peer = p.peer; end = s.after; place = cond (same_peer peer p.peer) (if_enrolled (map_ok (λ u. calls.enrolled) y) (Some place) p.place) p.place }) comes.answers;
    }
