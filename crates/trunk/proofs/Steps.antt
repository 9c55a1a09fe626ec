-- Each call of an end, seen from the pair, is one of the seven changes. Only this file and Sites know what an end is made of.
use Rattle.std.proofs.Common.{◌≡◌, ℕ, ◌+◌, ◌<◌, ◌≤◌, Bool, true, false, cond, not, ltb, leb, List, [], ◌∷◌, map, length, get_or, set, Some, None, Ok, Err, Option, sym, refl, ap, ◌∙◌, subst, inl, inr, arith}
use Rattle.std.specs.Option.{option_map}
use Rattle.std.proofs.lemmas.List.{get_or-set_same}
use Rattle.std.proofs.lemmas.Bool.{cases_Bool, true≢false, false≢true, eq-eqb, le-leb, leb-true, leb-false, ltb-true, not-true}
use Rattle.endpoint.specs.declared.peer.Peer.{Peer}
use Rattle.endpoint.specs.declared.peer.Role.{Role}
use Rattle.endpoint.specs.declared.refusal.Refusal.{Refusal}
use Rattle.endpoint.specs.Calls as calls
use Rattle.endpoint.specs.Ends.{Message, Neighbour, Site, vacant, held, End, site_at, is_held, outstanding_at, same_peer, holds_peer, place_of, is_none, with_outstanding}
use Rattle.endpoint.specs.Enrols.{newcomer, enrol, enrol_asks, enrol_acts}
use Rattle.endpoint.specs.Sends.{send_within, send_asks, send_acts, awaiting, sent_once, only_messages, is_plain}
use Rattle.endpoint.specs.Steps.{Step, refused, ask_read}
use Rattle.endpoint.specs.Ticks.{Move, resends, gives_up, marks_silent, keeps_alive, rests, move_at, move_with, watches, retries, falls_silent, long_at_rest, tick_within, tick_asks, tick_acts, resent_at, now_silent, kept_alive_at}
use Rattle.endpoint.specs.Timing.{standing_timers}
use Rattle.endpoint.proofs.Asked.{AllYes, by_questions, was_read}
use Rattle.endpoint.proofs.Moving.{Moves}
use Rattle.endpoint.proofs.Peers.{same_peer_lem, peer_same}
use Rattle.endpoint.proofs.Doing.{enrol_moves, send_moves, tick_moves, arrive_moves}
use Rattle.datagram.specs.Bodies.{body_payloads}
use Rattle.writer.specs.Bodies.{headed, calling, reply}
use Rattle.writer.specs.Values.{written, every}
use Rattle.datagram.specs.Datagrams.{Datagram, read}
use Rattle.datagram.specs.Structures.{Content}
use Rattle.arrivals.specs.declared.book.Judgement.{Judgement}
use Rattle.arrivals.specs.declared.book.Judgement.TheVariants.{Fresh, Again, Old}
use Rattle.arrivals.specs.Meaning.{Seen, Book, judged, judged_at, noted, noted_at, is_fresh}
use Rattle.endpoint.specs.declared.answer.Outcome as answered
use Rattle.endpoint.specs.declared.answer.Settled.{Settled}
use Rattle.endpoint.specs.Arrives.{handed_out, settles, kept_unless, heard_at, is_current, or_nowhere, or_blank, sender_place, arrive_asks, hearing, arrive_acts, arrive_within}
use Rattle.endpoint.specs.Arrives.{said_by as end-said}
use Rattle.endpoint.specs.Replies.{reply_to, reply_octets, reply_sent, replying, decided}
use Rattle.trunk.specs.Acts.{Octets, said_by, Side, other, sent_again, gave_up, kept_alive, let_be, Act, aside, sends, ticks, arrives, History, Wrote}
use Rattle.trunk.specs.Timely.{takes}
use Rattle.trunk.specs.Changes.{Waiting, Pace, bump, keep_unless, Bare, Itself, Goes, goes_aside, goes_telling, goes_asking, goes_resending, goes_giving_up, goes_waiting, goes_arriving}
use Rattle.trunk.specs.Changes as changes
use Rattle.trunk.specs.Two.{is_there, act_of, place_after, settled_as, outcome_of}
use Rattle.trunk.proofs.Alone.{none_some}
use Rattle.trunk.proofs.Hearing.{heard_as, or_nothing, heard_in, waiting_as}
use Rattle.trunk.proofs.Spoken.{send_heard, alive_heard, reply_heard}
use Rattle.trunk.proofs.Sites.{at_held, first_new, view_at, Tied, there_is, held_is, found_there, Turned, moved_found, moved_bare, moved_sized, tied_turned, aside_moved, aside_refused}

abbrev pub pace : Pace
pace = record { first = standing_timers.first; later = standing_timers.later; tries = standing_timers.tries }

none_is : {A : Type 0} (o : Option A) → is_none o ≡ true → o ≡ None
none_is None e = refl
none_is (Some a) e = absurd (false≢true e)

-- what waits, by what is outstanding
waits_for : (o : Option Message) (w : Waiting) → option_map waiting_as o ≡ Some w → (m : Message) × (o ≡ Some m) × (waiting_as m ≡ w)
waits_for None w e = absurd (none_some {A = Waiting} None w refl e)
waits_for (Some m) w e = (m, refl, cc)

-- what a tick's move tells of the message that is outstanding
abbrev Tells : ℕ → Option Message → Move → Type 0
Tells t o (resends m) = (o ≡ Some m) × (m.due ≤ t) × (m.transmissions < pace.tries)
Tells t o (gives_up m) = o ≡ Some m
Tells t o marks_silent = (m : Message) → o ≡ Some m → t < m.due
Tells t o keeps_alive = (m : Message) → o ≡ Some m → t < m.due
Tells t o rests = (m : Message) → o ≡ Some m → t < m.due

watch_tells : (t : ℕ) (o : Option Message) (n : Neighbour) → ((m : Message) → o ≡ Some m → t < m.due) → Tells t o (watches standing_timers t n)
watch_tells t o n f = go (falls_silent standing_timers t n) (long_at_rest standing_timers t n)
  where
    go : (a b : Bool) → Tells t o (cond a marks_silent (cond b keeps_alive rests))
    go true b = f
    go false true = f
    go false false = f

retry_tells : (t : ℕ) (o : Option Message) (m : Message) → o ≡ Some m → m.due ≤ t → Tells t o (retries standing_timers m)
retry_tells t o m e l = go (ltb m.transmissions standing_timers.tries) refl
  where
    go : (b : Bool) → ltb m.transmissions standing_timers.tries ≡ b → Tells t o (cond b (resends m) (gives_up m))
    go true q = (e, l, ltb-true _ _ q)
    go false q = e

due_tells : (t : ℕ) (o : Option Message) (n : Neighbour) → Tells t o (move_with standing_timers t o n)
due_tells t None n = watch_tells t None n (λ m e. absurd (none_some {A = Message} None m refl e))
due_tells t (Some m) n = go (leb m.due t) refl
  where
    go : (b : Bool) → leb m.due t ≡ b → Tells t (Some m) (cond b (retries standing_timers m) (watches standing_timers t n))
    go true q = retry_tells t (Some m) m refl (leb-true _ _ q)
    go false q = watch_tells t (Some m) n (λ k e. let z : m ≡ k = cc in let l = leb-false m.due t q in subst (λ u. t < u.due) z l)

move_tells : (t : ℕ) (x : Site) → Tells t (outstanding_at x) (move_at t x)
move_tells t vacant = λ m e. absurd (none_some {A = Message} None m refl e)
move_tells t (held n) = due_tells t n.outstanding n

holds_held : (peer : Peer) (x : Site) → holds_peer peer x ≡ true → is_held x ≡ true
holds_held peer vacant e = e
holds_held peer (held n) e = refl

vacant_holds : (peer : Peer) (x : Site) → is_held x ≡ false → holds_peer peer x ≡ false
vacant_holds peer vacant e = refl
vacant_holds peer (held n) e = absurd (true≢false e)

-- what an arrival settles, and what it leaves outstanding
mapped_as : (n : ℕ) (o : Option answered.Outcome) → option_map settled_as (option_map (λ x. record { number = n; outcome = x }) o) ≡ option_map outcome_of o
mapped_as n None = refl
mapped_as n (Some x) = refl

settles_as : (f : Bool) (o : Option Message) (g : Datagram) → option_map settled_as (settles f o g.payloads) ≡ changes.settles f (option_map waiting_as o) (heard_as g)
settles_as f None g = refl
settles_as true (Some m) g = mapped_as m.number (decided m.number g.payloads)
settles_as false (Some m) g = refl

kept_as : (x : Option Settled) (o : Option Message) → option_map waiting_as (kept_unless x o) ≡ keep_unless (option_map settled_as x) (option_map waiting_as o)
kept_as None o = refl
kept_as (Some y) o = refl

-- what is judged and noted at one of the 32 places
judged_at_lem : (depth : ℕ) (book : Book) (p m : ℕ) → p < 32 → judged depth book p m ≡ judged_at depth (book p) m
unfolding judged
judged_at_lem depth book p m l = rw (le-leb p 31 (omega arith))

noted_at_lem : (depth : ℕ) (book : Book) (p m : ℕ) → p < 32 → noted depth book p m p ≡ noted_at depth (book p) m
unfolding noted
noted_at_lem depth book p m l = rw (le-leb p 31 (omega arith), eq-eqb p p refl)

current_is : (j : Judgement) → is_current j ≡ true → j ≡ cond (is_fresh j) Fresh Again
current_is Fresh e = refl
current_is Again e = refl
current_is Old e = absurd (false≢true e)

current_small : (depth : ℕ) (z : Seen) (m : ℕ) → is_current (judged_at depth z m) ≡ true → m < 16777216
unfolding judged_at
current_small depth z m e =
    elim (cases_Bool (leb m 16777215)) [
      | inl y ↦ (let l = leb-true m 16777215 y in omega arith)
      | inr y ↦ absurd (false≢true (rw y at e))
    ]

held_same : (a b : Neighbour) → held a ≡ held b → a ≡ b
held_same a b e = cc

sender_place_lem : (o : Option ℕ) → not (is_none o) ≡ true → o ≡ Some (or_nowhere o)
sender_place_lem None e = absurd (false≢true e)
sender_place_lem (Some x) e = refl

was_said : (d : Octets) → (ask_read (read d)).passed ≡ true → read d ≡ Ok (end-said d)
was_said d y = let k = was_read (read d) y in k.1 ∙ ap Ok (sym (ap or_blank k.1))

abbrev with_waiting : Option Message → Neighbour → Neighbour
with_waiting m n = record { peer = n.peer; role = n.role; heard = n.heard; last_kept_alive = n.last_kept_alive; silent = n.silent; outstanding = m }

module _ (below : ℕ → Bool) (peer : Peer) (depth : ℕ) (s : Side) (h : History) where
  -- what a call is to show
  pub record Good (e : End) (q : Option ℕ) (c : calls.Call) (from : ℕ) (x : Step calls.Answer) : Type 0 where
    pub goes : Goes heard_in pace depth h s (view_at e q) (act_of peer q c from x.answer x.wrote) (view_at x.after (place_after peer c x.answer q))
    pub tied : Tied peer x.after (place_after peer c x.answer q)
    pub counted : x.after.given ≡ e.given + cond (takes (act_of peer q c from x.answer x.wrote)) 1 0

  make_good : (e : End) (q : Option ℕ) (c : calls.Call) (from : ℕ) (x : Step calls.Answer) (q' : Option ℕ) (a : Act)
      → place_after peer c x.answer q ≡ q' → act_of peer q c from x.answer x.wrote ≡ a
      → Goes heard_in pace depth h s (view_at e q) a (view_at x.after q') → Tied peer x.after q' → x.after.given ≡ e.given + cond (takes a) 1 0 → Good e q c from x
  make_good e q c from x q' a p z G T n =
      record {
        goes = subst (λ u. Goes heard_in pace depth h s (view_at e q) (act_of peer q c from x.answer x.wrote) (view_at x.after u)) (sym p)
            (subst (λ u. Goes heard_in pace depth h s (view_at e q) u (view_at x.after q')) (sym z) G);
        tied = subst (λ u. Tied peer x.after u) (sym p) T;
        counted = n ∙ ap (λ u. e.given + cond (takes u) 1 0) (sym z);
      }

  -- a refused call
  refused_act : (q : Option ℕ) (c : calls.Call) (from : ℕ) (r : Refusal) → act_of peer q c from (Err r) [] ≡ aside false
  refused_act q (calls.enrols p t b role) from r = refl
  refused_act q (calls.sends p t want b room) from r = elim (is_there q p) as (λ z. cond z (aside false) (aside false) ≡ aside false) [ true ↦ refl | false ↦ refl ]
  refused_act q (calls.ticks p t room) from r = elim (is_there q p) as (λ z. cond z (aside false) (aside false) ≡ aside false) [ true ↦ refl | false ↦ refl ]
  refused_act q (calls.arrives t b d room) from r = elim (same_peer b peer) as (λ z. cond z (aside false) (aside false) ≡ aside false) [ true ↦ refl | false ↦ refl ]

  refused_place : (q : Option ℕ) (c : calls.Call) (r : Refusal) → place_after peer c (Err r) q ≡ q
  refused_place q (calls.enrols p t b role) r = elim (same_peer b peer) as (λ z. cond z q q ≡ q) [ true ↦ refl | false ↦ refl ]
  refused_place q (calls.sends p t want b room) r = refl
  refused_place q (calls.ticks p t room) r = refl
  refused_place q (calls.arrives t b d room) r = refl

  refused_good : (e : End) (q : Option ℕ) (c : calls.Call) (from : ℕ) → Tied peer e q → (r : Refusal) → Good e q c from (refused r e)
  refused_good e q c from T r =
      make_good e q c from (refused r e) q (aside false) (refused_place q c r) (refused_act q c from r) (aside_refused pace depth h s e q) T (omega arith)

  -- an accepted call at a place that holds the same peer before and after
  accepted : (e : End) (q : Option ℕ) → Tied peer e q → (c : calls.Call) (from : ℕ) (x : Step calls.Answer) (p t : ℕ) (a : Act) (b : Bool) → p < 32
      → act_of peer q c from x.answer x.wrote ≡ cond (is_there q p) a (aside b) → place_after peer c x.answer q ≡ q → Turned below e p t x.after
      → x.after.next ≡ bump b e.next → x.after.given ≡ e.given + cond b 1 0 → takes a ≡ b
      → (is_there q p ≡ true → Goes heard_in pace depth h s (view_at e (Some p)) a (view_at x.after (Some p))) → Good e q c from x
  accepted e q T c from x p t a b l act place U n g k G =
      elim (cases_Bool (is_there q p)) [
        | inl z ↦ make_good e q c from x q a place (act ∙ ap (λ u. cond u a (aside b)) z)
            (subst (λ u. Goes heard_in pace depth h s (view_at e u) a (view_at x.after u)) (sym (there_is q p z)) (G z))
            (tied_turned peer e x.after q p t l U T) (g ∙ ap (λ u. e.given + cond u 1 0) (sym k))
        | inr z ↦ make_good e q c from x q (aside b) place (act ∙ ap (λ u. cond u a (aside b)) z)
            (aside_moved pace depth h s e x.after q p t b U.moves z n)
            (tied_turned peer e x.after q p t l U T) g
      ]

  -- 1. enrol
  enrolled_good : (e : End) (q : Option ℕ) → Tied peer e q → (p t : ℕ) (b : Peer) (role : Role) (from : ℕ) → AllYes (enrol_asks e p t b)
      → (z : Bool) → same_peer b peer ≡ z → Good e q (calls.enrols p t b role) from (calls.answering (λ u. calls.enrolled) (enrol_acts e p t b role))
  enrolled_good e q T p t b role from (place, (early, (forth, (vacancy, (free, more))))) true same =
      let l = ltb-true p 32 place in
      let bp = same_peer_lem b peer same in
      let x : Site = held (newcomer b role t) in
      let f : End = (enrol_acts e p t b role).after in
      let none : place_of e peer ≡ None = subst (λ u. place_of e u ≡ None) bp (none_is (place_of e b) free) in
      let qn : q ≡ None = sym T.found ∙ none in
      let z = T.sized in
      let long : p < length e.places = omega arith in
      let at : site_at f p ≡ x = get_or-set_same e.places p x vacant long in
      let M = enrol_moves below e p t b role (place, (early, (forth, (vacancy, (free, more))))) in
      make_good e q (calls.enrols p t b role) from (calls.answering (λ u. calls.enrolled) (enrol_acts e p t b role)) (Some p) (aside false) (rw same refl) refl
      (subst (λ u. Goes heard_in pace depth h s (view_at e u) (aside false) (view_at f (Some p))) (sym qn)
      (goes_aside false refl (ap (λ u. option_map waiting_as (outstanding_at u)) at) (T.bare p (not-true _ vacancy)) refl (leb-true _ _ forth)))
      record {
        found = first_new (holds_peer peer) e.places p 0 x none long same ∙ ap Some (omega arith);
        bare = moved_bare e f p t M (ap is_held at) T.bare;
        sized = moved_sized e f p t M z;
      }
      (omega arith)
  enrolled_good e q T p t b role from (place, (early, (forth, (vacancy, (free, more))))) false same =
      let l = ltb-true p 32 place in
      let x : Site = held (newcomer b role t) in
      let f : End = (enrol_acts e p t b role).after in
      let z = T.sized in
      let long : p < length e.places = omega arith in
      let at : site_at f p ≡ x = get_or-set_same e.places p x vacant long in
      let M = enrol_moves below e p t b role (place, (early, (forth, (vacancy, (free, more))))) in
      let empty = not-true _ vacancy in
      let away : is_there q p ≡ false = elim (cases_Bool (is_there q p)) [
        | inl y ↦ absurd (true≢false (sym (holds_held peer (site_at e p) (found_there peer e q p T.found (there_is q p y)).1) ∙ empty))
        | inr y ↦ y
      ] in
      make_good e q (calls.enrols p t b role) from (calls.answering (λ u. calls.enrolled) (enrol_acts e p t b role)) q (aside false) (rw same refl) refl
      (aside_moved pace depth h s e f q p t false M away refl)
      record {
        found = moved_found peer e f p t long M (ap (holds_peer peer) at ∙ same ∙ sym (vacant_holds peer (site_at e p) empty)) ∙ T.found;
        bare = moved_bare e f p t M (ap is_held at) T.bare;
        sized = moved_sized e f p t M z;
      }
      (omega arith)

  pub enrol_good : (e : End) (q : Option ℕ) → Tied peer e q → (p t : ℕ) (b : Peer) (role : Role) (from : ℕ)
      → Good e q (calls.enrols p t b role) from (calls.called_within below depth e (calls.enrols p t b role))
  unfolding enrol
  enrol_good e q T p t b role from =
      by_questions (enrol_asks e p t b) e (enrol_acts e p t b role) (λ x. Good e q (calls.enrols p t b role) from (calls.answering (λ u. calls.enrolled) x))
      (refused_good e q (calls.enrols p t b role) from T) (λ y. enrolled_good e q T p t b role from y (same_peer b peer) refl)

  -- 2. send
  sent_good : (e : End) (q : Option ℕ) → Tied peer e q → (p t : ℕ) (want : Bool) (b : Octets) (room from : ℕ) → AllYes (send_asks below e p t want b room)
      → Good e q (calls.sends p t want b room) from (calls.answering calls.sent (send_acts e p t want (headed e.next want b)))
  sent_good e q T p t true b room from (place, (early, (forth, (there, (fits, (sized, (readable, (only, (free, (given, more)))))))))) =
      let l = ltb-true p 32 place in
      let z = T.sized in
      let H = held_is (site_at e p) there in
      let d : Octets = headed e.next true b in
      let f : End = (send_acts e p t true d).after in
      let r = was_read (body_payloads b) readable in
      let plain : every (is_plain b) r.0 ≡ true = subst (λ u. only_messages b u ≡ true) r.1 only in
      let at = get_or-set_same e.places p (awaiting e.next t d (site_at e p)) vacant (omega arith) ∙ ap (awaiting e.next t d) H.1 in
      accepted e q T (calls.sends p t true b room) from (calls.answering calls.sent (send_acts e p t true d)) p t (sends true t b d) true l refl refl
      record {
        moves = send_moves below e p t true b room (place, (early, (forth, (there, (fits, (sized, (readable, (only, (free, (given, more))))))))));
        was = H.0;
        held_was = H.1;
        is = with_waiting (Some (sent_once standing_timers e.next t d)) H.0;
        held_is = at;
        same = refl;
      }
      refl refl refl
      (λ y. goes_asking t b d refl (send_heard e.next true b r.0 sized r.1 plain) (ap (option_map waiting_as) (none_is _ free))
      (ap (λ u. option_map waiting_as (outstanding_at u)) at) refl refl (leb-true _ _ forth) refl)
  sent_good e q T p t false b room from (place, (early, (forth, (there, (fits, (sized, (readable, (only, (free, (given, more)))))))))) =
      let l = ltb-true p 32 place in
      let H = held_is (site_at e p) there in
      let d : Octets = headed e.next false b in
      let r = was_read (body_payloads b) readable in
      let plain : every (is_plain b) r.0 ≡ true = subst (λ u. only_messages b u ≡ true) r.1 only in
      accepted e q T (calls.sends p t false b room) from (calls.answering calls.sent (send_acts e p t false d)) p t (sends false t b d) true l refl refl
      record {
        moves = send_moves below e p t false b room (place, (early, (forth, (there, (fits, (sized, (readable, (only, (free, (given, more))))))))));
        was = H.0;
        held_was = H.1;
        is = H.0;
        held_is = H.1;
        same = refl;
      }
      refl refl refl
      (λ y. goes_telling t b d refl (send_heard e.next false b r.0 sized r.1 plain) refl refl refl (leb-true _ _ forth))

  pub send_good : (e : End) (q : Option ℕ) → Tied peer e q → (p t : ℕ) (want : Bool) (b : Octets) (room from : ℕ)
      → Good e q (calls.sends p t want b room) from (calls.called_within below depth e (calls.sends p t want b room))
  unfolding send_within
  send_good e q T p t want b room from =
      by_questions (send_asks below e p t want b room) e (send_acts e p t want (headed e.next want b)) (λ x. Good e q (calls.sends p t want b room) from (calls.answering calls.sent x))
      (refused_good e q (calls.sends p t want b room) from T) (sent_good e q T p t want b room from)

  -- 3. tick
  module _ (e : End) (q : Option ℕ) (T : Tied peer e q) (p t room from : ℕ) (l : p < 32) (forth : e.latest ≤ t) (n : Neighbour) (H : site_at e p ≡ held n) where
    abbrev did : Move → Step calls.Answer
    did mv = calls.answering calls.ticked (tick_acts e p t mv)

    site_set : (x : Site) → get_or (set e.places p x) p vacant ≡ x
    site_set x = let z = T.sized in get_or-set_same e.places p x vacant (omega arith)

    turned_to : (f : End) (m : Neighbour) → Moves below e p t f → site_at f p ≡ held m → m.peer ≡ n.peer → Turned below e p t f
    turned_to f m M at same = record { moves = M; was = n; held_was = H; is = m; held_is = at; same = same }

    not_due : ((m : Message) → outstanding_at (site_at e p) ≡ Some m → t < m.due) → (w : Waiting) → option_map waiting_as (outstanding_at (site_at e p)) ≡ Some w → t < w.due
    not_due f w x = let k = waits_for (outstanding_at (site_at e p)) w x in subst (λ u. t < u.due) k.2 (f k.0 k.1)

    out_same : (x : Site) → outstanding_at x ≡ n.outstanding → (y : Site) → y ≡ x → option_map waiting_as (outstanding_at y) ≡ option_map waiting_as (outstanding_at (site_at e p))
    out_same x o y z = ap (option_map waiting_as) (ap outstanding_at z ∙ o ∙ sym (ap outstanding_at H))

    ticked_good : (mv : Move) → Tells t (outstanding_at (site_at e p)) mv → Moves below e p t (tick_acts e p t mv).after → Good e q (calls.ticks p t room) from (did mv)
    ticked_good (resends m) tells M =
        let at = site_set (resent_at t m (site_at e p)) ∙ ap (resent_at t m) H in
        accepted e q T (calls.ticks p t room) from (did (resends m)) p t (ticks t (sent_again m.octets)) false l refl refl
        (turned_to _ _ M at refl) refl (omega arith) refl
        (λ y. goes_resending t (waiting_as m) refl (ap (option_map waiting_as) tells.0) tells.1 tells.2 (ap (λ u. option_map waiting_as (outstanding_at u)) at) refl refl forth refl)
    ticked_good (gives_up m) tells M =
        let at = site_set (with_outstanding None (site_at e p)) ∙ ap (with_outstanding None) H in
        accepted e q T (calls.ticks p t room) from (did (gives_up m)) p t (ticks t gave_up) false l refl refl
        (turned_to _ _ M at refl) refl (omega arith) refl
        (λ y. goes_giving_up t (waiting_as m) refl (ap (option_map waiting_as) tells) (ap (λ u. option_map waiting_as (outstanding_at u)) at) refl refl forth)
    ticked_good marks_silent tells M =
        let at = site_set (now_silent (site_at e p)) ∙ ap now_silent H in
        accepted e q T (calls.ticks p t room) from (did marks_silent) p t (ticks t let_be) false l refl refl
        (turned_to _ _ M at refl) refl (omega arith) refl
        (λ y. goes_waiting t false let_be refl (inl (refl, refl)) (not_due tells) (out_same _ refl _ at) refl refl forth refl)
    ticked_good keeps_alive tells M =
        let at = site_set (kept_alive_at t (site_at e p)) ∙ ap (kept_alive_at t) H in
        let d : Octets = written (calling e.next) in
        accepted e q T (calls.ticks p t room) from (did keeps_alive) p t (ticks t (kept_alive d)) true l refl refl
        (turned_to _ _ M at refl) refl refl refl
        (λ y. goes_waiting t true (kept_alive d) refl (inr (refl, d, refl, alive_heard e.next)) (not_due tells) (out_same _ refl _ at) refl refl forth refl)
    ticked_good rests tells M =
        accepted e q T (calls.ticks p t room) from (did rests) p t (ticks t let_be) false l refl refl
        (turned_to _ n M H refl) refl (omega arith) refl
        (λ y. goes_waiting t false let_be refl (inl (refl, refl)) (not_due tells) refl refl refl forth refl)

  pub tick_good : (e : End) (q : Option ℕ) → Tied peer e q → (p t room from : ℕ) → Good e q (calls.ticks p t room) from (calls.called_within below depth e (calls.ticks p t room))
  unfolding tick_within
  tick_good e q T p t room from =
      by_questions (tick_asks below e p t room) e (tick_acts e p t (move_at t (site_at e p))) (λ x. Good e q (calls.ticks p t room) from (calls.answering calls.ticked x))
      (refused_good e q (calls.ticks p t room) from T)
      (λ y. let H = held_is (site_at e p) y.1.1.1.0 in
      ticked_good e q T p t room from (ltb-true p 32 y.0) (leb-true _ _ y.1.1.0) H.0 H.1 (move_at t (site_at e p))
      (move_tells t (site_at e p)) (tick_moves below e p t room y))

  -- 4. arrive
  module _ (e : End) (q : Option ℕ) (T : Tied peer e q) (t : ℕ) (sender : Peer) (d : Octets) (room from : ℕ)
      (allowed : same_peer sender peer ≡ true → Wrote h from (other s) d)
      (forth : e.latest ≤ t) (p : ℕ) (at_p : place_of e sender ≡ Some p) (g : Datagram) (reads : read d ≡ Ok g)
      (current : is_current (judged depth e.book p g.number) ≡ true)
      (short : length (reply_octets e.next (reply_to g)) ≤ 1024) where
    abbrev fresh : Bool
    fresh = is_fresh (judged depth e.book p g.number)

    abbrev settling_now : Option Settled
    settling_now = settles fresh (outstanding_at (site_at e p)) g.payloads

    -- with the reply rs
    abbrev came : List Content → Step calls.Answer
    came rs = calls.answering calls.arrived (record {
      answer = Ok (record { fresh = fresh; payloads = cond fresh (handed_out g.payloads) []; settled = settling_now; reply = reply_sent e.next rs });
      after = replying rs (hearing depth e p t g.number settling_now);
      wrote = reply_octets e.next rs;
    })

    there_p : (p < length e.places) × (holds_peer sender (site_at e p) ≡ true)
    there_p = found_there sender e (Some p) p at_p refl

    low : p < 32
    low = let z = T.sized in let k = there_p.0 in omega arith

    -- the sender is the other end exactly if the place is the other end's
    is_there_lem : same_peer sender peer ≡ is_there q p
    is_there_lem =
        elim (cases_Bool (same_peer sender peer)) [
          | inl y ↦ y ∙ sym (ap (λ u. is_there u p) (sym T.found ∙ ap (place_of e) (sym (same_peer_lem sender peer y)) ∙ at_p) ∙ eq-eqb p p refl)
          | inr y ↦ y ∙ sym (elim (cases_Bool (is_there q p)) [
            | inl z ↦ let a = at_held peer (site_at e p) (found_there peer e q p T.found (there_is q p z)).1 in
                let b = at_held sender (site_at e p) there_p.1 in
                let same : a.0 ≡ b.0 = held_same a.0 b.0 (sym a.1 ∙ b.1) in
                let one : sender ≡ peer = sym b.2 ∙ ap (λ u. u.peer) (sym same) ∙ a.2 in
                absurd (true≢false (sym (peer_same peer) ∙ ap (λ u. same_peer u peer) (sym one) ∙ y))
            | inr z ↦ z
          ])
        ]

    abbrev n : Neighbour
    n = (at_held sender (site_at e p) there_p.1).0

    H : site_at e p ≡ held n
    H = (at_held sender (site_at e p) there_p.1).1

    site_after : get_or (set e.places p (heard_at t settling_now (site_at e p))) p vacant ≡ heard_at t settling_now (held n)
    site_after = get_or-set_same e.places p (heard_at t settling_now (site_at e p)) vacant there_p.0 ∙ ap (heard_at t settling_now) H

    out_after : option_map waiting_as (outstanding_at (heard_at t settling_now (held n)))
        ≡ keep_unless (changes.settles fresh (option_map waiting_as (outstanding_at (site_at e p))) (heard_as g)) (option_map waiting_as (outstanding_at (site_at e p)))
    out_after =
        kept_as settling_now n.outstanding
        ∙ ap (λ o. keep_unless o (option_map waiting_as n.outstanding)) (settles_as fresh (outstanding_at (site_at e p)) g)
        ∙ ap (λ o. keep_unless (changes.settles fresh (option_map waiting_as (outstanding_at (site_at e p))) (heard_as g)) (option_map waiting_as o)) (sym (ap outstanding_at H))

    judged_here : judged depth e.book p g.number ≡ judged_at depth (e.book p) g.number
    judged_here = judged_at_lem depth e.book p g.number low

    judged_so : judged_at depth (e.book p) g.number ≡ cond fresh Fresh Again
    judged_so = sym judged_here ∙ current_is (judged depth e.book p g.number) current

    small : g.number < 16777216
    small = current_small depth (e.book p) g.number (ap is_current (sym judged_here) ∙ current)

    hands_as : map said_by (cond fresh (handed_out g.payloads) []) ≡ cond fresh (heard_as g).hands []
    hands_as = elim fresh as (λ b. map said_by (cond b (handed_out g.payloads) []) ≡ cond b (map said_by (handed_out g.payloads)) []) [ true ↦ refl | false ↦ refl ]

    settled_as_lem : option_map settled_as settling_now ≡ changes.settles fresh (option_map waiting_as (outstanding_at (site_at e p))) (heard_as g)
    settled_as_lem = settles_as fresh (outstanding_at (site_at e p)) g

    act_as : (r : Option Octets) → arrives from fresh (map said_by (cond fresh (handed_out g.payloads) [])) (option_map settled_as settling_now) r
        ≡ arrives from fresh (cond fresh (heard_as g).hands []) (changes.settles fresh (option_map waiting_as (outstanding_at (site_at e p))) (heard_as g)) r
    act_as r = ap (λ u. arrives from fresh u (option_map settled_as settling_now) r) hands_as ∙ ap (λ u. arrives from fresh (cond fresh (heard_as g).hands []) u r) settled_as_lem

    turned_by : (f : End) → Moves below e p t f → site_at f p ≡ heard_at t settling_now (held n) → Turned below e p t f
    turned_by f M at = record { moves = M; was = n; held_was = H; is = heard_now settling_now; held_is = at; same = refl }
      where
        heard_now : Option Settled → Neighbour
        heard_now s' = record { peer = n.peer; role = n.role; heard = t; last_kept_alive = n.last_kept_alive; silent = false; outstanding = kept_unless s' n.outstanding }

    came_good : (rs : List Content) → reply_to g ≡ rs → Moves below e p t (came rs).after → Good e q (calls.arrives t sender d room) from (came rs)
    came_good [] rr M =
        accepted e q T (calls.arrives t sender d room) from (came []) p t
        (arrives from fresh (map said_by (cond fresh (handed_out g.payloads) [])) (option_map settled_as settling_now) None) false low
        (ap (λ u. cond u (arrives from fresh (map said_by (cond fresh (handed_out g.payloads) [])) (option_map settled_as settling_now) None) (aside false)) is_there_lem) refl
        (turned_by (came []).after M site_after) refl (omega arith) refl
        (λ y. goes_arriving from d (heard_as g) fresh None false (act_as None) (allowed (is_there_lem ∙ y)) (ap or_nothing reads) judged_so
        (ap (λ u. option_map waiting_as (outstanding_at u)) site_after ∙ out_after) (noted_at_lem depth e.book p g.number low) (inl (refl, refl)) refl forth)
    came_good (c ∷ cs) rr M =
        let d' : Octets = written (reply e.next (c ∷ cs)) in
        let bare : Bare heard_in d' e.next (Itself (heard_as g)) =
        subst (λ u. Bare heard_in (written (reply e.next u)) e.next (Itself (heard_as g))) rr
        (reply_heard e.next d g reads small (subst (λ u. 0 < length u) (sym rr) (omega arith))
        (subst (λ u. length (written (reply e.next u)) ≤ 1024) (sym rr) (subst (λ u. length (reply_octets e.next u) ≤ 1024) rr short))) in
        accepted e q T (calls.arrives t sender d room) from (came (c ∷ cs)) p t
        (arrives from fresh (map said_by (cond fresh (handed_out g.payloads) [])) (option_map settled_as settling_now) (Some d')) true low
        (ap (λ u. cond u (arrives from fresh (map said_by (cond fresh (handed_out g.payloads) [])) (option_map settled_as settling_now) (Some d')) (aside true)) is_there_lem) refl
        (turned_by (came (c ∷ cs)).after M site_after) refl refl refl
        (λ y. goes_arriving from d (heard_as g) fresh (Some d') true (act_as (Some d')) (allowed (is_there_lem ∙ y)) (ap or_nothing reads) judged_so
        (ap (λ u. option_map waiting_as (outstanding_at u)) site_after ∙ out_after) (noted_at_lem depth e.book p g.number low) (inr (refl, d', refl, bare)) refl forth)

  pub arrive_good : (e : End) (q : Option ℕ) → Tied peer e q → (t : ℕ) (sender : Peer) (d : Octets) (room from : ℕ)
      → (same_peer sender peer ≡ true → Wrote h from (other s) d)
      → Good e q (calls.arrives t sender d room) from (calls.called_within below depth e (calls.arrives t sender d room))
  unfolding arrive_within
  arrive_good e q T t sender d room from allowed =
      let fresh : Bool = is_fresh (judged depth e.book (sender_place e sender) (end-said d).number) in
      by_questions (arrive_asks below depth e t sender d room) e (arrive_acts depth e (sender_place e sender) t fresh (end-said d))
      (λ x. Good e q (calls.arrives t sender d room) from (calls.answering calls.arrived x))
      (refused_good e q (calls.arrives t sender d room) from T)
      (λ y. came_good e q T t sender d room from allowed (leb-true _ _ y.1.0) (sender_place e sender) (sender_place_lem (place_of e sender) y.1.1.0) (end-said d)
      (was_said d y.1.1.1.1.0) y.1.1.1.1.1.0 (leb-true _ _ y.1.1.1.1.1.1.0)
      (reply_to (end-said d)) refl (arrive_moves below depth e t sender d room fresh y))
