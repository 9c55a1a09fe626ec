-- What each call does once its questions are answered with yes.
use Rattle.std.proofs.Common.{◌≡◌, ℕ, ◌<◌, ◌≤◌, Bool, true, false, cond, not, ◌||◌, ltb, leb, List, [], ◌∷◌, length, Some, None, Ok, Option, sym, refl, subst, inl, inr, ⊎_elim, arith}
use Rattle.std.proofs.lemmas.List.{set-get_or}
use Rattle.std.proofs.lemmas.Bool.{true≢false, false≢true, ltb-true, leb-true, cases_Bool, and_parts}
use Rattle.arrivals.proofs.PlaceLaws.{noted_elsewhere}
use Rattle.datagram.specs.Payloads.{Payload}
use Rattle.datagram.specs.Structures.{Content}
use Rattle.datagram.specs.Bodies.{body_payloads}
use Rattle.writer.specs.Bodies.{headed}
use Rattle.endpoint.specs.declared.answer.Settled.{Settled}
use Rattle.endpoint.specs.declared.peer.Peer.{Peer}
use Rattle.endpoint.specs.declared.peer.Role.{Role}
use Rattle.endpoint.specs.Arrives.{arrive_asks, arrive_acts, sender_place, said_by, hearing, settles, kept_unless, heard_at}
use Rattle.endpoint.specs.Ends.{Message, Neighbour, Site, vacant, held, End, site_at, outstanding_at, with_outstanding, same_peer, holds_peer, place_of, is_none}
use Rattle.endpoint.specs.Enrols.{newcomer, enrol_asks, enrol_acts}
use Rattle.endpoint.specs.Laws.{SoundMessage, SoundOutstanding}
use Rattle.endpoint.specs.Replies.{is_empty, replying, reply_to}
use Rattle.endpoint.specs.Sends.{send_asks, send_acts, awaiting}
use Rattle.endpoint.specs.Ticks.{Move, resends, gives_up, marks_silent, keeps_alive, rests, move_at, move_with, watches, retries, falls_silent, long_at_rest, takes_number, tick_asks, tick_acts, resent_at, now_silent, kept_alive_at}
use Rattle.endpoint.specs.Timing.{standing_timers}
use Rattle.endpoint.proofs.Asked.{AllYes, was_read}
use Rattle.endpoint.proofs.Peers.{same_peer_lem}
use Rattle.endpoint.proofs.Moving.{limits, SoundSite, Moves}

-- enrol
none_is : {X : Type 0} (o : Option X) → is_none o ≡ true → o ≡ None
none_is None h = refl
none_is (Some x) h = absurd (false≢true h)

new_peer : (e : End) (peer x : Peer) → is_none (place_of e peer) ≡ true → same_peer peer x ≡ true → place_of e x ≡ None
new_peer e peer x free h = subst (λ y. place_of e y ≡ None) (same_peer_lem peer x h) (none_is (place_of e peer) free)

pub enrol_moves : (below : ℕ → Bool) (e : End) (p t : ℕ) (peer : Peer) (role : Role) → AllYes (enrol_asks e p t peer) → Moves below e p t (enrol_acts e p t peer role).after
enrol_moves below e p t peer role (place, (early, (forth, (empty, (free, more))))) = record {
  site = held (newcomer peer role t);
  places = refl;
  sound = λ _. tt;
  peer = λ x h. inr (new_peer e peer x free h);
  book = λ q _. refl;
  latest = refl;
  forward = leb-true e.latest t forth;
  in_time = leb-true t limits.last_time early;
  numbering = inl (refl, refl);
}

-- a body that can be read has a payload's header at least
short_body : (b : List ℕ) (ps : List Payload) → 1 ≤ length b → body_payloads b ≡ Ok ps → 5 ≤ length b
short_body [] ps h e = absurd (omega arith)
short_body (x ∷ b) ps h e = ⊎_elim (λ (y : leb 5 (length (x ∷ b)) ≡ true). leb-true 5 (length (x ∷ b)) y) (λ (n : leb 5 (length (x ∷ b)) ≡ false). let f = rw n at e in let z : ◌≡◌ {A = ℕ} 0 1 = cc in absurd (omega arith)) (cases_Bool (leb 5 (length (x ∷ b))))

-- send
awaits : (n t : ℕ) (d : List ℕ) (s : Site) → 10 ≤ length d → length d ≤ 512 → SoundSite (awaiting n t d s)
awaits n t d vacant low high = tt
awaits n t d (held m) low high = record { sent = omega arith; tries = omega arith; smallest = low; largest = high }

awaits_peer : (n t : ℕ) (d : List ℕ) (s : Site) (x : Peer) → holds_peer x (awaiting n t d s) ≡ true → holds_peer x s ≡ true
awaits_peer n t d vacant x h = h
awaits_peer n t d (held m) x h = h

sent_moves : (below : ℕ → Bool) (e : End) (p t : ℕ) (want : Bool) (d : List ℕ) → e.latest ≤ t → t ≤ limits.last_time → below e.given ≡ true → 10 ≤ length d → length d ≤ 512 → Moves below e p t (send_acts e p t want d).after
sent_moves below e p t true d f i g low high = record {
  site = awaiting e.next t d (site_at e p);
  places = refl;
  sound = λ _. awaits e.next t d (site_at e p) low high;
  peer = λ x h. inl (awaits_peer e.next t d (site_at e p) x h);
  book = λ q _. refl;
  latest = refl;
  forward = f;
  in_time = i;
  numbering = inr (g, refl, refl);
}
sent_moves below e p t false d f i g low high = record {
  site = site_at e p;
  places = sym (set-get_or e.places p vacant);
  sound = λ s. s;
  peer = λ x h. inl h;
  book = λ q _. refl;
  latest = refl;
  forward = f;
  in_time = i;
  numbering = inr (g, refl, refl);
}

pub send_moves : (below : ℕ → Bool) (e : End) (p t : ℕ) (want : Bool) (b : List ℕ) (room : ℕ) → AllYes (send_asks below e p t want b room) → Moves below e p t (send_acts e p t want (headed e.next want b)).after
send_moves below e p t want b room (place, (early, (forth, (there, (fits, (sized, (readable, (plain, (free, (left, more)))))))))) =
    let size = and_parts (leb 1 (length b)) (leb (length b) 507) sized in
    let one : 1 ≤ length b = leb-true 1 (length b) size.0 in
    let most : length b ≤ 507 = leb-true (length b) 507 size.1 in
    let r = was_read (body_payloads b) readable in
    let low : 5 ≤ length b = short_body b r.0 one r.1 in
    sent_moves below e p t want (headed e.next want b) (leb-true e.latest t forth) (leb-true t limits.last_time early) left (omega arith) (omega arith)

-- tick
again_sound : (t : ℕ) (m : Message) (s : Site) → SoundMessage limits m → m.transmissions < limits.timers.tries → SoundSite (resent_at t m s)
again_sound t m vacant ok few = tt
again_sound t m (held n) ok few = record { sent = omega arith; tries = omega arith; smallest = ok.smallest; largest = ok.largest }

stopped_sound : (s : Site) → SoundSite (with_outstanding None s)
stopped_sound vacant = tt
stopped_sound (held n) = tt

silent_sound : (s : Site) → SoundSite s → SoundSite (now_silent s)
silent_sound vacant ok = tt
silent_sound (held n) ok = ok

kept_sound : (t : ℕ) (s : Site) → SoundSite s → SoundSite (kept_alive_at t s)
kept_sound t vacant ok = tt
kept_sound t (held n) ok = ok

again_peer : (t : ℕ) (m : Message) (s : Site) (x : Peer) → holds_peer x (resent_at t m s) ≡ true → holds_peer x s ≡ true
again_peer t m vacant x h = h
again_peer t m (held n) x h = h

stopped_peer : (s : Site) (x : Peer) → holds_peer x (with_outstanding None s) ≡ true → holds_peer x s ≡ true
stopped_peer vacant x h = h
stopped_peer (held n) x h = h

silent_peer : (s : Site) (x : Peer) → holds_peer x (now_silent s) ≡ true → holds_peer x s ≡ true
silent_peer vacant x h = h
silent_peer (held n) x h = h

kept_peer : (t : ℕ) (s : Site) (x : Peer) → holds_peer x (kept_alive_at t s) ≡ true → holds_peer x s ≡ true
kept_peer t vacant x h = h
kept_peer t (held n) x h = h

-- a message is sent again only where it is outstanding, and has tries left
abbrev Sendable : Site → Move → Type 0
Sendable s (resends m) = (outstanding_at s ≡ Some m) × (m.transmissions < limits.timers.tries)
Sendable s (gives_up m) = Unit {0}
Sendable s marks_silent = Unit {0}
Sendable s keeps_alive = Unit {0}
Sendable s rests = Unit {0}

watch_sendable : (t : ℕ) (s : Site) (n : Neighbour) → Sendable s (watches standing_timers t n)
watch_sendable t s n = go (falls_silent standing_timers t n) (long_at_rest standing_timers t n)
  where
    go : (a b : Bool) → Sendable s (cond a marks_silent (cond b keeps_alive rests))
    go true b = tt
    go false true = tt
    go false false = tt

retry_sendable : (s : Site) (m : Message) → outstanding_at s ≡ Some m → Sendable s (retries standing_timers m)
retry_sendable s m e = go (ltb m.transmissions limits.timers.tries) refl
  where
    go : (b : Bool) → ltb m.transmissions limits.timers.tries ≡ b → Sendable s (cond b (resends m) (gives_up m))
    go true q = (e, ltb-true m.transmissions limits.timers.tries q)
    go false q = tt

move_sendable : (t : ℕ) (s : Site) → Sendable s (move_at t s)
move_sendable t vacant = tt
move_sendable t (held n) = go n.outstanding refl
  where
    due : (m : Message) → n.outstanding ≡ Some m → (b : Bool) → Sendable (held n) (cond b (retries standing_timers m) (watches standing_timers t n))
    due m e true = retry_sendable (held n) m e
    due m e false = watch_sendable t (held n) n

    go : (o : Option Message) → n.outstanding ≡ o → Sendable (held n) (move_with standing_timers t o n)
    go None e = watch_sendable t (held n) n
    go (Some m) e = due m e (leb m.due t)

module _ (below : ℕ → Bool) (e : End) (p t : ℕ) (forth : e.latest ≤ t) (early : t ≤ limits.last_time) where
  ticked_moves : (m : Move) → Sendable (site_at e p) m → (takes_number m ≡ true → below e.given ≡ true) → Moves below e p t (tick_acts e p t m).after
  ticked_moves (resends m) can left = record {
    site = resent_at t m (site_at e p);
    places = refl;
    sound = λ ok. again_sound t m (site_at e p) (subst (SoundOutstanding limits) can.0 ok) can.1;
    peer = λ x h. inl (again_peer t m (site_at e p) x h);
    book = λ q _. refl;
    latest = refl;
    forward = forth;
    in_time = early;
    numbering = inl (refl, refl);
  }
  ticked_moves (gives_up m) can left = record {
    site = with_outstanding None (site_at e p);
    places = refl;
    sound = λ _. stopped_sound (site_at e p);
    peer = λ x h. inl (stopped_peer (site_at e p) x h);
    book = λ q _. refl;
    latest = refl;
    forward = forth;
    in_time = early;
    numbering = inl (refl, refl);
  }
  ticked_moves marks_silent can left = record {
    site = now_silent (site_at e p);
    places = refl;
    sound = silent_sound (site_at e p);
    peer = λ x h. inl (silent_peer (site_at e p) x h);
    book = λ q _. refl;
    latest = refl;
    forward = forth;
    in_time = early;
    numbering = inl (refl, refl);
  }
  ticked_moves keeps_alive can left = record {
    site = kept_alive_at t (site_at e p);
    places = refl;
    sound = kept_sound t (site_at e p);
    peer = λ x h. inl (kept_peer t (site_at e p) x h);
    book = λ q _. refl;
    latest = refl;
    forward = forth;
    in_time = early;
    numbering = inr (left refl, refl, refl);
  }
  ticked_moves rests can left = record {
    site = site_at e p;
    places = sym (set-get_or e.places p vacant);
    sound = λ ok. ok;
    peer = λ x h. inl h;
    book = λ q _. refl;
    latest = refl;
    forward = forth;
    in_time = early;
    numbering = inl (refl, refl);
  }

-- a number is left where one is taken
left_if : (a b : Bool) → (not a || b) ≡ true → a ≡ true → b ≡ true
left_if true b h q = h
left_if false b h q = absurd (false≢true q)

pub tick_moves : (below : ℕ → Bool) (e : End) (p t room : ℕ) → AllYes (tick_asks below e p t room) → Moves below e p t (tick_acts e p t (move_at t (site_at e p))).after
tick_moves below e p t room (place, (early, (forth, (there, (fits, (left, more)))))) =
    ticked_moves below e p t (leb-true e.latest t forth) (leb-true t limits.last_time early) (move_at t (site_at e p)) (move_sendable t (site_at e p))
    (left_if (takes_number (move_at t (site_at e p))) (below e.given) left)

-- arrive
kept_unless_lem : (s : Option Settled) (m : Option Message) → SoundOutstanding limits m → SoundOutstanding limits (kept_unless s m)
kept_unless_lem None m ok = ok
kept_unless_lem (Some s) m ok = tt

heard_sound : (t : ℕ) (o : Option Settled) (s : Site) → SoundSite s → SoundSite (heard_at t o s)
heard_sound t o vacant ok = tt
heard_sound t o (held n) ok = kept_unless_lem o n.outstanding ok

heard_peer : (t : ℕ) (o : Option Settled) (s : Site) (x : Peer) → holds_peer x (heard_at t o s) ≡ true → holds_peer x s ≡ true
heard_peer t o vacant x h = h
heard_peer t o (held n) x h = h

module _ (below : ℕ → Bool) (depth : ℕ) (e : End) (p t : ℕ) (n : ℕ) (s : Option Settled) (forth : e.latest ≤ t) (early : t ≤ limits.last_time) where
  replied_moves : (cs : List Content) → (is_empty cs ≡ false → below e.given ≡ true) → Moves below e p t (replying cs (hearing depth e p t n s))
  replied_moves [] left = record {
    site = heard_at t s (site_at e p);
    places = refl;
    sound = heard_sound t s (site_at e p);
    peer = λ x h. inl (heard_peer t s (site_at e p) x h);
    book = λ q other. noted_elsewhere depth e.book p n q other;
    latest = refl;
    forward = forth;
    in_time = early;
    numbering = inl (refl, refl);
  }
  replied_moves (c ∷ cs) left = record {
    site = heard_at t s (site_at e p);
    places = refl;
    sound = heard_sound t s (site_at e p);
    peer = λ x h. inl (heard_peer t s (site_at e p) x h);
    book = λ q other. noted_elsewhere depth e.book p n q other;
    latest = refl;
    forward = forth;
    in_time = early;
    numbering = inr (left refl, refl, refl);
  }

left_unless : (a b : Bool) → (a || b) ≡ true → a ≡ false → b ≡ true
left_unless true b h q = absurd (true≢false q)
left_unless false b h q = h

pub arrive_moves : (below : ℕ → Bool) (depth : ℕ) (e : End) (t : ℕ) (sender : Peer) (d : List ℕ) (room : ℕ) (fresh : Bool) → AllYes (arrive_asks below depth e t sender d room) → Moves below e (sender_place e sender) t (arrive_acts depth e (sender_place e sender) t fresh (said_by d)).after
arrive_moves below depth e t sender d room fresh (early, (forth, (known, (fits, (readable, (current, (short, (left, more)))))))) =
    replied_moves below depth e (sender_place e sender) t (said_by d).number (settles fresh (outstanding_at (site_at e (sender_place e sender))) (said_by d).payloads)
    (leb-true e.latest t forth) (leb-true t limits.last_time early) (reply_to (said_by d))
    (left_unless (is_empty (reply_to (said_by d))) (below e.given) left)
