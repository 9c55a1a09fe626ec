-- The laws of one end.
use Rattle.std.proofs.Common.{◌≡◌, ℕ, zero, suc, ◌+◌, ◌%◌, ◌<◌, ◌≤◌, Bool, true, false, ltb, ◌⊎◌, List, [], ◌∷◌, get_or, replicate, Ok, Err, sym, refl, ap, ◌∙◌, subst, inl, inr, arith}
use Rattle.std.proofs.lemmas.Bool.{true≢false, ltb-true}
use Rattle.arrivals.specs.Meaning.{is_fresh, judged}
use Rattle.writer.specs.Bodies.{headed}
use Rattle.endpoint.specs.declared.refusal.Refusal.{Refusal}
use Rattle.endpoint.specs.Arrives.{arrive_within, arrive_asks, arrive_acts, sender_place, said_by}
use Rattle.endpoint.specs.Calls.{Call, enrols, sends, ticks, arrives, Answer, enrolled, sent, ticked, arrived, answering, called_within, called, after, time_of, own_place}
use Rattle.endpoint.specs.Ends.{vacant, End, new_end, site_at, holds_peer}
use Rattle.endpoint.specs.Enrols.{opened, enrol, enrol_asks, enrol_acts}
use Rattle.endpoint.specs.Laws.{RefusedChangesNothing, OthersStay, ClockRunsOn, NumbersInTurn, OnePlaceEach, Sound, AlwaysSound}
use Rattle.endpoint.specs.Sends.{send_within, send_asks, send_acts}
use Rattle.endpoint.specs.Steps.{Step, refused}
use Rattle.endpoint.specs.Ticks.{Move, resends, gives_up, marks_silent, keeps_alive, rests, tick_within, tick_asks, tick_acts, move_at}
use Rattle.endpoint.specs.Timing.{numbers_left}
use Rattle.endpoint.proofs.Asked.{by_questions}
use Rattle.endpoint.proofs.Doing.{enrol_moves, send_moves, tick_moves, arrive_moves}
use Rattle.endpoint.proofs.Moving.{limits, SoundSite, Moves, other_site, turn_after, moved_sound, Alone, moved_alone}

-- a step is refused and changes nothing, or it is accepted and moves the end
abbrev pub Did : (below : ℕ → Bool) → End → ℕ → ℕ → Step Answer → Type 0
Did below e p t s = ((r : Refusal) × (s ≡ refused r e)) ⊎ ((a : Answer) × (s.answer ≡ Ok a) × Moves below e p t s.after)

tick_did : (below : ℕ → Bool) (e : End) (p t : ℕ) (m : Move) → Moves below e p t (tick_acts e p t m).after → Did below e p t (answering ticked (tick_acts e p t m))
tick_did below e p t (resends m) h = inr (_, refl, h)
tick_did below e p t (gives_up m) h = inr (_, refl, h)
tick_did below e p t marks_silent h = inr (_, refl, h)
tick_did below e p t keeps_alive h = inr (_, refl, h)
tick_did below e p t rests h = inr (_, refl, h)

pub did : (below : ℕ → Bool) (depth : ℕ) (e : End) (c : Call) → Did below e (own_place e c) (time_of c) (called_within below depth e c)
unfolding enrol send_within tick_within arrive_within
did below depth e (enrols p t peer role) =
    by_questions (enrol_asks e p t peer) e (enrol_acts e p t peer role) (λ s. Did below e p t (answering (λ u. enrolled) s))
    (λ r. inl (r, refl))
    (λ a. inr (_, refl, enrol_moves below e p t peer role a))
did below depth e (sends p t want b room) =
    by_questions (send_asks below e p t want b room) e (send_acts e p t want (headed e.next want b)) (λ s. Did below e p t (answering sent s))
    (λ r. inl (r, refl))
    (λ a. inr (_, refl, send_moves below e p t want b room a))
did below depth e (ticks p t room) =
    by_questions (tick_asks below e p t room) e (tick_acts e p t (move_at t (site_at e p))) (λ s. Did below e p t (answering ticked s))
    (λ r. inl (r, refl))
    (λ a. tick_did below e p t (move_at t (site_at e p)) (tick_moves below e p t room a))
did below depth e (arrives t sender d room) =
    let fresh : Bool = is_fresh (judged depth e.book (sender_place e sender) (said_by d).number) in
    by_questions (arrive_asks below depth e t sender d room) e (arrive_acts depth e (sender_place e sender) t fresh (said_by d)) (λ s. Did below e (sender_place e sender) t (answering arrived s))
    (λ r. inl (r, refl))
    (λ a. inr (_, refl, arrive_moves below depth e t sender d room fresh a))

-- what follows for one call
module _ (below : ℕ → Bool) (e : End) (p t : ℕ) (s : Step Answer) where
  stays : (r : Refusal) → Did below e p t s → s.answer ≡ Err r → (s.after ≡ e) × (s.wrote ≡ [])
  stays r (inl (x, q)) h = (ap (λ (z : Step Answer). z.after) q, ap (λ (z : Step Answer). z.wrote) q)
  stays r (inr (a, q, m)) h = let z : ◌≡◌ {A = ℕ} 0 1 = cc in absurd (omega arith)

  others : Did below e p t s → (q : ℕ) → (q ≡ p → ⊥) → site_at s.after q ≡ site_at e q
  others (inl (x, h)) q ne = ap (λ (z : Step Answer). site_at z.after q) h
  others (inr (a, h, m)) q ne = other_site e p t s.after m q ne

  other_books : Did below e p t s → (q : ℕ) → (q ≡ p → ⊥) → s.after.book q ≡ e.book q
  other_books (inl (x, h)) q ne = ap (λ (z : Step Answer). z.after.book q) h
  other_books (inr (a, h, m)) q ne = m.book q ne

  forwards : Did below e p t s → e.latest ≤ s.after.latest
  forwards (inl (x, h)) = let k : s.after.latest ≡ e.latest = ap (λ (z : Step Answer). z.after.latest) h in omega arith
  forwards (inr (a, h, m)) = let k = m.latest in let f = m.forward in omega arith

  on_time : (a : Answer) → Did below e p t s → s.answer ≡ Ok a → s.after.latest ≡ t
  on_time a (inl (x, h)) k = let i : s.answer ≡ Err x = ap (λ (z : Step Answer). z.answer) h in let z : ◌≡◌ {A = ℕ} 0 1 = cc in absurd (omega arith)
  on_time a (inr (b, h, m)) k = m.latest

  keeps_turn : (start : ℕ) → Did below e p t s → e.next ≡ (start + e.given) % 16777216 → s.after.next ≡ (start + s.after.given) % 16777216
  keeps_turn start (inl (x, h)) k = subst (λ (f : End). f.next ≡ (start + f.given) % 16777216) (sym (ap (λ (z : Step Answer). z.after) h)) k
  keeps_turn start (inr (a, h, m)) k = turn_after below start e s.after m.numbering k

  keeps_alone : Did below e p t s → Alone e → Alone s.after
  keeps_alone (inl (x, h)) one = subst Alone (sym (ap (λ (z : Step Answer). z.after) h)) one
  keeps_alone (inr (a, h, m)) one = moved_alone below e p t s.after m one

pub refused_changes_nothing : RefusedChangesNothing
refused_changes_nothing depth e c r h =
    let k = stays numbers_left e (own_place e c) (time_of c) (called depth e c) r (did numbers_left depth e c) h in
    record { end = k.0; buffer = k.1 }

pub others_stay : OthersStay
others_stay = record {
  sites = λ depth e c. others numbers_left e (own_place e c) (time_of c) (called depth e c) (did numbers_left depth e c);
  book = λ depth e c. other_books numbers_left e (own_place e c) (time_of c) (called depth e c) (did numbers_left depth e c);
}

pub clock_runs_on : ClockRunsOn
clock_runs_on = record {
  forward = λ depth e c. forwards numbers_left e (own_place e c) (time_of c) (called depth e c) (did numbers_left depth e c);
  accepted = λ depth e c a. on_time numbers_left e (own_place e c) (time_of c) (called depth e c) a (did numbers_left depth e c);
}

-- and for lists of calls
in_turn : (depth start : ℕ) (cs : List Call) (e : End) → e.next ≡ (start + e.given) % 16777216 → (after depth e cs).next ≡ (start + (after depth e cs).given) % 16777216
in_turn depth start [] e h = h
in_turn depth start (c ∷ cs) e h = in_turn depth start cs (called depth e c).after (keeps_turn numbers_left e (own_place e c) (time_of c) (called depth e c) start (did numbers_left depth e c) h)

pub numbers_in_turn : NumbersInTurn
numbers_in_turn depth start cs small = in_turn depth start cs (new_end start) (omega arith)

-- new ends
vacant_at : (n q : ℕ) → get_or (replicate n vacant) q vacant ≡ vacant
vacant_at zero q = refl
vacant_at (suc n) zero = refl
vacant_at (suc n) (suc q) = vacant_at n q

alone_after : (depth : ℕ) (cs : List Call) (e : End) → Alone e → Alone (after depth e cs)
alone_after depth [] e one = one
alone_after depth (c ∷ cs) e one = alone_after depth cs (called depth e c).after (keeps_alone numbers_left e (own_place e c) (time_of c) (called depth e c) (did numbers_left depth e c) one)

new_alone : (start : ℕ) → Alone (new_end start)
new_alone start x p q h k = absurd (true≢false (sym h ∙ ap (holds_peer x) (vacant_at 32 p)))

pub one_place_each : OnePlaceEach
one_place_each depth start cs = alone_after depth cs (new_end start) (new_alone start)

new_sound : (start : ℕ) → start < 16777216 → Sound limits (new_end start)
new_sound start small = record {
  places = refl;
  next = small;
  given = omega arith;
  latest = omega arith;
  messages = λ q. subst SoundSite (sym (vacant_at 32 q)) tt;
}

opened_sound : (start : ℕ) (e : End) → opened start ≡ Ok e → Sound limits e
opened_sound start e h = go (ltb start 16777216) refl
  where
    go : (b : Bool) → ltb start 16777216 ≡ b → Sound limits e
    go true q = let r : new_end start ≡ e = let k = rw q at h in cc in subst (Sound limits) r (new_sound start (ltb-true start 16777216 q))
    go false q = let k = rw q at h in let z : ◌≡◌ {A = ℕ} 0 1 = cc in absurd (omega arith)

keeps_sound : (e : End) (p t : ℕ) (s : Step Answer) → Did numbers_left e p t s → Sound limits e → Sound limits s.after
keeps_sound e p t s (inl (x, h)) ok = subst (Sound limits) (sym (ap (λ (z : Step Answer). z.after) h)) ok
keeps_sound e p t s (inr (a, h, m)) ok = moved_sound e p t s.after m ok

kept_sound : (depth : ℕ) (e : End) (c : Call) → Sound limits e → Sound limits (called depth e c).after
kept_sound depth e c = keeps_sound e (own_place e c) (time_of c) (called depth e c) (did numbers_left depth e c)

sound_after : (depth : ℕ) (cs : List Call) (e : End) → Sound limits e → Sound limits (after depth e cs)
sound_after depth [] e ok = ok
sound_after depth (c ∷ cs) e ok = sound_after depth cs (called depth e c).after (kept_sound depth e c ok)

pub always_sound : AlwaysSound limits
always_sound = record {
  new = opened_sound;
  kept = kept_sound;
  always = λ depth start cs e h. sound_after depth cs e (opened_sound start e h);
}
