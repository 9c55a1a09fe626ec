-- Every list of calls on two new ends keeps the law.
use Rattle.std.proofs.Common.{◌≡◌, ℕ, ◌+◌, ◌≤◌, Bool, true, false, cond, ◌&&◌, List, [], ◌∷◌, Ok, Err, Option, Result, sym, refl, ap, ◌∙◌, subst, inl, inr, arith, lit≤}
use Rattle.std.proofs.lemmas.Bool.{cases_Bool, false≢true, ltb-true}
use Rattle.arrivals.specs.Meaning.{new_book, blank}
use Rattle.endpoint.specs.declared.answer.Ticked as ticking
use Rattle.endpoint.specs.declared.answer.Ticked.TheVariants.{Resent, Unanswered, Silent, KeptAlive, Idle}
use Rattle.endpoint.specs.declared.refusal.Refusal.{Refusal}
use Rattle.endpoint.specs.Calls as calls
use Rattle.endpoint.specs.Ends.{End, same_peer}
use Rattle.endpoint.specs.Steps.{Step}
use Rattle.endpoint.specs.Timing.{numbers_left}
use Rattle.endpoint.proofs.EndLaws.{did}
use Rattle.trunk.specs.Acts.{Octets, Said, Outcome, Side, other, same, Act, aside, arrives, History}
use Rattle.trunk.specs.Timely.{takes, given, Timely}
use Rattle.trunk.specs.Changes.{View, Goes, TimelyAct, Reached, begun, went_on}
use Rattle.trunk.specs.Two.{Setting, Turn, as_send, as_ticked, as_tick, as_arrival, gave, act_of, place_after, World, place_for, history, step_of, turned, run, newly, AllowedCall, Proper, InTimeCall, InTime, history_of, TwoEndsInTimeKeepTheLaw, TwoEndsKeepTheLaw, LogTellsTruly}
use Rattle.trunk.proofs.Hearing.{heard_in}
use Rattle.trunk.proofs.Past.{same_refl}
use Rattle.trunk.proofs.Both.{not_same, is_arrival, side_cases}
use Rattle.trunk.proofs.Lawful.{changes_keep_the_law}
use Rattle.trunk.proofs.Sites.{view_at, Tied}
use Rattle.trunk.proofs.Steps.{pace, Good, enrol_good, send_good, tick_good, arrive_good}

abbrev views : (σ : Setting) → World → Side → View
views σ w s = view_at (w.ends s) (place_for σ s w.log)

-- the changes lead to the views of both ends
abbrev LedTo : (σ : Setting) → World → Type 0
LedTo σ w = Reached heard_in pace σ.start σ.depth (history σ w.log) (views σ w)

-- what holds after every call, in time or not
pub record Holds (σ : Setting) (w : World) : Type 0 where
  pub tied : (s : Side) → Tied (σ.peer (other s)) (w.ends s) (place_for σ s w.log)
  pub counted : (s : Side) → (w.ends s).given ≡ given (history σ w.log) s

-- each call is a change
call_good : (σ : Setting) (w : World) (y : Side) (from : ℕ) (c : calls.Call) → Tied (σ.peer (other y)) (w.ends y) (place_for σ y w.log) → AllowedCall σ w y from c
    → Good σ.below (σ.peer (other y)) (σ.depth y) y (history σ w.log) (w.ends y) (place_for σ y w.log) c from (calls.called_within σ.below (σ.depth y) (w.ends y) c)
call_good σ w y from (calls.enrols p t b role) T al = enrol_good σ.below (σ.peer (other y)) (σ.depth y) y (history σ w.log) (w.ends y) (place_for σ y w.log) T p t b role from
call_good σ w y from (calls.sends p t want b room) T al = send_good σ.below (σ.peer (other y)) (σ.depth y) y (history σ w.log) (w.ends y) (place_for σ y w.log) T p t want b room from
call_good σ w y from (calls.ticks p t room) T al = tick_good σ.below (σ.peer (other y)) (σ.depth y) y (history σ w.log) (w.ends y) (place_for σ y w.log) T p t room from
call_good σ w y from (calls.arrives t b d room) T al = arrive_good σ.below (σ.peer (other y)) (σ.depth y) y (history σ w.log) (w.ends y) (place_for σ y w.log) T t b d room from al

-- only an arrival under the other's peer is an arrival between the two
send_not : (z : Bool) (want : Bool) (t : ℕ) (b d : Octets) (x : Result calls.Answer Refusal) → is_arrival (cond z (as_send want t b d x) (aside (gave x))) ≡ false
send_not true want t b d (Ok x) = refl
send_not true want t b d (Err r) = refl
send_not false want t b d x = refl

ticked_not : (t : ℕ) (d : Octets) (x : ticking.Ticked) → is_arrival (as_ticked t d x) ≡ false
ticked_not t d (Resent x) = refl
ticked_not t d (Unanswered n) = refl
ticked_not t d Silent = refl
ticked_not t d (KeptAlive x) = refl
ticked_not t d Idle = refl

tick_not : (z : Bool) (t : ℕ) (d : Octets) (x : Result calls.Answer Refusal) → is_arrival (cond z (as_tick t d x) (aside (gave x))) ≡ false
tick_not true t d (Ok calls.enrolled) = refl
tick_not true t d (Ok (calls.sent x)) = refl
tick_not true t d (Ok (calls.ticked x)) = ticked_not t d x
tick_not true t d (Ok (calls.arrived a)) = refl
tick_not true t d (Err r) = refl
tick_not false t d x = refl

arrival_from : (n : ℕ) (d : Octets) (x : Result calls.Answer Refusal) (k : ℕ) (f : Bool) (ps : List Said) (o : Option Outcome) (r : Option Octets)
    → as_arrival n d x ≡ arrives k f ps o r → n ≡ k
arrival_from n d (Ok calls.enrolled) k f ps o r e = absurd (false≢true (ap is_arrival e))
arrival_from n d (Ok (calls.sent x)) k f ps o r e = absurd (false≢true (ap is_arrival e))
arrival_from n d (Ok (calls.ticked x)) k f ps o r e = absurd (false≢true (ap is_arrival e))
arrival_from n d (Ok (calls.arrived a)) k f ps o r e = cc
arrival_from n d (Err x) k f ps o r e = absurd (false≢true (ap is_arrival e))

timely_call : (σ : Setting) (w : World) (y : Side) (from : ℕ) (c : calls.Call) → InTimeCall σ w y from c → (q : Option ℕ) (x : Result calls.Answer Refusal) (d : Octets)
    → TimelyAct (history σ w.log) y (act_of (σ.peer (other y)) q c from x d)
timely_call σ w y from (calls.enrols p t b role) it q x d k f ps o r e = absurd (false≢true (ap is_arrival e))
timely_call σ w y from (calls.sends p t want b room) it q x d k f ps o r e =
    absurd (false≢true (sym (send_not (Rattle.trunk.specs.Two.is_there q p) want t b d x) ∙ ap is_arrival e))
timely_call σ w y from (calls.ticks p t room) it q x d k f ps o r e =
    absurd (false≢true (sym (tick_not (Rattle.trunk.specs.Two.is_there q p) t d x) ∙ ap is_arrival e))
timely_call σ w y from (calls.arrives t b g room) it q x d k f ps o r e =
    elim (cases_Bool (same_peer b (σ.peer (other y)))) [
      | inl z ↦ let e' : as_arrival from d x ≡ arrives k f ps o r = rw z at e in
          subst (λ n. Timely (history σ w.log) y n) (arrival_from from d x k f ps o r e') (it z)
      | inr z ↦ absurd (false≢true (ap is_arrival (rw z at e)))
    ]

module _ (σ : Setting) (w : World) (c : Turn) (al : AllowedCall σ w c.side c.from c.call) (I : Holds σ w) where
  abbrev y : Side
  y = c.side

  abbrev q : Option ℕ
  q = place_for σ c.side w.log

  abbrev x : Step calls.Answer
  x = step_of σ w c

  abbrev q' : Option ℕ
  q' = place_after (σ.peer (other c.side)) c.call (step_of σ w c).answer (place_for σ c.side w.log)

  abbrev a : Act
  a = act_of (σ.peer (other c.side)) (place_for σ c.side w.log) c.call c.from (step_of σ w c).answer (step_of σ w c).wrote

  abbrev h : History
  h = history σ w.log

  abbrev w' : World
  w' = turned σ w c

  G : Good σ.below (σ.peer (other y)) (σ.depth y) y h (w.ends y) q c.call c.from x
  G = call_good σ w y c.from c.call (I.tied y) al

  end_own : w'.ends y ≡ x.after
  end_own = rw (same_refl y)

  place_own : place_for σ y w'.log ≡ q'
  place_own = rw (same_refl y)

  end_other : w'.ends (other y) ≡ w.ends (other y)
  end_other = rw (not_same y)

  place_other : place_for σ (other y) w'.log ≡ place_for σ (other y) w.log
  place_other = rw (not_same y)

  view_own : views σ w' y ≡ view_at x.after q'
  view_own = ap (λ e. view_at e (place_for σ y w'.log)) end_own ∙ ap (view_at x.after) place_own

  view_other : views σ w' (other y) ≡ views σ w (other y)
  view_other = ap (λ e. view_at e (place_for σ (other y) w'.log)) end_other ∙ ap (view_at (w.ends (other y))) place_other

  pub leads_on : InTimeCall σ w c.side c.from c.call → LedTo σ w → LedTo σ w'
  leads_on it R =
      went_on h (views σ w) y a R refl view_other
      (subst (λ u. Goes heard_in pace (σ.depth y) h y (views σ w y) a u) (sym view_own) G.goes)
      (timely_call σ w y c.from c.call it q x.answer x.wrote)

  pub keeps : Holds σ w'
  keeps =
      record {
        tied = λ s. elim (side_cases s y) [
          | inl e ↦ subst (λ u. Tied (σ.peer (other u)) (w'.ends u) (place_for σ u w'.log)) (sym e)
              (subst (λ u. Tied (σ.peer (other y)) u (place_for σ y w'.log)) (sym end_own)
              (subst (λ u. Tied (σ.peer (other y)) x.after u) (sym place_own) G.tied))
          | inr e ↦ subst (λ u. Tied (σ.peer (other u)) (w'.ends u) (place_for σ u w'.log)) (sym e)
              (subst (λ u. Tied (σ.peer (other (other y))) u (place_for σ (other y) w'.log)) (sym end_other)
              (subst (λ u. Tied (σ.peer (other (other y))) (w.ends (other y)) u) (sym place_other) (I.tied (other y))))
        ];
        counted = λ s. elim (side_cases s y) [
          | inl e ↦ subst (λ u. (w'.ends u).given ≡ given (history σ w'.log) u) (sym e)
              (ap (λ u. u.given) end_own ∙ G.counted ∙ ap (λ n. n + cond (takes a) 1 0) (I.counted y) ∙ ap (λ b. given h y + cond (b && takes a) 1 0) (sym (same_refl y)))
          | inr e ↦ subst (λ u. (w'.ends u).given ≡ given (history σ w'.log) u) (sym e)
              (ap (λ u. u.given) end_other ∙ I.counted (other y) ∙ (let z : given (history σ w'.log) (other y) ≡ given h (other y) + 0 = rw (not_same y) in omega arith))
        ];
      }

keeps_all : (σ : Setting) (cs : List Turn) (w : World) → Holds σ w → Proper σ w cs → Holds σ (run σ w cs)
keeps_all σ [] w I P = I
keeps_all σ (c ∷ cs) w I P = keeps_all σ cs (turned σ w c) (keeps σ w c P.0 I) P.1

leads_all : (σ : Setting) (cs : List Turn) (w : World) → Holds σ w → LedTo σ w → Proper σ w cs → InTime σ w cs → LedTo σ (run σ w cs)
leads_all σ [] w I R P O = R
leads_all σ (c ∷ cs) w I R P O = leads_all σ cs (turned σ w c) (keeps σ w c P.0 I) (leads_on σ w c P.0 I O.0 R) P.1 O.1

nothing_noted : (p : ℕ) → new_book p ≡ blank
unfolding new_book
nothing_noted p = refl

starts_so : (σ : Setting) → Holds σ (newly σ)
starts_so σ =
    record {
      tied = λ s. record { found = refl; bare = λ p n. nothing_noted p; sized = refl };
      counted = λ s. refl;
    }

pub in_time_keep_the_law : TwoEndsInTimeKeepTheLaw 4 3000
in_time_keep_the_law σ S cs P O =
    changes_keep_the_law heard_in pace σ.start σ.depth (lit≤ tt) (lit≤ tt) S.starts S.deep S.shallow (history_of σ cs) (views σ (run σ (newly σ) cs))
    (leads_all σ cs (newly σ) (starts_so σ) (begun refl (λ s. refl) (λ s. refl) (λ s. refl)) P O)

-- under the standing question 12 neither end gives more than half of the numbers, so whatever arrives is in time
abbrev Standing : Setting → Type 0
Standing σ = (n : ℕ) → σ.below n ≡ numbers_left n

abbrev FewGiven : World → Type 0
FewGiven w = (s : Side) → (w.ends s).given ≤ 8388608

few_after : (σ : Setting) → Standing σ → (depth : ℕ) (e : End) (c : calls.Call) → e.given ≤ 8388608 → (calls.called_within σ.below depth e c).after.given ≤ 8388608
few_after σ B depth e c few =
    elim (did σ.below depth e c) [
      | inl r ↦ subst (λ x. x.after.given ≤ 8388608) (sym r.1) few
      | inr m ↦ elim m.2.numbering [ inl k ↦ (let k0 = k.0 in omega arith) | inr k ↦ (let k0 = ltb-true e.given 8388608 (sym (B e.given) ∙ k.0) in let k1 = k.1 in omega arith) ]
    ]

few_turned : (σ : Setting) → Standing σ → (w : World) (c : Turn) → FewGiven w → FewGiven (turned σ w c)
few_turned σ B w c few s =
    elim (same s c.side) as (λ b. (cond b (step_of σ w c).after (w.ends s)).given ≤ 8388608) [
      | true ↦ few_after σ B (σ.depth c.side) (w.ends c.side) c.call (few c.side)
      | false ↦ few s
    ]

in_time : (σ : Setting) (w : World) → Holds σ w → FewGiven w → (y : Side) (from : ℕ) (c : calls.Call) → InTimeCall σ w y from c
in_time σ w I few y from (calls.enrols p t b role) = tt
in_time σ w I few y from (calls.sends p t want b room) = tt
in_time σ w I few y from (calls.ticks p t room) = tt
in_time σ w I few y from (calls.arrives t b d room) =
    let all : (s : Side) → given (history σ w.log) s ≤ 8388608 = λ s. let e = I.counted s in let l = few s in omega arith in
    let g = all y in
    let g' = all (other y) in
    λ e i R. (omega arith, λ H F n. omega arith, omega arith)

all_in_time : (σ : Setting) → Standing σ → (cs : List Turn) (w : World) → Holds σ w → FewGiven w → Proper σ w cs → InTime σ w cs
all_in_time σ B [] w I few P = tt
all_in_time σ B (c ∷ cs) w I few P =
    let it = in_time σ w I few c.side c.from c.call in
    (it, all_in_time σ B cs (turned σ w c) (keeps σ w c P.0 I) (few_turned σ B w c few) P.1)

proper_in_time : (σ : Setting) → Standing σ → (cs : List Turn) → Proper σ (newly σ) cs → InTime σ (newly σ) cs
proper_in_time σ B cs P = all_in_time σ B cs (newly σ) (starts_so σ) (λ s. lit≤ tt) P

pub keep_the_law : TwoEndsKeepTheLaw 4 3000
keep_the_law σ S B cs P = in_time_keep_the_law σ S cs P (proper_in_time σ B cs P)

pub log_tells_truly : LogTellsTruly
log_tells_truly = record {
  place = λ σ cs P s. sym ((keeps_all σ cs (newly σ) (starts_so σ) P).tied s).found;
  numbers = λ σ cs P s. sym ((keeps_all σ cs (newly σ) (starts_so σ) P).counted s);
}
