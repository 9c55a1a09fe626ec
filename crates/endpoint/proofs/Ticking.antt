-- A tick of an endpoint, by what its neighbour does.
use Rattle.std.proofs.Common.{◌≡◌, ℕ, Bool, true, false, cond, List, [], ◌∷◌, Some, None, Ok, Err, Option, Result, sym, refl, ap, ◌∙◌, subst, arith}
use Rattle.std.proofs.lemmas.List.{set-get_or}
use Rattle.endpoint.specs.declared.answer.Ticked.{Ticked}
use Rattle.endpoint.specs.declared.refusal.Refusal.{Refusal}
use Rattle.endpoint.specs.declared.refusal.Refusal.TheVariants.{NumbersSpent}
use Rattle.endpoint.specs.Asking.{writing_asks}
use Rattle.endpoint.specs.Ends.{Neighbour, Site, vacant, held, End, site_at, changed}
use Rattle.endpoint.specs.PlaceTicks.{site_after, answer_to, octets_of, may_move, given_after, next_after, Makes}
use Rattle.endpoint.specs.Steps.{Step, Does, ask, first_no, unless, refused}
use Rattle.endpoint.specs.Ticks.{Move, resends, gives_up, marks_silent, keeps_alive, rests, move_at, move_with, tick_acts, tick_within, tick}
use Rattle.endpoint.specs.Timing.{standing_timers}
use Rattle.endpoint.proofs.Passing.{Asked, says_no, says_yes, still_no, asked_on}

-- what a tick does, said for every move alike
abbrev acts : End → (place time : ℕ) → Move → Step Ticked
acts e place time m = record {
  answer = Ok (answer_to e.next m);
  after = record { book = e.book; latest = time; given = given_after m e.given; next = next_after m e.next; places = changed e place (site_after time m (site_at e place)) };
  wrote = octets_of e.next m;
}

same_acts : (e : End) (place time : ℕ) (m : Move) → tick_acts e place time m ≡ acts e place time m
same_acts e place time (resends m) = refl
same_acts e place time (gives_up m) = refl
same_acts e place time marks_silent = refl
same_acts e place time keeps_alive = refl
same_acts e place time rests = rw (set-get_or e.places place vacant) refl

module _ (e : End) (place time room : ℕ) where
  abbrev asks : Option Refusal
  asks = first_no (writing_asks e place time room)

  abbrev move : Move
  move = move_at time (site_at e place)

  -- a no before question 12
  pub refused_early : (r : Refusal) → Asked asks (Err r) → tick e place time room ≡ refused r e
  unfolding tick_within
  refused_early r h = rw (still_no (writing_asks e place time room) (ask NumbersSpent (may_move e.given move) ∷ []) r (says_no asks tt r h)) refl

  late : Asked asks (Ok tt) → (b : Bool) → may_move e.given move ≡ b → tick e place time room ≡ unless (cond b None (Some NumbersSpent)) e (acts e place time move)
  unfolding tick_within
  late h b is =
      rw (asked_on (writing_asks e place time room) (ask NumbersSpent (may_move e.given move) ∷ []) (says_yes asks tt tt h), is, same_acts e place time move) refl

  same_end : (latest latest' given given' next next' : ℕ) (places places' : List Site) → latest ≡ latest' → given ≡ given' → next ≡ next' → places ≡ places'
      → ◌≡◌ {A = End} (record { book = e.book; latest = latest; given = given; next = next; places = places })
      (record { book = e.book; latest = latest'; given = given'; next = next'; places = places' })
  same_end latest latest' given given' next next' places places' l g n p = cc

  module _ (n n' : Neighbour) (given next : ℕ) (b b' : List ℕ) (passed : Asked asks (Ok tt)) (there : site_at e place ≡ held n) where
    abbrev Made : Result Ticked Refusal → Type 0
    Made r = Makes time (move_with standing_timers time n.outstanding n) n e.given e.next b r n' given next b'

    abbrev left : ℕ → End
    left latest = record { book = e.book; latest = latest; given = given; next = next; places = changed e place (held n') }

    is_move : move_with standing_timers time n.outstanding n ≡ move
    is_move = sym (ap (move_at time) there)

    does : (r : Result Ticked Refusal) (latest : ℕ) → Makes time move n e.given e.next b r n' given next b' → (may : Bool) → may_move e.given move ≡ may → latest ≡ cond may time e.latest → Does (tick e place time room) r (left latest) b b'
    does r latest m true is l =
        let answers = rw is at m.answers in
        let leaves = rw is at m.leaves in
        let gives = rw is at m.gives in
        let turns = rw is at m.turns in
        let writes = rw is at m.writes in
        rw (late passed true is) (record { answers = answers; leaves = same_end latest time _ _ _ _ _ _ l gives turns (ap (changed e place) (leaves ∙ ap (site_after time move) (sym there))); writes = writes })
    does r latest m false is l =
        let answers = rw is at m.answers in
        let leaves = rw is at m.leaves in
        let gives = rw is at m.gives in
        let turns = rw is at m.turns in
        let writes = rw is at m.writes in
        let same : changed e place (held n) ≡ e.places = rw (sym there) (set-get_or e.places place vacant) in
        rw (late passed false is) (record { answers = answers; leaves = same_end latest e.latest _ _ _ _ _ _ l gives turns (ap (changed e place) leaves ∙ same); writes = writes })

    may_be : (r : Result Ticked Refusal) → Made r → Makes time move n e.given e.next b r n' given next b'
    may_be r m = subst (λ (x : Move). Makes time x n e.given e.next b r n' given next b') is_move m

    -- the neighbour moved
    pub moved : (t : Ticked) → Made (Ok t) → Does (tick e place time room) (Ok t) (left time) b b'
    moved t m = does (Ok t) time (may_be (Ok t) m) (may_move e.given move) refl (yes (may_move e.given move) (may_be (Ok t) m).answers)
      where
        yes : (may : Bool) → Ok t ≡ cond may (Ok (answer_to e.next move)) (Err NumbersSpent) → time ≡ cond may time e.latest
        yes true h = refl
        yes false h = let z : ◌≡◌ {A = ℕ} 0 1 = cc in absurd (omega arith)

    -- or needed a number, and none was left
    pub spent : (r : Refusal) → Made (Err r) → Does (tick e place time room) (Err r) (left e.latest) b b'
    spent r m = does (Err r) e.latest (may_be (Err r) m) (may_move e.given move) refl (no (may_move e.given move) (may_be (Err r) m).answers)
      where
        no : (may : Bool) → Err r ≡ cond may (Ok (answer_to e.next move)) (Err NumbersSpent) → e.latest ≡ cond may time e.latest
        no true h = let z : ◌≡◌ {A = ℕ} 0 1 = cc in absurd (omega arith)
        no false h = refl
