-- What an accepted call makes of an end, and what follows from that.
use Rattle.std.proofs.Common.{◌≡◌, ℕ, zero, suc, ◌+◌, ◌%◌, ◌<◌, ◌≤◌, Bool, true, ◌⊎◌, List, [], ◌∷◌, length, get_or, set, None, sym, ap, ◌∙◌, subst, inl, inr, ⊎_elim, arith}
use Rattle.std.proofs.lemmas.List.{length-set, get_or-set_other}
use Rattle.std.proofs.lemmas.Bool.{true≢false, ltb-true, cases_eq}
use Rattle.endpoint.specs.declared.laws.Limits.{Limits}
use Rattle.endpoint.specs.declared.peer.Peer.{Peer}
use Rattle.endpoint.specs.Ends.{Site, vacant, End, site_at, outstanding_at, holds_peer, place_of}
use Rattle.endpoint.specs.Laws.{SoundOutstanding, Sound}
use Rattle.endpoint.specs.Timing.{standing_timers, numbers_left}
use Rattle.endpoint.proofs.Peers.{nowhere}

abbrev pub limits : Limits
limits = record {
  places = 32;
  numbers = 16777216;
  given = 8388608;
  last_time = 281474976710655;
  smallest = 10;
  largest = 512;
  timers = standing_timers;
}

abbrev pub SoundSite : Site → Type 0
SoundSite s = SoundOutstanding limits (outstanding_at s)

-- no number was given, or one that might be
abbrev pub Numbering : (below : ℕ → Bool) → End → End → Type 0
Numbering below e f = ((f.given ≡ e.given) × (f.next ≡ e.next)) ⊎ ((below e.given ≡ true) × (f.given ≡ e.given + 1) × (f.next ≡ (e.next + 1) % 16777216))

-- an end f after an accepted call at a place and a time: one site changed, and stays sound
pub record Moves (below : ℕ → Bool) (e : End) (place time : ℕ) (f : End) : Type 0 where
  pub site : Site
  pub places : f.places ≡ set e.places place site
  pub sound : SoundSite (site_at e place) → SoundSite site
  pub peer : (x : Peer) → holds_peer x site ≡ true → (holds_peer x (site_at e place) ≡ true) ⊎ (place_of e x ≡ None)
  pub book : (q : ℕ) → (q ≡ place → ⊥) → f.book q ≡ e.book q
  pub latest : f.latest ≡ time
  pub forward : e.latest ≤ time
  pub in_time : time ≤ limits.last_time
  pub numbering : Numbering below e f

-- a site that was set, or is not there
set_site : (ss : List Site) (p : ℕ) (s : Site) → SoundSite (get_or ss p vacant) → SoundSite s → SoundSite (get_or (set ss p s) p vacant)
set_site [] p s old new = old
set_site (x ∷ ss) zero s old new = new
set_site (x ∷ ss) (suc p) s old new = set_site ss p s old new

moved_site : {below : ℕ → Bool} (e : End) (p t : ℕ) (f : End) → Moves below e p t f → ((q : ℕ) → SoundSite (site_at e q)) → (q : ℕ) → SoundSite (site_at f q)
moved_site e p t f m ok q =
    subst (λ ss. SoundSite (get_or ss q vacant)) (sym m.places) (
    ⊎_elim
    (λ (same : q ≡ p). subst (λ i. SoundSite (get_or (set e.places p m.site) i vacant)) (sym same) (set_site e.places p m.site (ok p) (m.sound (ok p))))
    (λ (other : q ≡ p → ⊥). subst SoundSite (sym (get_or-set_other e.places p q m.site vacant other)) (ok q))
    (cases_eq q p)
    )

pub other_site : {below : ℕ → Bool} (e : End) (p t : ℕ) (f : End) → Moves below e p t f → (q : ℕ) → (q ≡ p → ⊥) → site_at f q ≡ site_at e q
other_site e p t f m q other = ap (λ ss. get_or ss q vacant) m.places ∙ get_or-set_other e.places p q m.site vacant other

given_after : (e f : End) → Numbering numbers_left e f → e.given ≤ limits.given → f.given ≤ limits.given
given_after e f (inl s) h = let s0 = s.0 in omega arith
given_after e f (inr s) h = let s0 = ltb-true e.given limits.given s.0 in let s1 = s.1 in omega arith

next_after : (below : ℕ → Bool) (e f : End) → Numbering below e f → e.next < 16777216 → f.next < 16777216
next_after below e f (inl s) h = let s1 = s.1 in omega arith
next_after below e f (inr s) h = let s2 = s.2 in omega arith

pub turn_after : (below : ℕ → Bool) (start : ℕ) (e f : End) → Numbering below e f → e.next ≡ (start + e.given) % 16777216 → f.next ≡ (start + f.given) % 16777216
turn_after below start e f (inl s) h = s.1 ∙ h ∙ ap (λ n. (start + n) % 16777216) (sym s.0)
turn_after below start e f (inr s) h = let s1 = s.1 in let s2 = s.2 in omega arith

pub moved_sound : (e : End) (p t : ℕ) (f : End) → Moves numbers_left e p t f → Sound limits e → Sound limits f
moved_sound e p t f m ok = record {
  places = ap length m.places ∙ length-set e.places p m.site ∙ ok.places;
  next = next_after numbers_left e f m.numbering ok.next;
  given = given_after e f m.numbering ok.given;
  latest = let l = m.latest in let i = m.in_time in omega arith;
  messages = moved_site e p t f m ok.messages;
}

-- who is where: a peer at no place holds at most the site that was changed
abbrev pub Alone : End → Type 0
Alone e = (x : Peer) (p q : ℕ) → holds_peer x (site_at e p) ≡ true → holds_peer x (site_at e q) ≡ true → p ≡ q

set_peer : (ss : List Site) (p : ℕ) (s : Site) (x : Peer) → holds_peer x (get_or (set ss p s) p vacant) ≡ true → (holds_peer x s ≡ true) ⊎ (holds_peer x (get_or ss p vacant) ≡ true)
set_peer [] p s x h = inr h
set_peer (y ∷ ss) zero s x h = inl h
set_peer (y ∷ ss) (suc p) s x h = set_peer ss p s x h

module _ (below : ℕ → Bool) (e : End) (p t : ℕ) (f : End) (m : Moves below e p t f) (x : Peer) where
  here : holds_peer x (site_at f p) ≡ true → (holds_peer x (site_at e p) ≡ true) ⊎ (place_of e x ≡ None)
  here h =
      ⊎_elim
      (λ (new : holds_peer x m.site ≡ true). m.peer x new)
      (λ (old : holds_peer x (site_at e p) ≡ true). inl old)
      (set_peer e.places p m.site x (subst (λ ss. holds_peer x (get_or ss p vacant) ≡ true) m.places h))

  there : (q : ℕ) → (q ≡ p → ⊥) → holds_peer x (site_at f q) ≡ true → holds_peer x (site_at e q) ≡ true
  there q other h = subst (λ s. holds_peer x s ≡ true) (other_site e p t f m q other) h

  -- one at the place that was changed, and one elsewhere
  meet : Alone e → (q : ℕ) → holds_peer x (site_at f p) ≡ true → holds_peer x (site_at f q) ≡ true → p ≡ q
  meet one q h k =
      ⊎_elim
      (λ (same : q ≡ p). sym same)
      (λ (other : q ≡ p → ⊥). ⊎_elim
      (λ (old : holds_peer x (site_at e p) ≡ true). one x p q old (there q other k))
      (λ (none : place_of e x ≡ None). absurd (true≢false (sym (there q other k) ∙ nowhere e x none q)))
      (here h))
      (cases_eq q p)

pub moved_alone : (below : ℕ → Bool) (e : End) (p t : ℕ) (f : End) → Moves below e p t f → Alone e → Alone f
moved_alone below e p t f m one x q r h k =
    ⊎_elim
    (λ (same : q ≡ p). same ∙ meet below e p t f m x one r (subst (λ i. holds_peer x (site_at f i) ≡ true) same h) k)
    (λ (other : q ≡ p → ⊥). ⊎_elim
    (λ (same : r ≡ p). sym (same ∙ meet below e p t f m x one q (subst (λ i. holds_peer x (site_at f i) ≡ true) same k) h))
    (λ (apart : r ≡ p → ⊥). one x q r (there below e p t f m x q other h) (there below e p t f m x r apart k))
    (cases_eq r p))
    (cases_eq q p)
