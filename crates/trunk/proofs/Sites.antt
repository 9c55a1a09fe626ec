-- One site of an end changed: where a peer is found, and what the end has of it.
use Rattle.std.proofs.Common.{◌≡◌, ℕ, zero, suc, ◌+◌, ◌<◌, Bool, true, false, cond, List, [], ◌∷◌, length, get_or, set, Some, None, Option, sym, refl, ap, ◌∙◌, inl, inr, arith}
use Rattle.std.specs.Option.{option_map}
use Rattle.std.proofs.lemmas.List.{length-set, get_or-set_same}
use Rattle.std.proofs.lemmas.Bool.{cases_eq, true≢false, false≢true, eqb-true, eq-eqb}
use Rattle.arrivals.specs.Meaning.{blank}
use Rattle.search.specs.First.{first_from}
use Rattle.search.proofs.FirstLaws.{first_means}
use Rattle.endpoint.specs.declared.peer.Peer.{Peer}
use Rattle.endpoint.specs.Ends.{Neighbour, Site, vacant, held, End, site_at, is_held, outstanding_at, same_peer, holds_peer, place_of}
use Rattle.endpoint.proofs.Moving.{Moves, other_site}
use Rattle.endpoint.proofs.Peers.{same_peer_lem}
use Rattle.trunk.specs.Acts.{Side, aside, History}
use Rattle.trunk.specs.Changes.{Pace, View, bump, Goes, goes_aside}
use Rattle.trunk.specs.Two.{is_there}
use Rattle.trunk.proofs.Alone.{none_some}
use Rattle.trunk.proofs.Hearing.{heard_in, waiting_as}

-- the first that passes, after a change that does not matter to the test, and after one that makes it pass
first_set : (p : Site → Bool) (xs : List Site) (i k : ℕ) (x : Site) → p x ≡ p (get_or xs i vacant) → first_from p k (set xs i x) ≡ first_from p k xs
first_set p [] i k x e = refl
first_set p (y ∷ ys) zero k x e = rw e refl
first_set p (y ∷ ys) (suc i) k x e = ap (λ r. cond (p y) (Some k) r) (first_set p ys i (k + 1) x e)

pub first_new : (p : Site → Bool) (xs : List Site) (i k : ℕ) (x : Site) → first_from p k xs ≡ None → i < length xs → p x ≡ true → first_from p k (set xs i x) ≡ Some (k + i)
first_new p [] i k x e l t = absurd (omega arith)
first_new p (y ∷ ys) zero k x e l t = rw t (ap Some (omega arith))
first_new p (y ∷ ys) (suc i) k x e l t = go (first_new p ys i (k + 1) x) (p y) refl
  where
    go : (first_from p (k + 1) ys ≡ None → i < length ys → p x ≡ true → first_from p (k + 1) (set ys i x) ≡ Some (k + 1 + i))
        → (b : Bool) → p y ≡ b → first_from p k (set (y ∷ ys) (suc i) x) ≡ Some (k + suc i)
    go ih true q = absurd (none_some (first_from p k (y ∷ ys)) k e (rw q refl))
    go ih false q = rw q (ih (rw q at e) (omega arith) t ∙ ap Some (omega arith))

-- what an end has of the peer at a place
abbrev pub view_at : End → Option ℕ → View
view_at e None = record { out = None; seen = blank; next = e.next; latest = e.latest }
view_at e (Some p) = record { out = option_map waiting_as (outstanding_at (site_at e p)); seen = e.book p; next = e.next; latest = e.latest }

-- an end has a peer at the place q, and its book nothing at a place that is vacant
pub record Tied (peer : Peer) (e : End) (q : Option ℕ) : Type 0 where
  pub found : place_of e peer ≡ q
  pub bare : (p : ℕ) → is_held (site_at e p) ≡ false → e.book p ≡ blank
  pub sized : length e.places ≡ 32

pub there_is : (q : Option ℕ) (p : ℕ) → is_there q p ≡ true → q ≡ Some p
there_is None p e = absurd (false≢true e)
there_is (Some r) p e = ap Some (eqb-true r p e)

pub held_is : (x : Site) → is_held x ≡ true → (n : Neighbour) × (x ≡ held n)
held_is vacant e = absurd (false≢true e)
held_is (held n) e = (n, refl)

pub found_there : (peer : Peer) (e : End) (q : Option ℕ) (p : ℕ) → place_of e peer ≡ q → q ≡ Some p → (p < length e.places) × (holds_peer peer (site_at e p) ≡ true)
found_there peer e q p f s =
    let k = first_means (holds_peer peer) e.places (Some p) (f ∙ s) in
    (k.0, k.1 vacant)

pub at_held : (peer : Peer) (x : Site) → holds_peer peer x ≡ true → (n : Neighbour) × (x ≡ held n) × (n.peer ≡ peer)
at_held peer vacant e = absurd (false≢true e)
at_held peer (held n) e = (n, refl, same_peer_lem n.peer peer e)

-- a call at a place that holds the same peer before and after
pub record Turned (below : ℕ → Bool) (e : End) (p t : ℕ) (f : End) : Type 0 where
  pub moves : Moves below e p t f
  pub was : Neighbour
  pub held_was : site_at e p ≡ held was
  pub is : Neighbour
  pub held_is : site_at f p ≡ held is
  pub same : is.peer ≡ was.peer

pub moved_found : {below : ℕ → Bool} (peer : Peer) (e f : End) (p t : ℕ) → p < length e.places → Moves below e p t f → holds_peer peer (site_at f p) ≡ holds_peer peer (site_at e p) → place_of f peer ≡ place_of e peer
moved_found peer e f p t l M same =
    let at : site_at f p ≡ M.site = ap (λ ss. get_or ss p vacant) M.places ∙ get_or-set_same e.places p M.site vacant l in
    ap (first_from (holds_peer peer) 0) M.places ∙ first_set (holds_peer peer) e.places p 0 M.site (ap (holds_peer peer) (sym at) ∙ same)

pub moved_bare : {below : ℕ → Bool} (e f : End) (p t : ℕ) → Moves below e p t f → is_held (site_at f p) ≡ true → ((k : ℕ) → is_held (site_at e k) ≡ false → e.book k ≡ blank)
    → (k : ℕ) → is_held (site_at f k) ≡ false → f.book k ≡ blank
moved_bare e f p t M hd B k n =
    elim (cases_eq k p) [
      | inl kp ↦ absurd (true≢false (sym hd ∙ ap (λ u. is_held (site_at f u)) (sym kp) ∙ n))
      | inr ne ↦ M.book k ne ∙ B k (ap is_held (sym (other_site e p t f M k ne)) ∙ n)
    ]

pub moved_sized : {below : ℕ → Bool} (e f : End) (p t : ℕ) → Moves below e p t f → length e.places ≡ 32 → length f.places ≡ 32
moved_sized e f p t M z = ap length M.places ∙ length-set e.places p M.site ∙ z

pub tied_turned : {below : ℕ → Bool} (peer : Peer) (e f : End) (q : Option ℕ) (p t : ℕ) → p < 32 → Turned below e p t f → Tied peer e q → Tied peer f q
tied_turned peer e f q p t l U T =
    let z = T.sized in
    record {
      found = moved_found peer e f p t (omega arith) U.moves
          (ap (holds_peer peer) U.held_is ∙ ap (λ u. same_peer u peer) U.same ∙ sym (ap (holds_peer peer) U.held_was)) ∙ T.found;
      bare = moved_bare e f p t U.moves (ap is_held U.held_is) T.bare;
      sized = moved_sized e f p t U.moves z;
    }

-- a call that is nothing to the place q
pub aside_moved : {below : ℕ → Bool} (τ : Pace) (depth : ℕ) (h : History) (s : Side) (e f : End) (q : Option ℕ) (p t : ℕ) (b : Bool) → Moves below e p t f → is_there q p ≡ false
    → f.next ≡ bump b e.next → Goes heard_in τ depth h s (view_at e q) (aside b) (view_at f q)
aside_moved τ depth h s e f None p t b M away n = goes_aside b refl refl refl n (let l = M.latest in let k = M.forward in omega arith)
aside_moved τ depth h s e f (Some r) p t b M away n =
    let ne : r ≡ p → ⊥ = λ z. true≢false (sym (eq-eqb r p z) ∙ away) in
    goes_aside b refl (ap (λ x. option_map waiting_as (outstanding_at x)) (other_site e p t f M r ne)) (M.book r ne) n
    (let l = M.latest in let k = M.forward in omega arith)

pub aside_refused : (τ : Pace) (depth : ℕ) (h : History) (s : Side) (e : End) (q : Option ℕ) → Goes heard_in τ depth h s (view_at e q) (aside false) (view_at e q)
aside_refused τ depth h s e None = goes_aside false refl refl refl refl (omega arith)
aside_refused τ depth h s e (Some r) = goes_aside false refl refl refl refl (omega arith)
