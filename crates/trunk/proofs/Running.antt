-- Two parties in code, call by call: their run is one of the definitions.
use Rattle.std.proofs.Common.{◌≡◌, ℕ, ◌<◌, ◌≤◌, Bool, true, false, not, ltb, List, [], ◌∷◌, ◌++◌, length, Ok, Err, Result, sym, refl, ap, ◌∙◌, subst}
use Rattle.std.proofs.Common.{suc, ◌+◌, map, get_or, drop, add-one, drop-cons}
use Rattle.std.proofs.Math.ListN.{drop_of_length-le}
use Rattle.datagram.specs.Results.{map_ok, and_then, ask}
use Rattle.endpoint.specs.Ends.{same_peer}
use Rattle.endpoint.specs.Timing.{numbers_left}
use Rattle.trunk.specs.declared.log.Error.{Error}
use Rattle.trunk.specs.declared.log.Error.TheVariants.{StartRefused, SamePeer, NoSuchDatagram, OthersAddress, NoMemory}
use Rattle.trunk.specs.declared.call.Turn as turns
use Rattle.trunk.specs.Acts.{Side, left, right, other}
use Rattle.trunk.specs.Parties.{call_for, from_of, Party, new_party, opened, TakesTurn}
use Rattle.trunk.specs.Runs.{by_side, turn, turn_for, played, ran, Runs}
use Rattle.trunk.specs.Two.{Setting, World, turned, newly}
use Rattle.trunk.specs.Views.{Ask, turn_says, Report}
use Rattle.trunk.proofs.Playing.{asked, run_keeps_the_law}
use Rattle.trunk.proofs.Stepping.{Matches, begins, same_turn, set_side, goes_on}

-- with these calls to come, the parties and the reports are those of a world from which the run goes on
pub record Goes (σ : Setting) (cs to_come : List Ask) (ps : Side → Party) (rs : List Report) : Type 0 where
  pub world : World
  pub matches : Matches σ world ps rs
  pub on : ran σ cs ≡ played σ world to_come

matches_same : (σ : Setting) (w : World) (ps qs : Side → Party) (rs : List Report) → ((s : Side) → ps s ≡ qs s) → Matches σ w ps rs → Matches σ w qs rs
matches_same σ w ps qs rs same m = record {
  sides = λ s. ap (λ p. p.side) (sym (same s)) ∙ m.sides s;
  peers = λ s. ap (λ p. p.peer) (sym (same s)) ∙ m.peers s;
  ends = λ s. m.ends s ∙ ap (λ p. p.end) (same s);
  places = λ s. m.places s ∙ ap (λ p. p.place) (same s);
  reports = m.reports;
  lines = m.lines;
}

-- what is asked before the first call
ask_then : {X Y : Type 0} (a b c : Bool) (l m n : Error) (x : X) (r : Result Y Error) → ask a l (ask b m (ask c n r)) ≡ and_then (ask a l (ask b m (ask c n (Ok x)))) (λ _. r)
ask_then true true true l m n x r = refl
ask_then true true false l m n x r = refl
ask_then true false c l m n x r = refl
ask_then false b c l m n x r = refl

ran_so : (σ : Setting) (cs : List Ask) → ran σ cs ≡ and_then (opened σ) (λ _. played σ (newly σ) cs)
ran_so σ cs = ask_then (ltb (σ.start left) 16777216) (ltb (σ.start right) 16777216) (not (same_peer (σ.peer left) (σ.peer right))) _ _ _ _ (played σ (newly σ) cs)

pub starts : (σ : Setting) (cs : List Ask) (ps : Side → Party) → Ok ps ≡ opened σ → Goes σ cs cs ps []
starts σ cs ps e =
    let a = asked (ltb (σ.start left) 16777216) _ _ ps (sym e) in
    let b = asked (ltb (σ.start right) 16777216) _ _ ps a.1 in
    let c = asked (not (same_peer (σ.peer left) (σ.peer right))) _ _ ps b.1 in
    let is : by_side (new_party left (σ.peer right) (σ.start left)) (new_party right (σ.peer left) (σ.start right)) ≡ ps = let f = c.1 in cc in
    record {
      world = newly σ;
      matches = subst (λ qs. Matches σ (newly σ) qs []) is (matches_same σ (newly σ) _ _ [] (elim [ left ↦ refl | right ↦ refl ]) (begins σ));
      on = ran_so σ cs ∙ ap (λ r. and_then r (λ _. played σ (newly σ) cs)) (sym e);
    }

-- a call more
both_sides : (ps ps' : Side → Party) (s x : Side) → ps' (other s) ≡ ps (other s) → set_side s (ps' s) ps x ≡ ps' x
both_sides ps ps' left left e = refl
both_sides ps ps' left right e = sym e
both_sides ps ps' right left e = sym e
both_sides ps ps' right right e = refl

pub goes : (σ : Setting) (cs to_come : List Ask) (ps ps' : Side → Party) (rs : List Report) (a : Ask) (report : Report) → σ.below ≡ numbers_left
    → Goes σ cs (a ∷ to_come) ps rs → TakesTurn σ.depth ps rs a (Ok report) ps' → Goes σ cs to_come ps' (rs ++ (report ∷ []))
goes σ cs to_come ps ps' rs a report standing g t =
    let w = g.world in
    let c = t.takes.call in
    let is : turn_for σ w a.side a.order ≡ Ok (turn a.side c (from_of a.order)) = same_turn σ w ps rs g.matches a.side a.order ∙ ap (map_ok (λ x. turn a.side x (from_of a.order))) t.takes.is in
    record {
      world = turned σ w (turn a.side c (from_of a.order));
      matches = matches_same σ _ _ ps' _ (λ x. both_sides ps ps' a.side x t.stays) (goes_on σ w ps rs g.matches standing a.side c (from_of a.order) report (ps' a.side) t.takes.enters);
      on = g.on ∙ ap (λ r. and_then r (λ x. played σ (turned σ w x) to_come)) is;
    }

-- a call that does not belong
not_called : (σ : Setting) (cs to_come : List Ask) (ps : Side → Party) (rs : List Report) (a : Ask) (m : Error)
    → Goes σ cs (a ∷ to_come) ps rs → call_for (ps a.side).peer (ps a.side).side rs a.order ≡ Err m → ran σ cs ≡ Err m
not_called σ cs to_come ps rs a m g e =
    g.on ∙ ap (λ r. and_then r (λ x. played σ (turned σ g.world x) to_come)) (same_turn σ g.world ps rs g.matches a.side a.order ∙ ap (map_ok (λ x. turn a.side x (from_of a.order))) e)

pub stops : (σ : Setting) (cs to_come : List Ask) (ps ps' : Side → Party) (rs : List Report) (a : Ask) (m : Error)
    → Goes σ cs (a ∷ to_come) ps rs → TakesTurn σ.depth ps rs a (Err m) ps' → Runs σ cs (Err m) 4 3000
stops σ cs to_come ps ps' rs a (StartRefused s) g t = absurd t.takes
stops σ cs to_come ps ps' rs a SamePeer g t = absurd t.takes
stops σ cs to_come ps ps' rs a (NoSuchDatagram k) g t = not_called σ cs to_come ps rs a _ g t.takes
stops σ cs to_come ps ps' rs a (OthersAddress k) g t = not_called σ cs to_come ps rs a _ g t.takes
stops σ cs to_come ps ps' rs a NoMemory g t = tt

-- the last
pub ends : (σ : Setting) (cs : List Ask) (ps : Side → Party) (rs : List Report) → ((s : Side) → 1 ≤ σ.depth s) → ((s : Side) → σ.depth s ≤ 4096) → σ.below ≡ numbers_left
    → Goes σ cs [] ps rs → Runs σ cs (Ok rs) 4 3000
ends σ cs ps rs deep shallow standing g = record {
  world = g.world;
  comes = g.on;
  reported = g.matches.reports;
  law = run_keeps_the_law σ cs g.world deep shallow (λ n. ap (λ f. f n) standing) g.on;
}

-- the calls to come, by the index of the next
pub next_turn : (l : List turns.Turn) (i : ℕ) (t : turns.Turn) → i < length l → t ≡ get_or l i t → map turn_says (drop i l) ≡ turn_says t ∷ map turn_says (drop (i + 1) l)
next_turn l i t within is = rw (add-one, drop-cons l i t) (ap (λ x. turn_says x ∷ map turn_says (drop (suc i) l)) (sym is))

pub no_turn : (l : List turns.Turn) (i : ℕ) → length l ≤ i → map turn_says (drop i l) ≡ []
no_turn l i past = ap (map turn_says) (drop_of_length-le l past)
