-- A list of calls that is run to its end is a proper one, so the law holds of its log.
use Rattle.std.proofs.Common.{◌≡◌, ℕ, ◌<◌, ◌≤◌, Bool, true, false, cond, not, eqb, ltb, List, [], ◌∷◌, length, Some, None, Ok, Err, Option, Result, sym, refl, subst, inl, inr, arith, eqb-true}
use Rattle.std.proofs.lemmas.Bool.{false≢true, ltb-true}
use Rattle.datagram.specs.Results.{map_ok, and_then, ask}
use Rattle.endpoint.specs.Calls as calls
use Rattle.endpoint.specs.Ends.{same_peer}
use Rattle.endpoint.specs.Timing.{numbers_left}
use Rattle.trunk.specs.declared.log.Error.{Error}
use Rattle.trunk.specs.declared.log.Error.TheVariants.{OthersAddress, NoSuchDatagram}
use Rattle.trunk.specs.Acts.{Octets, Side, left, right, other, same, History, Wrote, wrote}
use Rattle.trunk.specs.Law.{Law}
use Rattle.trunk.specs.Two.{Setting, Turn, World, history, turned, run, newly, AllowedCall, Proper}
use Rattle.trunk.specs.Views.{Order, enrol, send, tick, arrive, hear, Ask}
use Rattle.trunk.specs.Runs.{wrote_at, turn, or_else, turn_for, played, ran}
use Rattle.trunk.proofs.Theorem.{keep_the_law}

-- what could be carried on
pub carried : {X Y : Type 0} (r : Result X Error) (f : X → Result Y Error) (y : Y) → and_then r f ≡ Ok y → (x : X) × (r ≡ Ok x) × (f x ≡ Ok y)
carried (Ok x) f y e = (x, refl, e)
carried (Err m) f y e = let z : ◌≡◌ {A = ℕ} 0 1 = cc in absurd (omega arith)

pub asked : {X : Type 0} (b : Bool) (m : Error) (r : Result X Error) (x : X) → ask b m r ≡ Ok x → (b ≡ true) × (r ≡ Ok x)
asked true m r x e = (refl, e)
asked false m r x e = let z : ◌≡◌ {A = ℕ} 0 1 = cc in absurd (omega arith)

sides : (s t : Side) → same s t ≡ true → s ≡ t
sides left left q = refl
sides left right q = absurd (false≢true q)
sides right left q = absurd (false≢true q)
sides right right q = refl

-- the datagram that is found was written
pub wrote_at_lem : (h : History) (k : ℕ) (s : Side) (d : Octets) → wrote_at h k s ≡ Some d → Wrote h k s d
wrote_at_lem [] k s d e = let z : ◌≡◌ {A = ℕ} 0 1 = cc in absurd (omega arith)
wrote_at_lem (x ∷ h) k s d e = go (eqb k (length h)) refl (λ p. wrote_at_lem h k s d p) e
  where
    own : (b : Bool) → same s x.side ≡ b → k ≡ length h → cond b (wrote x.act) None ≡ Some d → Wrote (x ∷ h) k s d
    own true q i p = (x.act, inl (i, sides s x.side q, refl), p)
    own false q i p = let z : ◌≡◌ {A = ℕ} 0 1 = cc in absurd (omega arith)

    go : (b : Bool) → eqb k (length h) ≡ b → (wrote_at h k s ≡ Some d → Wrote h k s d)
        → cond b (cond (same s x.side) (wrote x.act) None) (wrote_at h k s) ≡ Some d → Wrote (x ∷ h) k s d
    go true q before p = own (same s x.side) refl (eqb-true k (length h) q) p
    go false q before p = let w = before p in (w.0, inr w.1, w.2)

-- a turn on the side that was asked for, which is allowed
pub record Granted (σ : Setting) (w : World) (s : Side) (c : Turn) : Type 0 where
  pub side : c.side ≡ s
  pub allowed : AllowedCall σ w c.side c.from c.call

copied : (σ : Setting) (w : World) (s : Side) (t k room : ℕ) (o : Option Octets) (m : Error) (c : Turn) → wrote_at (history σ w.log) k (other s) ≡ o
    → map_ok (λ d. turn s (calls.arrives t (σ.peer (other s)) d room) k) (or_else o m) ≡ Ok c → Granted σ w s c
copied σ w s t k room (Some d) m c q e =
    let same : turn s (calls.arrives t (σ.peer (other s)) d room) k ≡ c = cc in
    subst (Granted σ w s) same (record { side = refl; allowed = λ _. wrote_at_lem (history σ w.log) k (other s) d q })
copied σ w s t k room None m c q e = let z : ◌≡◌ {A = ℕ} 0 1 = cc in absurd (omega arith)

free : (σ : Setting) (w : World) (s : Side) (c d : Turn) → Granted σ w s c → ◌≡◌ {A = Result Turn Error} (Ok c) (Ok d) → Granted σ w s d
free σ w s c d g e = let same : c ≡ d = cc in subst (Granted σ w s) same g

not_both : (b : Bool) → not b ≡ true → b ≡ true → ⊥
not_both true n y = false≢true n
not_both false n y = false≢true y

pub granted : (σ : Setting) (w : World) (s : Side) (o : Order) (c : Turn) → turn_for σ w s o ≡ Ok c → Granted σ w s c
granted σ w s (enrol p t b role) c e = free σ w s (turn s (calls.enrols p t b role) 0) c (record { side = refl; allowed = tt }) e
granted σ w s (send p t want b room) c e = free σ w s (turn s (calls.sends p t want b room) 0) c (record { side = refl; allowed = tt }) e
granted σ w s (tick p t room) c e = free σ w s (turn s (calls.ticks p t room) 0) c (record { side = refl; allowed = tt }) e
granted σ w s (arrive t k room) c e = copied σ w s t k room (wrote_at (history σ w.log) k (other s)) (NoSuchDatagram (length w.log)) c refl e
granted σ w s (hear t x d room) c e =
    let p = asked (not (same_peer x (σ.peer (other s)))) (OthersAddress (length w.log)) (Ok (turn s (calls.arrives t x d room) 0)) c e in
    free σ w s (turn s (calls.arrives t x d room) 0) c (record { side = refl; allowed = λ y. absurd (not_both (same_peer x (σ.peer (other s))) p.0 y) }) p.1

-- the turns of a run that came to its end
pub record Turns (σ : Setting) (w v : World) : Type 0 where
  pub turns : List Turn
  pub comes : v ≡ run σ w turns
  pub proper : Proper σ w turns

pub turns_of : (σ : Setting) (cs : List Ask) (w v : World) → played σ w cs ≡ Ok v → Turns σ w v
turns_of σ [] w v e = let same : w ≡ v = cc in record { turns = []; comes = sym same; proper = tt }
turns_of σ (a ∷ cs) w v e =
    let x = carried (turn_for σ w a.side a.order) (λ c. played σ (turned σ w c) cs) v e in
    let g = granted σ w a.side a.order x.0 x.1 in
    let r = turns_of σ cs (turned σ w x.0) v x.2 in
    record { turns = x.0 ∷ r.turns; comes = r.comes; proper = (g.allowed, r.proper) }

-- the two ends were opened, and differ
pub record Opened (σ : Setting) (cs : List Ask) (v : World) : Type 0 where
  pub starts : (s : Side) → σ.start s < 16777216
  pub apart : same_peer (σ.peer left) (σ.peer right) ≡ false
  pub plays : played σ (newly σ) cs ≡ Ok v

not-true : (b : Bool) → not b ≡ true → b ≡ false
not-true true e = absurd (false≢true e)
not-true false e = refl

pub opened_both : (σ : Setting) (cs : List Ask) (v : World) → ran σ cs ≡ Ok v → Opened σ cs v
opened_both σ cs v e =
    let a = asked (ltb (σ.start left) 16777216) _ _ v e in
    let b = asked (ltb (σ.start right) 16777216) _ _ v a.1 in
    let c = asked (not (same_peer (σ.peer left) (σ.peer right))) _ _ v b.1 in
    record {
      starts = by (ltb-true (σ.start left) 16777216 a.0) (ltb-true (σ.start right) 16777216 b.0);
      apart = not-true (same_peer (σ.peer left) (σ.peer right)) c.0;
      plays = c.1;
    }
  where
    by : σ.start left < 16777216 → σ.start right < 16777216 → (s : Side) → σ.start s < 16777216
    by l r left = l
    by l r right = r

-- whatever is run to its end on two ends with books of a proper depth, under the standing question 12, keeps the law
pub run_keeps_the_law : (σ : Setting) (cs : List Ask) (v : World) → ((s : Side) → 1 ≤ σ.depth s) → ((s : Side) → σ.depth s ≤ 4096)
    → ((n : ℕ) → σ.below n ≡ numbers_left n) → ran σ cs ≡ Ok v → Law 4 3000 (history σ v.log)
run_keeps_the_law σ cs v deep shallow standing e =
    let o = opened_both σ cs v e in
    let t = turns_of σ cs (newly σ) v o.plays in
    subst (λ (u : World). Law 4 3000 (history σ u.log)) (sym t.comes)
    (keep_the_law σ (record { apart = o.apart; starts = o.starts; deep = deep; shallow = shallow }) standing t.turns t.proper)
