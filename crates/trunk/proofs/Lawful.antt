-- The law, from what holds of both ends; and what holds at the start and after every change.
use Rattle.std.proofs.Common.{◌≡◌, ℕ, ◌<◌, ◌≤◌, Bool, true, false, cond, List, [], ◌∷◌, None, Ok, Option, sym, refl, ap, ◌∙◌, subst, inl, inr, arith}
use Rattle.std.proofs.lemmas.Bool.{cases_lt, true≢false}
use Rattle.arrivals.specs.Meaning.{Seen, blank}
use Rattle.trunk.specs.Law.{Law}
use Rattle.trunk.specs.Acts.{Octets, Said, said_in, Outcome, acknowledged, Side, other, Act, sends, arrives, History, Does, Wrote, Asks, Belongs, OnLine, own, more, Lines, first, next, HandsOut, Ends, by_tick, by_arrival, Waited, start, then}
use Rattle.trunk.proofs.Past.{only}
use Rattle.trunk.specs.Changes.{Pace, Heard, View, Goes, TimelyAct, Reached, begun, went_on, ChangesKeepTheLaw}
use Rattle.trunk.proofs.Alone.{none_some}
use Rattle.trunk.specs.Timely.{Root, Got}
use Rattle.trunk.proofs.Pair.{root_le, root_only, Says, says_send, says_alive, says_reply, Pair}
use Rattle.trunk.proofs.Both.{heard_same, Both, is_send, both_step}

cons_nil : (p : Said) (ps : List Said) → p ∷ ps ≡ [] → ⊥
cons_nil p ps e = let z : ◌≡◌ {A = ℕ} 0 1 = cc in omega arith

-- a datagram of a send on the line was numbered by the send, and the other way round
line_root : (h : History) (s : Side) (i k : ℕ) → OnLine h s i k → Root h s i k
line_root h s i k (own w t b d D e) = ((sends w t b d, D, refl), inl e)
line_root h s i k (more r) = let a = r.3.0 in ((sends true a.0 a.1 a.2, a.3, refl), inr r)

root_line : (h : History) (s : Side) (i k : ℕ) (w : Bool) (t : ℕ) (b d : Octets) → Does h i s (sends w t b d) → Root h s i k → OnLine h s i k
root_line h s i k w t b d D R = elim R.1 [ inl e ↦ own w t b d D e | inr r ↦ more r ]

module _ (hear : Octets → Option Heard) (start depth : ℕ) (h : History) (s : Side) (z : Seen) (P : Pair hear start depth h s z) where
  gave_fresh : (j k : ℕ) (f : Bool) (p : Said) (ps : List Said) (o : Option Outcome) (r : Option Octets) → Does h j (other s) (arrives k f (p ∷ ps) o r) → f ≡ true
  gave_fresh j k true p ps o r D = refl
  gave_fresh j k false p ps o r D = absurd (cons_nil p ps (P.gives j k false (p ∷ ps) o r D).4)

  hands_got : (i j : ℕ) → HandsOut h s i j → Got h s j i true
  hands_got i j H =
      let f = gave_fresh j H.0 H.2 H.3 H.4 H.5 H.6 H.7 in (
        H.0,
        H.3 ∷ H.4,
        H.5,
        H.6,
        subst (λ u. Does h j (other s) (arrives H.0 u (H.3 ∷ H.4) H.5 H.6)) f H.7,
        line_root h s i H.0 H.1,
      )

  -- what a datagram with something to hand out is
  send_said : (i : ℕ) (d : Octets) (g : Heard) (p : Said) (ps : List Said) → Says hear h s i d g → p ∷ ps ≡ g.hands
      → (want : Bool) × (t : ℕ) × (b : Octets) × Does h i s (sends want t b d) × (said_in b ≡ Ok (p ∷ ps))
  send_said i d g p ps (says_send want t b D e m nay q) x = (want, t, b, D, e ∙ ap Ok (sym x))
  send_said i d g p ps (says_alive t D m nay q) x = absurd (cons_nil p ps (x ∙ m))
  send_said i d g p ps (says_reply k f qs o D d' g' W rd m c q) x = absurd (cons_nil p ps (x ∙ m))

  whole_of : (j k : ℕ) (f : Bool) (p : Said) (ps : List Said) (o : Option Outcome) (r : Option Octets)
      → Does h j (other s) (arrives k f (p ∷ ps) o r)
      → (i : ℕ) × (wt : Bool) × (t : ℕ) × (b : Octets) × (d : Octets)
      × Does h i s (sends wt t b d) × OnLine h s i k × Wrote h k s d × (i < j) × (said_in b ≡ Ok (p ∷ ps))
  whole_of j k f p ps o r D =
      let G = P.gives j k f (p ∷ ps) o r D in
      let f≡ = gave_fresh j k f p ps o r D in
      let K = P.known k G.0 G.2 in
      let g≡ = heard_same (hear G.0) G.1 K.1 G.3 K.2 in
      let S = send_said K.0 G.0 K.1 p ps K.5 (G.4 ∙ ap (λ u. cond u G.1.hands []) f≡ ∙ ap (λ u. u.hands) g≡) in
      let le = root_le h s K.0 k K.4 in
      let lt = G.5 in (
        K.0,
        S.0,
        S.1,
        S.2,
        G.0,
        S.3,
        root_line h s K.0 k S.0 S.1 S.2 G.0 S.3 K.4,
        G.2,
        omega arith,
        S.4,
      )

  -- a send whose datagram was accepted as Fresh was handed out
  hands : (j i k : ℕ) (ps : List Said) (o : Option Outcome) (r : Option Octets) → Does h j (other s) (arrives k true ps o r) → Root h s i k → Asks h s i → HandsOut h s i j
  hands j i k (p ∷ ps) o r D R A = (k, root_line h s i k true A.0 A.1 A.2 A.3 R, true, p, ps, o, r, D)
  hands j i k [] o r D R A =
      let G = P.gives j k true [] o r D in
      let K = P.known k G.0 G.2 in
      let i≡ = root_only h s K.0 i k K.4 R in
      let g≡ = heard_same (hear G.0) G.1 K.1 G.3 K.2 in
      absurd (no_body G.0 K.1 (subst (λ u. Says hear h s u G.0 K.1) i≡ K.5) (G.4 ∙ ap (λ u. u.hands) g≡))
    where
      no_body : (d : Octets) (g : Heard) → Says hear h s i d g → [] ≡ g.hands → ⊥
      no_body d g (says_send want t b D' e m nay q) x = m (sym x)
      no_body d g (says_alive t D' m nay q) x = true≢false (ap is_send (only h i s _ _ A.3 D'))
      no_body d g (says_reply k' f qs o' D' d' g' W rd m c q) x = true≢false (ap is_send (only h i s _ _ A.3 D'))

  ends_belongs : (i k : ℕ) (o : Outcome) → Ends h s i k o → Belongs h s i k
  ends_belongs i k o (by_tick t D e B) = B
  ends_belongs i k o (by_arrival m f ps r D B) = B

  after_of : (i k : ℕ) → Ends h s i k acknowledged → (j : ℕ) × HandsOut h s i j × (j < k)
  after_of i k E =
      let r = P.after i k E in
      let G = r.1 in
      (r.0, hands r.0 i G.0 G.1 G.2 G.3 G.4 G.5 (ends_belongs i k acknowledged E).0, r.2)

  once_of : (i j k : ℕ) → HandsOut h s i j → HandsOut h s i k → j ≡ k
  once_of i j k H H' = P.one i j k (hands_got i j H) (hands_got i k H')

  order_of : (i i' k k' j j' : ℕ) → Ends h s i k acknowledged → Ends h s i' k' acknowledged → i < i' → HandsOut h s i j → HandsOut h s i' j' → j < j'
  order_of i i' k k' j j' E E' lt H H' =
      let a = after_of i k E in
      let e = once_of i j a.0 H a.1 in
      let a2 = a.2 in
      let B = ends_belongs i k acknowledged E in
      let B' = ends_belongs i' k' acknowledged E' in
      let w' = (P.gives j' H'.0 H'.2 (H'.3 ∷ H'.4) H'.5 H'.6 H'.7).5 in
      let rl = root_le h s i' H'.0 (line_root h s i' H'.0 H'.1) in
      elim (cases_lt i' k) [
        | inl l ↦ let b = B.2 i' B'.0 l in absurd (omega arith)
        | inr l ↦ omega arith
      ]

pub lawful : (hear : Octets → Option Heard) (τ : Pace) (start depth : Side → ℕ) (h : History) (v : Side → View) → Both hear τ start depth h v
    → Law τ.tries τ.later h
lawful hear τ st depth h v I =
    record {
      once = λ s. once_of hear (st s) (depth (other s)) h s (v (other s)).seen (I.pairs s);
      whole = λ s. whole_of hear (st s) (depth (other s)) h s (v (other s)).seen (I.pairs s);
      after = λ s. after_of hear (st s) (depth (other s)) h s (v (other s)).seen (I.pairs s);
      in_order = λ s. order_of hear (st s) (depth (other s)) h s (v (other s)).seen (I.pairs s);
      few = λ s. (I.alone s).few;
      single = λ s. (I.alone s).single;
      settled = λ s. (I.alone s).settled;
    }

-- at the start
module _ (hear : Octets → Option Heard) (τ : Pace) (start₀ depth : Side → ℕ) (v : Side → View) (starts : (s : Side) → start₀ s < 16777216)
    (outs : (s : Side) → (v s).out ≡ None) (seens : (s : Side) → (v s).seen ≡ blank) (nexts : (s : Side) → (v s).next ≡ start₀ s) where
  no_ends : (s : Side) (i k : ℕ) (o : Outcome) → Ends [] s i k o → ⊥
  no_ends s i k o (by_tick t D e B) = D
  no_ends s i k o (by_arrival m f ps r D B) = D

  no_lines : (s : Side) (i n k : ℕ) → Lines [] s i n k → ⊥
  no_lines s i n k (first wt t b d D e z) = D
  no_lines s i n k (next m j x l r e) = r.2

  no_waits : (s : Side) (i n k t : ℕ) → Waited τ.later [] s i n k t → ⊥
  no_waits s i n k t (start b d D e z) = D
  no_waits s i n k t (then m j u x y l D g e) = D

  pub both_start : Both hear τ start₀ depth [] v
  both_start =
      record {
        alone = λ s. record {
          live = λ m e. absurd (none_some (v s).out m (outs s) e);
          each = λ i a. absurd a.3;
          few = λ i n k x. absurd (no_lines s i n k x);
          single = λ i k k' o o' x y. absurd (no_ends s i k o x);
          settled = λ i k t x. absurd (no_waits s i τ.tries k t x);
        };
        numbers = λ s. nexts s ∙ (let l = starts s in omega arith);
        marked = λ s m e. absurd (none_some (v s).out m (outs s) e);
        pairs = λ s. record {
          known = λ k d W. absurd W.1;
          kept = rw (seens (other s)) (λ g F. F.2.4);
          gives = λ j k f ps o r D. absurd D;
          earlier = λ j i f G. absurd G.4;
          near = λ j i f G. absurd G.4;
          one = λ i j k G G'. absurd G.4;
          after = λ i k E. absurd (no_ends s i k acknowledged E);
        };
      }

-- and so wherever changes lead
module _ (hear : Octets → Option Heard) (τ : Pace) (start₀ depth : Side → ℕ) (one : 1 ≤ τ.tries) (ordered : τ.first ≤ τ.later)
    (starts : (s : Side) → start₀ s < 16777216) (deep : (s : Side) → 1 ≤ depth s) (shallow : (s : Side) → depth s ≤ 4096) where
  both_begun : (h : History) (v : Side → View) → h ≡ [] → ((s : Side) → (v s).out ≡ None) → ((s : Side) → (v s).seen ≡ blank)
      → ((s : Side) → (v s).next ≡ start₀ s) → Both hear τ start₀ depth h v
  both_begun h v e outs seens nexts =
      subst (λ u. Both hear τ start₀ depth u v) (sym e) (both_start hear τ start₀ depth v starts outs seens nexts)

  both_next : (h' h : History) (v v' : Side → View) (y : Side) (a : Act) → h' ≡ record { side = y; act = a } ∷ h → v' (other y) ≡ v (other y)
      → Goes hear τ (depth y) h y (v y) a (v' y) → TimelyAct h y a → Both hear τ start₀ depth h v → Both hear τ start₀ depth h' v'
  both_next h' h v v' y a e kept G timely I =
      subst (λ u. Both hear τ start₀ depth u v') (sym e)
      (both_step hear τ one ordered start₀ depth deep shallow h y a v v' kept G timely I)

  reached_both : {h : History} {v : Side → View} → Reached hear τ start₀ depth h v → Both hear τ start₀ depth h v
  reached_both {h = h} {v = v} (begun e outs seens nexts) = both_begun h v e outs seens nexts
  reached_both {h = h'} {v = v'} (went_on h v y a R e kept G timely) = both_next h' h v v' y a e kept G timely (reached_both R)

pub changes_keep_the_law : ChangesKeepTheLaw
changes_keep_the_law hear τ st depth one ordered starts deep shallow h v R =
    lawful hear τ st depth h v (reached_both hear τ st depth one ordered starts deep shallow R)
