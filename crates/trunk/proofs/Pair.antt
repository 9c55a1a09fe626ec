-- A sender and its receiver: what the sender's datagrams say, and what the receiver's book knows of them.
use Rattle.std.proofs.Common.{◌≡◌, ℕ, ◌+◌, ◌<◌, ◌≤◌, Bool, true, false, cond, ◌⊎◌, List, [], ◌∷◌, length, Some, Ok, Option, sym, ap, ◌∙◌, subst, inl, inr, arith}
use Rattle.std.proofs.lemmas.Bool.{cases_Bool, true≢false}
use Rattle.trunk.specs.Acts.{Octets, Said, said_in, Outcome, acknowledged, Side, other, kept_alive, Act, sends, ticks, arrives, Deed, History, Does, wrote, Wrote, Resends, Ends}
use Rattle.arrivals.specs.declared.book.Judgement.TheVariants.{Fresh, Again}
use Rattle.arrivals.specs.Meaning.{Seen, judged_at, noted_at}
use Rattle.trunk.specs.Timely.{takes, given, index, Taken, Root, Got, FoundFresh}
use Rattle.trunk.specs.Changes.{Heard}
use Rattle.trunk.proofs.Past.{bound, here, old, only, resends_old, resends_up, ends_old, ends_bound, index_old, index_here, index_inj}
use Rattle.trunk.proofs.Alone.{Now, at_bound}
use Rattle.trunk.proofs.Remembered.{num, Kept, kept_same, kept_again, kept_fresh, kept_note, noted_again, Close}

pub root_le : (h : History) (s : Side) (i k : ℕ) → Root h s i k → i ≤ k
root_le h s i k R = elim R.1 [ inl e ↦ omega (arith, e) | inr r ↦ (let l = r.3.1 in omega arith) ]

not_resent : (h : History) (s : Side) (i k : ℕ) → Taken h s k → Resends h s i k → ⊥
not_resent h s i k T r =
    let e = only h k s _ _ T.1 r.2 in
    true≢false (sym T.2 ∙ ap takes e)

pub root_only : (h : History) (s : Side) (i j k : ℕ) → Root h s i k → Root h s j k → i ≡ j
root_only h s i j k R Q =
    elim R.1 [
      | inl e ↦ elim Q.1 [
        | inl f ↦ sym e ∙ f
        | inr r ↦ absurd (not_resent h s j k (subst (λ z. Taken h s z) (sym e) R.0) r)
      ]
      | inr q ↦ elim Q.1 [
        | inl f ↦ absurd (not_resent h s i k (subst (λ z. Taken h s z) (sym f) Q.0) q)
        | inr r ↦ let a = q.3.2 j r.3.0 r.3.1 in
            let b = r.3.2 i q.3.0 q.3.1 in
            omega arith
      ]
    ]

module _ (d : Deed) (h : History) (s : Side) where
  pub taken_old : (i : ℕ) → i < length h → Taken (d ∷ h) s i → Taken h s i
  taken_old i l T = (T.0, old d h i s _ l T.1, T.2)

  pub root_old : (i k : ℕ) → k < length h → Root (d ∷ h) s i k → Root h s i k
  root_old i k l R =
      let le = root_le (d ∷ h) s i k R in
      let il : i < length h = omega arith in
      (taken_old i il R.0, elim R.1 [ inl e ↦ inl e | inr r ↦ inr (resends_old d h s i k l r) ])

  pub root_up : (i k : ℕ) → Root h s i k → Root (d ∷ h) s i k
  root_up i k R = ((R.0.0, inr R.0.1, R.0.2), elim R.1 [ inl e ↦ inl e | inr r ↦ inr (resends_up d h s i k r) ])

  pub root_bound : (i k : ℕ) → Root h s i k → i < length h
  root_bound i k R = bound h i s _ R.0.1

-- what a datagram of s says, by the entry that numbered it
pub data Says (hear : Octets → Option Heard) (h : History) (s : Side) (i : ℕ) (d : Octets) (g : Heard) : Type 0 where
  says_send : (want : Bool) (t : ℕ) (b : Octets) → Does h i s (sends want t b d) → said_in b ≡ Ok g.hands → (g.hands ≡ [] → ⊥)
      → ((n : ℕ) → g.decides n ≡ Some acknowledged → ⊥) → g.asks ≡ want → Says hear h s i d g
  says_alive : (t : ℕ) → Does h i s (ticks t (kept_alive d)) → g.hands ≡ []
      → ((n : ℕ) → g.decides n ≡ Some acknowledged → ⊥) → g.asks ≡ false → Says hear h s i d g
  says_reply : (k : ℕ) (f : Bool) (ps : List Said) (o : Option Outcome) → Does h i s (arrives k f ps o (Some d))
      → (d' : Octets) (g' : Heard) → Wrote h k (other s) d' → hear d' ≡ Some g' → g.hands ≡ []
      → ((n : ℕ) → g.decides n ≡ Some acknowledged → (n ≡ g'.number) × (g'.asks ≡ true)) → g.asks ≡ false → Says hear h s i d g

pub wrote_up : (x : Deed) (h : History) (s : Side) (k : ℕ) (d : Octets) → Wrote h k s d → Wrote (x ∷ h) k s d
wrote_up x h s k d W = (W.0, inr W.1, W.2)

pub says_up : (hear : Octets → Option Heard) (x : Deed) (h : History) (s : Side) (i : ℕ) (d : Octets) (g : Heard) → Says hear h s i d g → Says hear (x ∷ h) s i d g
says_up hear x h s i d g (says_send want t b D e m n q) = says_send want t b (inr D) e m n q
says_up hear x h s i d g (says_alive t D m n q) = says_alive t (inr D) m n q
says_up hear x h s i d g (says_reply k f ps o D d' g' W r m n q) = says_reply k f ps o (inr D) d' g' (wrote_up x h (other s) k d' W) r m n q

-- the datagram of entry k: what it is heard as, its number, and the entry that numbered it
abbrev pub Known : (Octets → Option Heard) → ℕ → History → Side → ℕ → Octets → Type 0
Known hear start h s k d =
    (i : ℕ) × (g : Heard) × (hear d ≡ Some g) × (g.number ≡ num start (index h s i)) × Root h s i k × Says hear h s i d g

pub known_up : (hear : Octets → Option Heard) (start : ℕ) (x : Deed) (h : History) (s : Side) (k : ℕ) (d : Octets) → Known hear start h s k d → Known hear start (x ∷ h) s k d
known_up hear start x h s k d K = (
  K.0,
  K.1,
  K.2,
  K.3 ∙ ap (num start) (sym (index_old x h s K.0 (root_bound x h s K.0 k K.4))),
  root_up x h s K.0 k K.4,
  says_up hear x h s K.0 d K.1 K.5,
)

-- what holds of a sender s and of what the other end's book has seen of it: each datagram of s is known; the book keeps the indices found fresh;
-- an arrival was given a datagram of s, and hands out what that says if it is fresh; what arrived was found fresh once, then or earlier, and
-- arrived in time; and an Ack tells of an arrival that found the send fresh
pub record Pair (hear : Octets → Option Heard) (start depth : ℕ) (h : History) (s : Side) (z : Seen) : Type 0 where
  pub known : (k : ℕ) (d : Octets) → Wrote h k s d → Known hear start h s k d
  pub kept : Kept depth start (FoundFresh h s) z
  pub gives : (j k : ℕ) (f : Bool) (ps : List Said) (o : Option Outcome) (r : Option Octets) → Does h j (other s) (arrives k f ps o r)
      → (d : Octets) × (g : Heard) × Wrote h k s d × (hear d ≡ Some g) × (ps ≡ cond f g.hands []) × (k < j)
  pub earlier : (j i : ℕ) (f : Bool) → Got h s j i f → (j' : ℕ) × Got h s j' i true × (j' ≤ j)
  pub near : (j i : ℕ) (f : Bool) → Got h s j i f → index h s j ≤ index h s i + 8388608
  pub one : (i j k : ℕ) → Got h s j i true → Got h s k i true → j ≡ k
  pub after : (i k : ℕ) → Ends h s i k acknowledged → (j : ℕ) × Got h s j i true × (j < k)

-- the same of the newest entry
abbrev pub KnownNow : (Octets → Option Heard) → ℕ → Deed → History → Side → Type 0
KnownNow hear start x h s = (a : Act) (d : Octets) → Now x h s a → wrote a ≡ Some d → Known hear start (x ∷ h) s (length h) d

abbrev pub AfterNow : Deed → History → Side → Type 0
AfterNow x h s = (i : ℕ) → Ends (x ∷ h) s i (length h) acknowledged → (j : ℕ) × Got h s j i true

module _ (hear : Octets → Option Heard) (start depth : ℕ) (x : Deed) (h : History) (s : Side) (z : Seen) (P : Pair hear start depth h s z) where
  got_old : (j i : ℕ) (f : Bool) → j < length h → Got (x ∷ h) s j i f → Got h s j i f
  got_old j i f l G =
      let D = old x h j (other s) _ l G.4 in
      let k = (P.gives j G.0 f G.1 G.2 G.3 D).5 in
      let kl : G.0 < length h = omega arith in
      (G.0, G.1, G.2, G.3, D, root_old x h s i G.0 kl G.5)

  got_up : (j i : ℕ) (f : Bool) → Got h s j i f → Got (x ∷ h) s j i f
  got_up j i f G = (G.0, G.1, G.2, G.3, inr G.4, root_up x h s i G.0 G.5)

  got_bound : (j i : ℕ) (f : Bool) → Got h s j i f → j < length h
  got_bound j i f G = bound h j (other s) _ G.4

  got_index : (j i : ℕ) (f : Bool) → Got h s j i f → index (x ∷ h) s i ≡ index h s i
  got_index j i f G = index_old x h s i (root_bound x h s i G.0 G.5)

  fresh_up : (g : ℕ) → FoundFresh h s g → FoundFresh (x ∷ h) s g
  fresh_up g F = (F.0, F.1, got_up F.0 F.1 true F.2, F.3 ∙ sym (got_index F.0 F.1 true F.2))

  step_known : KnownNow hear start x h s → (k : ℕ) (d : Octets) → Wrote (x ∷ h) k s d → Known hear start (x ∷ h) s k d
  step_known new k d W =
      elim (at_bound h x k (bound (x ∷ h) k s _ W.1)) [
        | inl l ↦ known_up hear start x h s k d (P.known k d (W.0, old x h k s _ l W.1, W.2))
        | inr e ↦ subst (λ n. Known hear start (x ∷ h) s n d) (sym e) (new W.0 d (subst (λ n. Does (x ∷ h) n s W.0) e W.1) W.2)
      ]

  step_after : AfterNow x h s → (i k : ℕ) → Ends (x ∷ h) s i k acknowledged → (j : ℕ) × Got (x ∷ h) s j i true × (j < k)
  step_after new i k E =
      elim (at_bound h x k (ends_bound x h s (x ∷ h) i k acknowledged E)) [
        | inl l ↦ let r = P.after i k (ends_old x h s i k acknowledged l E) in (r.0, got_up r.0 i true r.1, r.2)
        | inr e ↦ let r = new i (subst (λ n. Ends (x ∷ h) s i n acknowledged) e E) in
            let b = got_bound r.0 i true r.1 in
            (r.0, got_up r.0 i true r.1, omega arith)
      ]

  -- nothing arrives at the other end
  module _ (none_here : (k : ℕ) (f : Bool) (ps : List Said) (o : Option Outcome) (r : Option Octets) → Now x h (other s) (arrives k f ps o r) → ⊥)
      (know : KnownNow hear start x h s) (aft : AfterNow x h s) where
    got_back : (j i : ℕ) (f : Bool) → Got (x ∷ h) s j i f → Got h s j i f
    got_back j i f G =
        elim (at_bound h x j (bound (x ∷ h) j (other s) _ G.4)) [
          | inl l ↦ got_old j i f l G
          | inr e ↦ absurd (none_here G.0 f G.1 G.2 G.3 (subst (λ n. Does (x ∷ h) n (other s) (arrives G.0 f G.1 G.2 G.3)) e G.4))
        ]

    fresh_back : (g : ℕ) → FoundFresh (x ∷ h) s g → FoundFresh h s g
    fresh_back g F = let G = got_back F.0 F.1 true F.2 in (F.0, F.1, G, F.3 ∙ got_index F.0 F.1 true G)

    pub pair_still : Pair hear start depth (x ∷ h) s z
    pair_still =
        record {
          known = step_known know;
          kept = kept_same depth start (FoundFresh h s) (FoundFresh (x ∷ h) s) fresh_up fresh_back z P.kept;
          gives = λ j k f ps o r D. elim (at_bound h x j (bound (x ∷ h) j (other s) _ D)) [
            | inl l ↦ let q = P.gives j k f ps o r (old x h j (other s) _ l D) in (q.0, q.1, wrote_up x h s k q.0 q.2, q.3, q.4, q.5)
            | inr e ↦ absurd (none_here k f ps o r (subst (λ n. Does (x ∷ h) n (other s) (arrives k f ps o r)) e D))
          ];
          earlier = λ j i f G. let q = P.earlier j i f (got_back j i f G) in (q.0, got_up q.0 i true q.1, q.2);
          near = λ j i f G. let G' = got_back j i f G in
              let q = P.near j i f G' in
              let e = got_index j i f G' in
              let e' = index_old x h s j (got_bound j i f G') in
              omega arith;
          one = λ i j k G G'. P.one i j k (got_back j i true G) (got_back k i true G');
          after = step_after aft;
        }

  -- an arrival at the other end
  module _ (k₀ : ℕ) (f₀ : Bool) (ps₀ : List Said) (o₀ : Option Outcome) (r₀ : Option Octets) (d₀ : Octets) (g₀ : Heard) (z' : Seen)
      (deep : 1 ≤ depth) (shallow : depth ≤ 4096)
      (now : Now x h (other s) (arrives k₀ f₀ ps₀ o₀ r₀)) (wrote₀ : Wrote h k₀ s d₀) (read₀ : hear d₀ ≡ Some g₀) (gave : ps₀ ≡ cond f₀ g₀.hands [])
      (judged : judged_at depth z g₀.number ≡ cond f₀ Fresh Again) (noting : z' ≡ noted_at depth z g₀.number)
      (i₀ : ℕ) (root₀ : Root h s i₀ k₀) (number₀ : g₀.number ≡ num start (index h s i₀))
      (timely : given h s ≤ index h s i₀ + 8388608) (close : Close depth start deep shallow (FoundFresh h s) (index h s i₀))
      (know : KnownNow hear start x h s) (aft : AfterNow x h s) where
    arr_act : (a : Act) → Now x h (other s) a → a ≡ arrives k₀ f₀ ps₀ o₀ r₀
    arr_act a N = (here x h (other s) a N).1 ∙ sym (here x h (other s) _ now).1

    k_bound : k₀ < length h
    k_bound = bound h k₀ s _ wrote₀.1

    from_act : (k : ℕ) (f : Bool) (ps : List Said) (o : Option Outcome) (r : Option Octets) → arrives k f ps o r ≡ arrives k₀ f₀ ps₀ o₀ r₀ → (k ≡ k₀) × (f ≡ f₀) × (ps ≡ ps₀)
    from_act k f ps o r e = (cc, cc, cc)

    got_cases : (j i : ℕ) (f : Bool) → Got (x ∷ h) s j i f → Got h s j i f ⊎ ((j ≡ length h) × (f ≡ f₀) × (i ≡ i₀))
    got_cases j i f G =
        elim (at_bound h x j (bound (x ∷ h) j (other s) _ G.4)) [
          | inl l ↦ inl (got_old j i f l G)
          | inr e ↦ let q = from_act G.0 f G.1 G.2 G.3 (arr_act _ (subst (λ n. Does (x ∷ h) n (other s) (arrives G.0 f G.1 G.2 G.3)) e G.4)) in
              let R : Root (x ∷ h) s i k₀ = subst (λ n. Root (x ∷ h) s i n) q.0 G.5 in
              inr (e, q.1, root_only h s i i₀ k₀ (root_old x h s i k₀ k_bound R) root₀)
        ]

    got_new : Got (x ∷ h) s (length h) i₀ f₀
    got_new = (k₀, ps₀, o₀, r₀, now, root_up x h s i₀ k₀ root₀)

    index₀ : index (x ∷ h) s i₀ ≡ index h s i₀
    index₀ = index_old x h s i₀ (root_bound x h s i₀ k₀ root₀)

    taken_eq : (j i : ℕ) → Got h s j i true → index h s i₀ ≡ index h s i → i₀ ≡ i
    taken_eq j i G e =
        index_inj h s i₀ i _ _ root₀.0.1 root₀.0.2 G.5.0.1 G.5.0.2 e

    -- of a Fresh one
    fresh_judged : f₀ ≡ true → judged_at depth z (num start (index h s i₀)) ≡ Fresh
    fresh_judged e = ap (judged_at depth z) (sym number₀) ∙ judged ∙ rw e

    again_judged : f₀ ≡ false → judged_at depth z (num start (index h s i₀)) ≡ Again
    again_judged e = ap (judged_at depth z) (sym number₀) ∙ judged ∙ rw e

    not_before : f₀ ≡ true → FoundFresh h s (index h s i₀) → ⊥
    not_before e F = kept_fresh depth start deep shallow (FoundFresh h s) z (index h s i₀) P.kept close (fresh_judged e) F

    fresh_now : f₀ ≡ true → FoundFresh (x ∷ h) s (index h s i₀)
    fresh_now e = (length h, i₀, subst (λ f. Got (x ∷ h) s (length h) i₀ f) e got_new, sym index₀)

    fresh_cases : (g : ℕ) → FoundFresh (x ∷ h) s g → FoundFresh h s g ⊎ ((g ≡ index h s i₀) × (true ≡ f₀))
    fresh_cases g F =
        elim (got_cases F.0 F.1 true F.2) [
          | inl G ↦ inl (F.0, F.1, G, F.3 ∙ got_index F.0 F.1 true G)
          | inr q ↦ inr (F.3 ∙ ap (index (x ∷ h) s) q.2 ∙ index₀, q.1)
        ]

    arr_kept : Kept depth start (FoundFresh (x ∷ h) s) z'
    arr_kept =
        elim (cases_Bool f₀) [
          | inl e ↦
              let q : z' ≡ noted_at depth z (num start (index h s i₀)) = noting ∙ ap (noted_at depth z) number₀ in
              subst (Kept depth start (FoundFresh (x ∷ h) s)) (sym q)
              (kept_note depth start deep shallow (FoundFresh h s) (FoundFresh (x ∷ h) s) (index h s i₀) fresh_up (fresh_now e)
              (λ g F. elim (fresh_cases g F) [ inl a ↦ inl a | inr b ↦ inr b.0 ]) z P.kept close (fresh_judged e))
          | inr e ↦
              let q : z' ≡ z = noting ∙ noted_again depth z g₀.number (judged ∙ (rw e)) in
              subst (Kept depth start (FoundFresh (x ∷ h) s)) (sym q)
              (kept_same depth start (FoundFresh h s) (FoundFresh (x ∷ h) s) fresh_up
              (λ g F. elim (fresh_cases g F) [ inl a ↦ a | inr b ↦ absurd (true≢false (b.1 ∙ e)) ]) z P.kept)
        ]

    -- the first time that it was accepted
    arr_first : (j' : ℕ) × Got (x ∷ h) s j' i₀ true × (j' ≤ length h)
    arr_first =
        elim (cases_Bool f₀) [
          | inl e ↦ (length h, subst (λ f. Got (x ∷ h) s (length h) i₀ f) e got_new, omega arith)
          | inr e ↦ let F = kept_again depth start deep shallow (FoundFresh h s) z (index h s i₀) P.kept close (again_judged e) in
              let q = taken_eq F.0 F.1 F.2 F.3 in
              let b = got_bound F.0 F.1 true F.2 in
              (F.0, subst (λ n. Got (x ∷ h) s F.0 n true) (sym q) (got_up F.0 F.1 true F.2), omega arith)
        ]

    never_twice : (i j : ℕ) → Got h s j i true → true ≡ f₀ → i ≡ i₀ → ⊥
    never_twice i j G e q = not_before (sym e) (j, i, G, ap (index h s) (sym q))

    pub pair_arrival : Pair hear start depth (x ∷ h) s z'
    pair_arrival =
        record {
          known = step_known know;
          kept = arr_kept;
          gives = λ j k f ps o r D. elim (at_bound h x j (bound (x ∷ h) j (other s) _ D)) [
            | inl l ↦ let q = P.gives j k f ps o r (old x h j (other s) _ l D) in (q.0, q.1, wrote_up x h s k q.0 q.2, q.3, q.4, q.5)
            | inr e ↦ let q = from_act k f ps o r (arr_act _ (subst (λ n. Does (x ∷ h) n (other s) (arrives k f ps o r)) e D)) in
                let q0 = q.0 in
                let q1 = q.1 in
                let q2 = q.2 in
                let kb = k_bound in (
                  d₀,
                  g₀,
                  subst (λ n. Wrote (x ∷ h) n s d₀) (sym q0) (wrote_up x h s k₀ d₀ wrote₀),
                  read₀,
                  q2 ∙ gave ∙ ap (λ b. cond b g₀.hands []) (sym q1),
                  omega arith,
                )
          ];
          earlier = λ j i f G. elim (got_cases j i f G) [
            | inl G' ↦ let q = P.earlier j i f G' in (q.0, got_up q.0 i true q.1, q.2)
            | inr q ↦ let a = arr_first in
                let q0 = q.0 in
                let a2 = a.2 in
                (a.0, subst (λ n. Got (x ∷ h) s a.0 n true) (sym q.2) a.1, omega arith)
          ];
          near = λ j i f G. elim (got_cases j i f G) [
            | inl G' ↦ let q = P.near j i f G' in
                let e = got_index j i f G' in
                let e' = index_old x h s j (got_bound j i f G') in
                omega arith
            | inr q ↦ let q0 = q.0 in
                let e = ap (index (x ∷ h) s) q.2 ∙ index₀ in
                let e' = index_here x h s j (omega arith) in
                omega arith
          ];
          one = λ i j k G G'. elim (got_cases j i true G) [
            | inl A ↦ elim (got_cases k i true G') [
              | inl B ↦ P.one i j k A B
              | inr b ↦ absurd (never_twice i j A b.1 b.2)
            ]
            | inr a ↦ elim (got_cases k i true G') [
              | inl B ↦ absurd (never_twice i k B a.1 a.2)
              | inr b ↦ a.0 ∙ sym b.0
            ]
          ];
          after = step_after aft;
        }
