-- Both ends, and one change more.
use Rattle.std.proofs.Common.{◌≡◌, ℕ, ◌+◌, ◌%◌, ◌<◌, ◌≤◌, Bool, true, false, cond, ◌⊎◌, List, [], ◌∷◌, length, Some, None, Option, sym, refl, ap, ◌∙◌, subst, inl, inr, arith}
use Rattle.std.proofs.lemmas.Bool.{cases_Bool, true≢false, false≢true}
use Rattle.arrivals.specs.Meaning.{Seen}
use Rattle.trunk.specs.Acts.{Octets, Said, Outcome, acknowledged, unanswered, Side, left, right, other, same, Ticked, gave_up, kept_alive, let_be, Act, aside, sends, ticks, arrives, Deed, History, Does, wrote, Wrote, Asks, Belongs, Ends, by_tick, by_arrival}
use Rattle.trunk.specs.Timely.{takes, given, index, Root, Got, TimelyFrom, Timely}
use Rattle.trunk.proofs.Past.{bound, here, asks_old, index_old, index_here, index_lt, index_mono, index_inj, same_refl}
use Rattle.trunk.specs.Changes.{Waiting, Pace, Heard, settles, keep_unless, Carries, Bare, Nothing, TimelyAct, View, bump, Goes, goes_aside, goes_telling, goes_asking, goes_resending, goes_giving_up, goes_waiting, goes_arriving}
use Rattle.trunk.proofs.Alone.{Now, Live, Alone, the_live, is_ask, is_resend, is_end, is_tick, none_some, stay, asked_so, resent_so, ended_so}
use Rattle.trunk.proofs.Remembered.{num, num_next, num_inj}
use Rattle.trunk.proofs.Pair.{root_only, Says, says_send, says_alive, says_reply, wrote_up, Known, Pair, KnownNow, AfterNow, pair_still, pair_arrival, says_up}

-- an arrival settles nothing, or what waits
pub settles_cases : (f : Bool) (o : Option Waiting) (g : Heard)
    → (settles f o g ≡ None) ⊎ ((m : Waiting) × (q : Outcome) × (o ≡ Some m) × (f ≡ true) × (g.decides m.number ≡ Some q) × (settles f o g ≡ Some q))
settles_cases f None g = inl refl
settles_cases false (Some m) g = inl refl
settles_cases true (Some m) g = go (g.decides m.number) refl
  where
    go : (r : Option Outcome) → g.decides m.number ≡ r
        → (g.decides m.number ≡ None) ⊎ ((m' : Waiting) × (q : Outcome) × (Some m ≡ Some m') × (true ≡ true) × (g.decides m'.number ≡ Some q) × (g.decides m.number ≡ Some q))
    go None e = inl e
    go (Some q) e = inr (m, q, refl, refl, e, e)

abbrev pub is_arrival : Act → Bool
is_arrival (aside b) = false
is_arrival (sends w t b d) = false
is_arrival (ticks t x) = false
is_arrival (arrives k f ps o r) = true

abbrev pub is_send : Act → Bool
is_send (aside b) = false
is_send (sends w t b d) = true
is_send (ticks t x) = false
is_send (arrives k f ps o r) = false

pub other_other : (s : Side) → other (other s) ≡ s
other_other left = refl
other_other right = refl

abbrev pub is_left : Side → Bool
is_left left = true
is_left right = false

pub not_other : (s : Side) → s ≡ other s → ⊥
not_other left e = true≢false (ap is_left e)
not_other right e = false≢true (ap is_left e)

pub not_same : (s : Side) → same (other s) s ≡ false
not_same left = refl
not_same right = refl

-- what waits is heard under its number
abbrev pub Marked : (Octets → Option Heard) → Option Waiting → Type 0
Marked hear o = (m : Waiting) → o ≡ Some m → (g : Heard) × (hear m.octets ≡ Some g) × (g.number ≡ m.number)

-- what an Ack came from
says_ack : (hear : Octets → Option Heard) (h : History) (s : Side) (r n : ℕ) (d : Octets) (g : Heard) → Says hear h s r d g → g.decides n ≡ Some acknowledged
    → (k : ℕ) × (f : Bool) × (ps : List Said) × (o : Option Outcome) × (d' : Octets) × (g' : Heard)
    × Does h r s (arrives k f ps o (Some d)) × Wrote h k (other s) d' × (hear d' ≡ Some g') × (n ≡ g'.number) × (g'.asks ≡ true)
says_ack hear h s r n d g (says_send want t b D e m nay q) x = absurd (nay n x)
says_ack hear h s r n d g (says_alive t D m nay q) x = absurd (nay n x)
says_ack hear h s r n d g (says_reply k f ps o D d' g' W rd m c q) x = (k, f, ps, o, d', g', D, W, rd, (c n x).0, (c n x).1)

-- a datagram that wants an Ack is a send's
says_asks : (hear : Octets → Option Heard) (h : History) (s : Side) (i : ℕ) (d : Octets) (g : Heard) → Says hear h s i d g → g.asks ≡ true → Asks h s i
says_asks hear h s i d g (says_send want t b D e m nay q) x = (t, b, d, subst (λ u. Does h i s (sends u t b d)) (sym q ∙ x) D)
says_asks hear h s i d g (says_alive t D m nay q) x = absurd (false≢true (sym q ∙ x))
says_asks hear h s i d g (says_reply k f ps o D d' g' W rd m c q) x = absurd (false≢true (sym q ∙ x))

pub heard_same : {A : Type 0} (r : Option A) (a b : A) → r ≡ Some a → r ≡ Some b → a ≡ b
heard_same r a b p q = cc

module _ (hear : Octets → Option Heard) (τ : Pace) (one : 1 ≤ τ.tries) (ordered : τ.first ≤ τ.later) where
  module _ (depth : ℕ) (h : History) (y : Side) (a : Act) (v v' : View) where
    abbrev X : Deed
    X = record { side = y; act = a }

    now : Now X h y a
    now = inl (refl, refl, refl)

    kind : (f : Act → Bool) (a₀ : Act) → a ≡ a₀ → f a₀ ≡ false → (b : Act) → Now X h y b → f b ≡ false
    kind f a₀ e q b N = ap f ((here X h y b N).1 ∙ e) ∙ q

    no_tick : (a₀ : Act) → a ≡ a₀ → is_tick a₀ ≡ false → (l : ℕ) (o : Option Waiting) (t : ℕ) (x : Ticked) → Now X h y (ticks t x) → (l ≤ t) × ((m : Waiting) → o ≡ Some m → t < m.due)
    no_tick a₀ e q l o t x N = absurd (true≢false (kind is_tick a₀ e q _ N))

    out_is : (o o' : Option Waiting) → o' ≡ o → Alone τ (X ∷ h) y v'.latest o → Alone τ (X ∷ h) y v'.latest o'
    out_is o o' e A = subst (λ z. Alone τ (X ∷ h) y v'.latest z) (sym e) A

    ending_arrival : (k : ℕ) (f : Bool) (ps : List Said) (r : Option Octets) (q : Outcome) → a ≡ arrives k f ps (Some q) r
        → (i : ℕ) → Belongs (X ∷ h) y i (length h) → Ends (X ∷ h) y i (length h) q
    ending_arrival k f ps r q e i B = by_arrival k f ps r (inl (refl, refl, sym e)) B

    ended_arrival : (k : ℕ) (f : Bool) (ps : List Said) (r : Option Octets) (q : Outcome) → a ≡ arrives k f ps (Some q) r
        → (i : ℕ) (p : Outcome) → Ends (X ∷ h) y i (length h) p → (p ≡ q) × Belongs (X ∷ h) y i (length h)
    ended_arrival k f ps r q e i p (by_tick t D z B) = absurd (true≢false (kind is_tick _ e refl _ D))
    ended_arrival k f ps r q e i p (by_arrival k' f' ps' r' D B) = let z = (here X h y _ D).1 ∙ e in (cc, B)

    ended_tick : (t : ℕ) → a ≡ ticks t gave_up → (i : ℕ) (p : Outcome) → Ends (X ∷ h) y i (length h) p → (p ≡ unanswered) × Belongs (X ∷ h) y i (length h)
    ended_tick t e i p (by_tick t' D z B) = (z, B)
    ended_tick t e i p (by_arrival k' f' ps' r' D B) = absurd (true≢false (kind is_arrival _ e refl _ D))

    alone_arrive : (k : ℕ) (f : Bool) (g : Heard) (qs : List Said) (r : Option Octets) → a ≡ arrives k f qs (settles f v.out g) r
        → v'.out ≡ keep_unless (settles f v.out g) v.out → v.latest ≤ v'.latest
        → Alone τ h y v.latest v.out → Alone τ (X ∷ h) y v'.latest v'.out
    alone_arrive k f g qs r e o l A =
        elim (settles_cases f v.out g) [
          | inl z ↦ let e' = e ∙ ap (λ q. arrives k f qs q r) z in
              out_is v.out v'.out (o ∙ ap (λ q. keep_unless q v.out) z)
              (stay τ X h y v.latest v'.latest v.out l one
              (kind is_ask _ e' refl) (kind is_resend _ e' refl) (kind is_end _ e' refl) (no_tick _ e' refl v.latest v.out) A)
          | inr z ↦ let e' = e ∙ ap (λ q. arrives k f qs q r) z.5 in
              ended_so τ X h y v.latest v'.latest z.0 v.out v'.out z.1 l one z.2 (o ∙ ap (λ q. keep_unless q v.out) z.5)
              (kind is_ask _ e' refl) (kind is_resend _ e' refl) (ending_arrival k f qs r z.1 e') (ended_arrival k f qs r z.1 e') A
        ]

    wait_tick : (t : ℕ) (x : Ticked) → a ≡ ticks t x → v.latest ≤ t → ((m : Waiting) → v.out ≡ Some m → t < m.due)
        → (u : ℕ) (z : Ticked) → Now X h y (ticks u z) → (v.latest ≤ u) × ((m : Waiting) → v.out ≡ Some m → u < m.due)
    wait_tick t x e l f u z N =
        let q : u ≡ t = (let n = (here X h y _ N).1 ∙ e in cc) in
        (omega arith, λ m p. let r = f m p in omega arith)

    alone_own : Goes hear τ depth h y v a v' → Alone τ h y v.latest v.out → Alone τ (X ∷ h) y v'.latest v'.out
    alone_own (goes_aside b e o z n l) A =
        out_is v.out v'.out o
        (stay τ X h y v.latest v'.latest v.out l one
        (kind is_ask _ e refl) (kind is_resend _ e refl) (kind is_end _ e refl) (no_tick _ e refl v.latest v.out) A)
    alone_own (goes_telling t b d₀ e C o z n l) A =
        out_is v.out v'.out o
        (stay τ X h y v.latest v'.latest v.out l one
        (kind is_ask _ e refl) (kind is_resend _ e refl) (kind is_end _ e refl) (no_tick _ e refl v.latest v.out) A)
    alone_own (goes_asking t b d₀ e C was o z n l lt) A =
        subst (λ u. Alone τ (X ∷ h) y u v'.out) (sym lt)
        (asked_so τ X h y v.latest t b
        (record { number = v.next; times = 1; due = t + τ.first; octets = d₀ })
        v.out v'.out l one ordered refl (sym e) was o refl refl A)
    alone_own (goes_resending t m e was due few o z n l lt) A =
        subst (λ u. Alone τ (X ∷ h) y u v'.out) (sym lt)
        (resent_so τ X h y v.latest t m
        (record { number = m.number; times = m.times + 1; due = t + τ.later; octets = m.octets })
        v.out v'.out l one (sym e) was o few refl refl refl A)
    alone_own (goes_giving_up t m e was o z n l) A =
        ended_so τ X h y v.latest v'.latest m v.out v'.out unanswered l one was o
        (kind is_ask _ e refl) (kind is_resend _ e refl) (λ i B. by_tick t (inl (refl, refl, sym e)) refl B) (ended_tick t e) A
    alone_own (goes_waiting t b x e k f o z n l lt) A =
        out_is v.out v'.out o
        (stay τ X h y v.latest v'.latest v.out (omega arith) one
        (kind is_ask _ e refl) (kind is_resend _ e (wait_kind is_resend refl (λ d. refl) x k)) (kind is_end _ e (wait_kind is_end refl (λ d. refl) x k)) (wait_tick t x e l f) A)
      where
        wait_kind : (p : Act → Bool) → p (ticks t let_be) ≡ false → ((d : Octets) → p (ticks t (kept_alive d)) ≡ false)
            → (x : Ticked) → ((b ≡ false) × (x ≡ let_be)) ⊎ ((b ≡ true) × (d : Octets) × (x ≡ kept_alive d) × Bare hear d v.next Nothing) → p (ticks t x) ≡ false
        wait_kind p q r x (inl c) = ap (λ u. p (ticks t u)) c.1 ∙ q
        wait_kind p q r x (inr c) = ap (λ u. p (ticks t u)) c.2 ∙ r c.1
    alone_own (goes_arriving k d g f r b e W rd j o z rr n l) A = alone_arrive k f g (cond f g.hands []) r e o l A

    -- the number that it took
    takes_own : Goes hear τ depth h y v a v' → v'.next ≡ bump (takes a) v.next
    takes_own (goes_aside b e o z n l) = n ∙ ap (λ q. bump (takes q) v.next) (sym e)
    takes_own (goes_telling t b d₀ e C o z n l) = n ∙ ap (λ q. bump (takes q) v.next) (sym e)
    takes_own (goes_asking t b d₀ e C was o z n l lt) = n ∙ ap (λ q. bump (takes q) v.next) (sym e)
    takes_own (goes_resending t m e was due few o z n l lt) = n ∙ ap (λ q. bump (takes q) v.next) (sym e)
    takes_own (goes_giving_up t m e was o z n l) = n ∙ ap (λ q. bump (takes q) v.next) (sym e)
    takes_own (goes_waiting t b x e (inl k) f o z n l lt) =
        n ∙ ap (λ q. bump q v.next) k.0 ∙ ap (λ q. bump (takes q) v.next) (sym (e ∙ ap (ticks t) k.1))
    takes_own (goes_waiting t b x e (inr k) f o z n l lt) =
        n ∙ ap (λ q. bump q v.next) k.0 ∙ ap (λ q. bump (takes q) v.next) (sym (e ∙ ap (ticks t) k.2))
    takes_own (goes_arriving k d g f r b e W rd j o z (inl c) n l) =
        n ∙ ap (λ q. bump q v.next) c.0 ∙ ap (λ q. bump (takes q) v.next) (sym (e ∙ ap (arrives k f (cond f g.hands []) (settles f v.out g)) c.1))
    takes_own (goes_arriving k d g f r b e W rd j o z (inr c) n l) =
        n ∙ ap (λ q. bump q v.next) c.0 ∙ ap (λ q. bump (takes q) v.next) (sym (e ∙ ap (arrives k f (cond f g.hands []) (settles f v.out g)) c.2))

    numbers_own : (start : ℕ) → Goes hear τ depth h y v a v' → v.next ≡ num start (given h y) → v'.next ≡ num start (given (X ∷ h) y)
    numbers_own start G e =
        elim (cases_Bool (takes a)) [
          | inl q ↦ takes_own G ∙ ap (λ b. bump b v.next) q ∙ ap (λ n. (n + 1) % 16777216) e ∙ num_next start (given h y)
              ∙ ap (num start) (sym (rw (same_refl y, q)))
          | inr q ↦ takes_own G ∙ ap (λ b. bump b v.next) q ∙ e ∙ ap (num start) (let z : given (X ∷ h) y ≡ given h y + 0 = rw (same_refl y, q) in omega arith)
        ]

    marked_arrive : (q : Option Outcome) → v'.out ≡ keep_unless q v.out → Marked hear v.out → Marked hear v'.out
    marked_arrive None e M m p = M m (sym e ∙ p)
    marked_arrive (Some o) e M m p = absurd (none_some v'.out m e p)

    marked_own : Goes hear τ depth h y v a v' → Marked hear v.out → Marked hear v'.out
    marked_own (goes_aside b e o z n l) M m p = M m (sym o ∙ p)
    marked_own (goes_telling t b d₀ e C o z n l) M m p = M m (sym o ∙ p)
    marked_own (goes_asking t b d₀ e C was o z n l l') M m p =
        let m₀ : Waiting = record { number = v.next; times = 1; due = t + τ.first; octets = d₀ } in
        let q : m₀ ≡ m = cc in
        subst (λ k. (g : Heard) × (hear k.octets ≡ Some g) × (g.number ≡ k.number)) q
        (C.heard, C.numbered.reads, C.numbered.number)
    marked_own (goes_resending t m₁ e was due few o z n l l') M m p =
        let m₀ : Waiting = record { number = m₁.number; times = m₁.times + 1; due = t + τ.later; octets = m₁.octets } in
        let q : m₀ ≡ m = cc in
        subst (λ k. (g : Heard) × (hear k.octets ≡ Some g) × (g.number ≡ k.number)) q (M m₁ was)
    marked_own (goes_giving_up t m₁ e was o z n l) M m p = absurd (none_some v'.out m o p)
    marked_own (goes_waiting t b x e k f o z n l l') M m p = M m (sym o ∙ p)
    marked_own (goes_arriving k d g f r b e W rd j o z c n l) M m p = marked_arrive (settles f v.out g) o M m p

    live_belongs : (l i : ℕ) (m : Waiting) → Live τ h y l m i → Belongs (X ∷ h) y i (length h)
    live_belongs l i m L = (
      (L.asked.0, L.asked.1, m.octets, inr L.asked.2),
      bound h i y _ L.asked.2,
      λ j x lt. L.newest j (asks_old X h y j lt x),
    )

    -- what y writes for the other end is known
    module _ (start : ℕ) (counted : v.next ≡ num start (given h y)) where
      here_number : v.next ≡ num start (index (X ∷ h) y (length h))
      here_number = counted ∙ ap (num start) (sym (index_here X h y (length h) (omega arith)))

      new_root : takes a ≡ true → Root (X ∷ h) y (length h) (length h)
      new_root e = ((a, now, e), inl refl)

      know_send : (want : Bool) (t : ℕ) (b d : Octets) → a ≡ sends want t b d → Carries hear d v.next want b → Known hear start (X ∷ h) y (length h) d
      know_send want t b d e C = (
        length h,
        C.heard,
        C.numbered.reads,
        C.numbered.number ∙ here_number,
        new_root (ap takes e),
        says_send want t b (inl (refl, refl, sym e)) C.hands C.some C.numbered.acknowledges C.asks,
      )

      wrote_is : (a₀ b : Act) (d₀ d : Octets) → a ≡ a₀ → wrote a₀ ≡ Some d₀ → Now X h y b → wrote b ≡ Some d → d₀ ≡ d
      wrote_is a₀ b d₀ d e p N q =
          let z : wrote b ≡ wrote a₀ = ap wrote ((here X h y b N).1 ∙ e) in cc

      wrote_not : (a₀ b : Act) (d : Octets) → a ≡ a₀ → wrote a₀ ≡ None → Now X h y b → wrote b ≡ Some d → ⊥
      wrote_not a₀ b d e p N q = none_some (wrote b) d (ap wrote ((here X h y b N).1 ∙ e) ∙ p) q

      known_is : (d₀ d : Octets) → d₀ ≡ d → Known hear start (X ∷ h) y (length h) d₀ → Known hear start (X ∷ h) y (length h) d
      known_is d₀ d e K = subst (λ u. Known hear start (X ∷ h) y (length h) u) e K

      know_own : (depth' : ℕ) (z : Seen) → Goes hear τ depth h y v a v' → Alone τ h y v.latest v.out → Pair hear start depth' h y z → KnownNow hear start X h y
      know_own D Z (goes_aside b e o z n l) A P b' d N q = absurd (wrote_not _ b' d e refl N q)
      know_own D Z (goes_telling t b d₀ e C o z n l) A P b' d N q =
          known_is _ d (wrote_is _ b' _ d e refl N q) (know_send false t b d₀ e C)
      know_own D Z (goes_asking t b d₀ e C was o z n l lt) A P b' d N q =
          known_is _ d (wrote_is _ b' _ d e refl N q) (know_send true t b d₀ e C)
      know_own D Z (goes_resending t m e was due few o z n l lt) A P b' d N q =
          let L = A.live m was in
          let sd = L.1.asked in
          let K = P.known L.0 m.octets (sends true sd.0 sd.1 m.octets, sd.2, refl) in
          let il = bound h L.0 y _ sd.2 in
          let i : K.0 ≡ L.0 = root_only h y K.0 L.0 L.0 K.4 ((sends true sd.0 sd.1 m.octets, sd.2, refl), inl refl) in
          known_is _ d (wrote_is _ b' _ d e refl N q) (
            L.0,
            K.1,
            K.2,
            K.3 ∙ ap (λ u. num start (index h y u)) i ∙ ap (num start) (sym (index_old X h y L.0 il)),
            ((sends true sd.0 sd.1 m.octets, inr sd.2, refl), inr (t, m.octets, inl (refl, refl, sym e), live_belongs v.latest L.0 m L.1)),
            says_up hear X h y L.0 m.octets K.1 (subst (λ u. Says hear h y u m.octets K.1) i K.5),
          )
      know_own D Z (goes_giving_up t m e was o z n l) A P b' d N q = absurd (wrote_not _ b' d e refl N q)
      know_own D Z (goes_waiting t b x e (inl k) f o z n l lt) A P b' d N q =
          absurd (wrote_not (ticks t let_be) b' d (e ∙ ap (ticks t) k.1) refl N q)
      know_own D Z (goes_waiting t b x e (inr k) f o z n l lt) A P b' d N q =
          let e' = e ∙ ap (ticks t) k.2 in
          let B = k.3 in
          known_is _ d (wrote_is _ b' _ d e' refl N q) (
            length h,
            B.heard,
            B.numbered.reads,
            B.numbered.number ∙ here_number,
            new_root (ap takes e'),
            says_alive t (inl (refl, refl, sym e')) B.hands B.numbered.acknowledges B.asks,
          )
      know_own D Z (goes_arriving k d₀ g f r b e W rd j o z (inl c) n l) A P b' d N q =
          absurd (wrote_not (arrives k f (cond f g.hands []) (settles f v.out g) None) b' d (e ∙ ap (arrives k f (cond f g.hands []) (settles f v.out g)) c.1) refl N q)
      know_own D Z (goes_arriving k d₀ g f r b e W rd j o z (inr c) n l) A P b' d N q =
          let e' = e ∙ ap (arrives k f (cond f g.hands []) (settles f v.out g)) c.2 in
          let B = c.3 in
          known_is _ d (wrote_is _ b' _ d e' refl N q) (
            length h,
            B.heard,
            B.numbered.reads,
            B.numbered.number ∙ here_number,
            new_root (ap takes e'),
            says_reply k f (cond f g.hands []) (settles f v.out g) (inl (refl, refl, sym e')) d₀ g (wrote_up X h (other y) k d₀ W) rd B.hands B.numbered.acknowledges B.asks,
          )

      -- an Ack comes after the handing out
      module _ (start' depth₁ depth₂ : ℕ) (z₁ z₂ : Seen) (A : Alone τ h y v.latest v.out) (M : Marked hear v.out)
          (P : Pair hear start depth₁ h y z₁) (Q : Pair hear start' depth₂ h (other y) z₂)
          (timely : TimelyAct h y a) where
        acked : (k : ℕ) (d : Octets) (g : Heard) (m : Waiting) → Timely h y k → Wrote h k (other y) d → hear d ≡ Some g → v.out ≡ Some m
            → g.decides m.number ≡ Some acknowledged
            → (i : ℕ) → Belongs (X ∷ h) y i (length h) → (j : ℕ) × Got h y j i true
        acked k d g m T W rd o dec i B =
            let K = Q.known k d W in
            let g≡ = heard_same (hear d) K.1 g K.2 rd in
            let S = says_ack hear h (other y) K.0 m.number d K.1 K.5 (ap (λ u. u.decides m.number) g≡ ∙ dec) in
            let W₂ : Wrote h S.0 y S.4 = subst (λ u. Wrote h S.0 u S.4) (other_other y) S.7 in
            let K₂ = P.known S.0 S.4 W₂ in
            let g₂ = heard_same (hear S.4) K₂.1 S.5 K₂.2 S.8 in
            let asks₂ : Asks h y K₂.0 = says_asks hear h y K₂.0 S.4 K₂.1 K₂.5 (ap (λ u. u.asks) g₂ ∙ S.10) in
            let L = A.live m o in
            let sd = L.1.asked in
            let le = L.1.newest K₂.0 asks₂ in
            let K₃ = P.known L.0 m.octets (sends true sd.0 sd.1 m.octets, sd.2, refl) in
            let i₃ : K₃.0 ≡ L.0 = root_only h y K₃.0 L.0 L.0 K₃.4 ((sends true sd.0 sd.1 m.octets, sd.2, refl), inl refl) in
            let mk = M m o in
            let g₃ = heard_same (hear m.octets) K₃.1 mk.0 K₃.2 mk.1 in
            let n₃ : m.number ≡ num start (index h y L.0) =
            sym mk.2 ∙ ap (λ u. u.number) (sym g₃) ∙ K₃.3 ∙ ap (λ u. num start (index h y u)) i₃ in
            let n₂ : m.number ≡ num start (index h y K₂.0) = S.9 ∙ ap (λ u. u.number) (sym g₂) ∙ K₂.3 in
            let got : Got h y K.0 K₂.0 S.1 = (S.0, S.2, S.3, Some d, S.6, K₂.4) in
            let near = P.near K.0 K₂.0 S.1 got in
            let back = (T K.0 K.4).2 in
            let mono = index_mono h y K₂.0 L.0 le in
            let lt = index_lt h y L.0 _ sd.2 refl in
            let same_index : index h y K₂.0 ≡ index h y L.0 = num_inj start (index h y K₂.0) (index h y L.0) mono (omega arith) (sym n₂ ∙ n₃) in
            let same-send : K₂.0 ≡ L.0 = index_inj h y K₂.0 L.0 _ _ K₂.4.0.1 K₂.4.0.2 sd.2 refl same_index in
            let il : i ≡ L.0 = the_live τ X h y v.latest m L.0 i L.1 B in
            let sn = P.earlier K.0 K₂.0 S.1 got in
            (sn.0, subst (λ u. Got h y sn.0 u true) (same-send ∙ sym il) sn.1)

        after_arrival : (k : ℕ) (f : Bool) (d : Octets) (g : Heard) (qs : List Said) (r : Option Octets) → a ≡ arrives k f qs (settles f v.out g) r
            → Wrote h k (other y) d → hear d ≡ Some g → (i : ℕ) → Ends (X ∷ h) y i (length h) acknowledged → (j : ℕ) × Got h y j i true
        after_arrival k f d g qs r e W rd i (by_tick t D z B) = let u : ◌≡◌ {A = ℕ} 0 1 = cc in absurd (omega arith)
        after_arrival k f d g qs r e W rd i (by_arrival k' f' ps' r' D B) =
            let z = (here X h y _ D).1 ∙ e in
            let z' : Some acknowledged ≡ settles f v.out g = cc in
            elim (settles_cases f v.out g) [
              | inl c ↦ absurd (none_some (settles f v.out g) acknowledged c (sym z'))
              | inr c ↦ let c5 = c.5 in
                  let q : c.1 ≡ acknowledged = cc in
                  acked k d g c.0 (timely k f qs (settles f v.out g) r e) W rd c.2 (c.4 ∙ ap Some q) i B
            ]

        not_arrived : (a₀ : Act) → a ≡ a₀ → is_arrival a₀ ≡ false → AfterNow X h y
        not_arrived a₀ e q i (by_tick t D z B) = let u : ◌≡◌ {A = ℕ} 0 1 = cc in absurd (omega arith)
        not_arrived a₀ e q i (by_arrival k' f' ps' r' D B) = absurd (true≢false (kind is_arrival a₀ e q _ D))

        after_own : Goes hear τ depth h y v a v' → AfterNow X h y
        after_own (goes_aside b e o z n l) = not_arrived _ e refl
        after_own (goes_telling t b d₀ e C o z n l) = not_arrived _ e refl
        after_own (goes_asking t b d₀ e C was o z n l lt) = not_arrived _ e refl
        after_own (goes_resending t m e was due few o z n l lt) = not_arrived _ e refl
        after_own (goes_giving_up t m e was o z n l) = not_arrived _ e refl
        after_own (goes_waiting t b x e k f o z n l lt) = not_arrived _ e refl
        after_own (goes_arriving k d g f r b e W rd j o z c n l) = after_arrival k f d g (cond f g.hands []) r e W rd

    -- the end y as the sender
    pair_own : (start depth₁ : ℕ) (z : Seen) → Pair hear start depth₁ h y z → KnownNow hear start X h y → AfterNow X h y → Pair hear start depth₁ (X ∷ h) y z
    pair_own start depth₁ z P K A =
        pair_still hear start depth₁ X h y z P (λ k f ps o r N. not_other y (sym (here X h (other y) _ N).0)) K A

    -- the end y as the receiver of s
    module _ (s : Side) (is : other s ≡ y) (is' : other y ≡ s) (start : ℕ) (deep : 1 ≤ depth) (shallow : depth ≤ 4096)
        (P : Pair hear start depth h s v.seen)
        (timely : TimelyAct h y a) where
      not_s : (b : Act) → Now X h s b → ⊥
      not_s b N = not_other s ((here X h s b N).0 ∙ sym is)

      recv_know : KnownNow hear start X h s
      recv_know b d N q = absurd (not_s b N)

      recv_after : AfterNow X h s
      recv_after i (by_tick t D z B) = absurd (not_s _ D)
      recv_after i (by_arrival k f ps r D B) = absurd (not_s _ D)

      recv_still : (a₀ : Act) → a ≡ a₀ → is_arrival a₀ ≡ false → v'.seen ≡ v.seen → Pair hear start depth (X ∷ h) s v'.seen
      recv_still a₀ e q z =
          subst (λ u. Pair hear start depth (X ∷ h) s u) (sym z)
          (pair_still hear start depth X h s v.seen P (λ k f ps o r N. true≢false (ap is_arrival ((here X h (other s) _ N).1 ∙ e) ∙ q)) recv_know recv_after)

      recv : Goes hear τ depth h y v a v' → Pair hear start depth (X ∷ h) s v'.seen
      recv (goes_aside b e o z n l) = recv_still _ e refl z
      recv (goes_telling t b d₀ e C o z n l) = recv_still _ e refl z
      recv (goes_asking t b d₀ e C was o z n l lt) = recv_still _ e refl z
      recv (goes_resending t m e was due few o z n l lt) = recv_still _ e refl z
      recv (goes_giving_up t m e was o z n l) = recv_still _ e refl z
      recv (goes_waiting t b x e k f o z n l lt) = recv_still _ e refl z
      recv (goes_arriving k d g f r b e W rd j o z c n l) =
          let W' : Wrote h k s d = subst (λ u. Wrote h k u d) is' W in
          let K = P.known k d W' in
          let g≡ = heard_same (hear d) K.1 g K.2 rd in
          let T : TimelyFrom h s y k = subst (λ u. TimelyFrom h u y k) is' (timely k f _ _ r e) in
          let t = T K.0 K.4 in
          pair_arrival hear start depth X h s v.seen P k f (cond f g.hands []) (settles f v.out g) r d g v'.seen deep shallow
          (inl (refl, is, sym e)) W' rd refl j z K.0 K.4 (ap (λ u. u.number) (sym g≡) ∙ K.3) t.0
          (λ H F new. let t1 = t.1 H F new in
          let t0 = t.0 in
          let gi = index_lt h s K.0 _ K.4.0.1 K.4.0.2 in
          let F3 = F.3 in
          let hi = index_lt h s F.1 _ F.2.5.0.1 F.2.5.0.2 in
          (omega arith, omega arith))
          recv_know recv_after

    alone_other : (l : ℕ) (o : Option Waiting) → Alone τ h (other y) l o → Alone τ (X ∷ h) (other y) l o
    alone_other l o A =
        let vac : (b : Act) → Now X h (other y) b → ⊥ = λ b N. not_other y (sym (here X h (other y) b N).0) in
        stay τ X h (other y) l l o (omega arith) one (λ b N. absurd (vac b N)) (λ b N. absurd (vac b N)) (λ b N. absurd (vac b N)) (λ t x N. absurd (vac _ N)) A

    given_other : given (X ∷ h) (other y) ≡ given h (other y)
    given_other = let z : given (X ∷ h) (other y) ≡ given h (other y) + 0 = rw (not_same y) in omega arith

pub side_cases : (s y : Side) → (s ≡ y) ⊎ (s ≡ other y)
side_cases left left = inl refl
side_cases left right = inr refl
side_cases right left = inr refl
side_cases right right = inl refl

-- what holds of both: each end by itself, its numbers in turn, what waits under its number, and each end as the sender of the other
pub record Both (hear : Octets → Option Heard) (τ : Pace) (start depth : Side → ℕ) (h : History) (v : Side → View) : Type 0 where
  pub alone : (s : Side) → Alone τ h s (v s).latest (v s).out
  pub numbers : (s : Side) → (v s).next ≡ num (start s) (given h s)
  pub marked : (s : Side) → Marked hear (v s).out
  pub pairs : (s : Side) → Pair hear (start s) (depth (other s)) h s (v (other s)).seen

module _ (hear : Octets → Option Heard) (τ : Pace) (one : 1 ≤ τ.tries) (ordered : τ.first ≤ τ.later) (start depth : Side → ℕ)
    (deep : (s : Side) → 1 ≤ depth s) (shallow : (s : Side) → depth s ≤ 4096)
    (h : History) (y : Side) (a : Act) (v v' : Side → View) (kept-other : v' (other y) ≡ v (other y))
    (G : Goes hear τ (depth y) h y (v y) a (v' y))
    (timely : TimelyAct h y a)
    (I : Both hear τ start depth h v) where
  abbrev Y : Deed
  Y = record { side = y; act = a }

  step_alone : (s : Side) → Alone τ (Y ∷ h) s (v' s).latest (v' s).out
  step_alone s =
      elim (side_cases s y) [
        | inl e ↦ subst (λ u. Alone τ (Y ∷ h) u (v' u).latest (v' u).out) (sym e) (alone_own hear τ one ordered (depth y) h y a (v y) (v' y) G (I.alone y))
        | inr e ↦ subst (λ u. Alone τ (Y ∷ h) u (v' u).latest (v' u).out) (sym e)
            (subst (λ u. Alone τ (Y ∷ h) (other y) u.latest u.out) (sym kept-other)
            (alone_other hear τ one ordered (depth y) h y a (v y) (v' y) (v (other y)).latest (v (other y)).out (I.alone (other y))))
      ]

  step_numbers : (s : Side) → (v' s).next ≡ num (start s) (given (Y ∷ h) s)
  step_numbers s =
      elim (side_cases s y) [
        | inl e ↦ subst (λ u. (v' u).next ≡ num (start u) (given (Y ∷ h) u)) (sym e) (numbers_own hear τ one ordered (depth y) h y a (v y) (v' y) (start y) G (I.numbers y))
        | inr e ↦ subst (λ u. (v' u).next ≡ num (start u) (given (Y ∷ h) u)) (sym e)
            (ap (λ u. u.next) kept-other ∙ I.numbers (other y) ∙ ap (num (start (other y))) (sym (given_other hear τ one ordered (depth y) h y a (v y) (v' y))))
      ]

  step_marked : (s : Side) → Marked hear (v' s).out
  step_marked s =
      elim (side_cases s y) [
        | inl e ↦ subst (λ u. Marked hear (v' u).out) (sym e)
            (marked_own hear τ one ordered (depth y) h y a (v y) (v' y) G (I.marked y))
        | inr e ↦ subst (λ u. Marked hear (v' u).out) (sym e) (subst (λ u. Marked hear u.out) (sym kept-other) (I.marked (other y)))
      ]

  step_pairs : (s : Side) → Pair hear (start s) (depth (other s)) (Y ∷ h) s (v' (other s)).seen
  step_pairs s =
      elim (side_cases s y) [
        | inl e ↦ subst (λ u. Pair hear (start u) (depth (other u)) (Y ∷ h) u (v' (other u)).seen) (sym e)
            (subst (λ u. Pair hear (start y) (depth (other y)) (Y ∷ h) y u.seen) (sym kept-other)
            (pair_own hear τ one ordered (depth y) h y a (v y) (v' y) (start y) (depth (other y)) (v (other y)).seen (I.pairs y)
            (know_own hear τ one ordered (depth y) h y a (v y) (v' y) (start y) (I.numbers y) (depth (other y)) (v (other y)).seen G (I.alone y) (I.pairs y))
            (after_own hear τ one ordered (depth y) h y a (v y) (v' y) (start y) (I.numbers y) (start (other y)) (depth (other y)) (depth (other (other y)))
            (v (other y)).seen (v (other (other y))).seen (I.alone y) (I.marked y) (I.pairs y) (I.pairs (other y)) timely G)))
        | inr e ↦ subst (λ u. Pair hear (start u) (depth (other u)) (Y ∷ h) u (v' (other u)).seen) (sym e)
            (subst (λ u. Pair hear (start (other y)) (depth u) (Y ∷ h) (other y) (v' u).seen) (sym (other_other y))
            (recv hear τ one ordered (depth y) h y a (v y) (v' y) (other y) (other_other y) refl (start (other y)) (deep y) (shallow y)
            (subst (λ u. Pair hear (start (other y)) (depth u) h (other y) (v u).seen) (other_other y) (I.pairs (other y))) timely G))
      ]

  pub both_step : Both hear τ start depth (Y ∷ h) v'
  both_step = record { alone = step_alone; numbers = step_numbers; marked = step_marked; pairs = step_pairs }
