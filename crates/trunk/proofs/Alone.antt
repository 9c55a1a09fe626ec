-- One end by itself: few, single and settled.
use Rattle.std.proofs.Common.{◌≡◌, ℕ, suc, ◌+◌, ◌<◌, ◌≤◌, Bool, true, false, ◌⊎◌, ◌∷◌, length, Some, None, Option, sym, refl, ap, ◌∙◌, subst, inl, inr, arith}
use Rattle.std.proofs.lemmas.Bool.{cases_lt, true≢false}
use Rattle.trunk.specs.Acts.{Octets, Outcome, Side, Ticked, sent_again, gave_up, kept_alive, let_be, Act, aside, sends, ticks, arrives, Deed, History, Does, Asks, Belongs, Lines, first, next, Ends, by_tick, by_arrival, Waited, start, then}
use Rattle.trunk.specs.Changes.{Waiting, Pace}
use Rattle.trunk.proofs.Past.{bound, here, old, asks_old, asks_up, asks_bound, lines_old, ends_old, ends_up, ends_bound, waited_old}

-- acts by their kinds
abbrev pub is_ask : Act → Bool
is_ask (aside b) = false
is_ask (sends w t b d) = w
is_ask (ticks t x) = false
is_ask (arrives k f ps o r) = false

abbrev pub is_resend : Act → Bool
is_resend (aside b) = false
is_resend (sends w t b d) = false
is_resend (ticks t (sent_again d)) = true
is_resend (ticks t gave_up) = false
is_resend (ticks t (kept_alive d)) = false
is_resend (ticks t let_be) = false
is_resend (arrives k f ps o r) = false

abbrev pub is_end : Act → Bool
is_end (aside b) = false
is_end (sends w t b d) = false
is_end (ticks t (sent_again d)) = false
is_end (ticks t gave_up) = true
is_end (ticks t (kept_alive d)) = false
is_end (ticks t let_be) = false
is_end (arrives k f ps None r) = false
is_end (arrives k f ps (Some o) r) = true

abbrev pub is_tick : Act → Bool
is_tick (aside b) = false
is_tick (sends w t b d) = false
is_tick (ticks t x) = true
is_tick (arrives k f ps o r) = false

-- the message m waits, and is the datagram of the send i: the newest that wants an Ack, which has no outcome yet. What is to be shown of it is a
-- race: each tick that comes `later` after the one before finds it due, and finds it with one transmission more
pub record Live (τ : Pace) (h : History) (s : Side) (latest : ℕ) (m : Waiting) (i : ℕ) : Type 0 where
  pub asked : (t : ℕ) × (b : Octets) × Does h i s (sends true t b m.octets)
  pub newest : (j : ℕ) → Asks h s j → j ≤ i
  pub unsettled : (k : ℕ) (o : Outcome) → Ends h s i k o → ⊥
  pub least : 1 ≤ m.times
  pub most : m.times ≤ τ.tries
  pub lines : (n k : ℕ) → Lines h s i n k → n ≤ m.times
  pub soon : m.due ≤ latest + τ.later
  pub waits : (n k t : ℕ) → Waited τ.later h s i n k t → (n + 2 ≤ m.times) ⊎ ((n + 1 ≤ m.times) × (m.due ≤ t + τ.later))

-- what holds of one end: every send that wants an Ack has its outcome or waits, and only one waits
pub record Alone (τ : Pace) (h : History) (s : Side) (latest : ℕ) (out : Option Waiting) : Type 0 where
  pub live : (m : Waiting) → out ≡ Some m → (i : ℕ) × Live τ h s latest m i
  pub each : (i : ℕ) → Asks h s i → ((k : ℕ) × (o : Outcome) × Ends h s i k o) ⊎ ((m : Waiting) × (out ≡ Some m) × Live τ h s latest m i)
  pub few : (i n k : ℕ) → Lines h s i n k → n ≤ τ.tries
  pub single : (i k k' : ℕ) (o o' : Outcome) → Ends h s i k o → Ends h s i k' o' → (k ≡ k') × (o ≡ o')
  pub settled : (i k t : ℕ) → Waited τ.later h s i τ.tries k t → (m : ℕ) × (o : Outcome) × Ends h s i m o × (m ≤ k)

pub at_bound : (h : History) (d : Deed) (k : ℕ) → k < length (d ∷ h) → (k < length h) ⊎ (k ≡ length h)
at_bound h d k l = elim (cases_lt k (length h)) [ inl a ↦ inl a | inr b ↦ inr (omega arith) ]

-- what is at the new entry, if the end s does it
abbrev pub Now : Deed → History → Side → Act → Type 0
Now d h s a = Does (d ∷ h) (length h) s a

pub none_some : {A : Type 0} (o : Option A) (a : A) → o ≡ None → o ≡ Some a → ⊥
none_some o a p q = let z : ◌≡◌ {A = ℕ} 0 1 = cc in omega arith

pub waited_asks : (gap : ℕ) (h : History) (s : Side) (i : ℕ) {n k t : ℕ} → Waited gap h s i n k t → Asks h s i
waited_asks gap h s i (start {t = t} b o x e z) = (t, b, o, x)
waited_asks gap h s i (then m j u v x lt y g e) = waited_asks gap h s i x

pub waited_ge : (gap : ℕ) (h : History) (s : Side) (i : ℕ) {n k t : ℕ} → Waited gap h s i n k t → i ≤ k
waited_ge gap h s i (start b o x e z) = omega arith
waited_ge gap h s i (then m j u v x lt y g e) = let r = waited_ge gap h s i x in omega arith

module _ (τ : Pace) (d : Deed) (h : History) (s : Side) where
  lines_few : (i tries : ℕ) → 1 ≤ tries → ((n k : ℕ) → Lines h s i n k → n ≤ tries)
      → ((a : Act) → Now d h s a → is_resend a ≡ false)
      → (n k : ℕ) → Lines (d ∷ h) s i n k → n ≤ tries
  lines_few i tries one f nr n k (first w t b o x e z) = omega arith
  lines_few i tries one f nr n k (next m j x lt r e) =
      elim (at_bound h d k (bound (d ∷ h) k s _ r.2)) [
        | inl kl ↦ f n k (lines_old d h s i kl (next m j x lt r e))
        | inr ke ↦ absurd (true≢false (nr _ (subst (λ z. Does (d ∷ h) z s (ticks r.0 (sent_again r.1))) ke r.2)))
      ]

  not_ending : ((a : Act) → Now d h s a → is_end a ≡ false) → (i k : ℕ) (o : Outcome) → Ends (d ∷ h) s i k o → Ends h s i k o
  not_ending ne i k o (by_tick t x e b) =
      elim (at_bound h d k (bound (d ∷ h) k s _ x)) [
        | inl kl ↦ ends_old d h s i k o kl (by_tick t x e b)
        | inr ke ↦ absurd (true≢false (ne _ (subst (λ z. Does (d ∷ h) z s (ticks t gave_up)) ke x)))
      ]
  not_ending ne i k o (by_arrival m f ps r x b) =
      elim (at_bound h d k (bound (d ∷ h) k s _ x)) [
        | inl kl ↦ ends_old d h s i k o kl (by_arrival m f ps r x b)
        | inr ke ↦ absurd (true≢false (ne _ (subst (λ z. Does (d ∷ h) z s (arrives m f ps (Some o) r)) ke x)))
      ]

  not_asking : ((a : Act) → Now d h s a → is_ask a ≡ false) → (i : ℕ) → Asks (d ∷ h) s i → Asks h s i
  not_asking na i x =
      elim (at_bound h d i (bound (d ∷ h) i s _ x.3)) [
        | inl il ↦ asks_old d h s i il x
        | inr e ↦ absurd (true≢false (na _ (subst (λ z. Does (d ∷ h) z s (sends true x.0 x.1 x.2)) e x.3)))
      ]

  -- the last tick of a `Waited` is old, or it is the new entry
  abbrev LastNow : ℕ → ℕ → ℕ → ℕ → Type 0
  LastNow i n k t =
      (k ≡ length h) × (m : ℕ) × (j : ℕ) × (u : ℕ) × (v : Ticked) × Waited τ.later h s i m j u × Now d h s (ticks t v) × (u + τ.later ≤ t) × (n ≡ suc m)

  waited_cases : (i n k t : ℕ) → i < length h → Waited τ.later (d ∷ h) s i n k t → Waited τ.later h s i n k t ⊎ LastNow i n k t
  waited_cases i n k t l (start b o x e z) = inl (start b o (old d h i s _ l x) e z)
  waited_cases i n k t l (then m j u v x lt y g e) =
      elim (at_bound h d k (bound (d ∷ h) k s _ y)) [
        | inl kl ↦ inl (waited_old d h s τ.later i kl (then m j u v x lt y g e))
        | inr ke ↦ let jl : j < length h = omega (arith, ke) in
            inr (ke, m, j, u, v, waited_old d h s τ.later i jl x, subst (λ z. Does (d ∷ h) z s (ticks t v)) ke y, g, e)
      ]

  -- 1. a deed that neither asks, nor resends, nor ends
  module _ (l l' : ℕ) (o : Option Waiting) (latest : l ≤ l') (one : 1 ≤ τ.tries)
      (no-ask : (a : Act) → Now d h s a → is_ask a ≡ false)
      (no-resend : (a : Act) → Now d h s a → is_resend a ≡ false)
      (no_end : (a : Act) → Now d h s a → is_end a ≡ false)
      (tick : (t : ℕ) (x : Ticked) → Now d h s (ticks t x) → (l ≤ t) × ((m : Waiting) → o ≡ Some m → t < m.due))
      (A : Alone τ h s l o) where
    stay_live : (m : Waiting) (i : ℕ) → o ≡ Some m → Live τ h s l m i → Live τ (d ∷ h) s l' m i
    stay_live m i e L =
        record {
          asked = (L.asked.0, L.asked.1, inr L.asked.2);
          newest = λ j x. L.newest j (not_asking no-ask j x);
          unsettled = λ k q x. L.unsettled k q (not_ending no_end i k q x);
          least = L.least;
          most = L.most;
          lines = lines_few i m.times L.least L.lines no-resend;
          soon = (let x = L.soon in omega arith);
          waits = λ n k t x. elim (waited_cases i n k t (bound h i s _ L.asked.2) x) [
            | inl y ↦ L.waits n k t y
            | inr y ↦ let c = tick t y.4 y.6 in
                let due = c.1 m e in
                let c0 = c.0 in
                let so = L.soon in
                let n1 = y.8 in
                let u1 = y.7 in
                elim (L.waits y.1 y.2 y.3 y.5) [
                  | inl a ↦ inr (omega arith, omega arith)
                  | inr b ↦ absurd (let b1 = b.1 in omega arith)
                ]
          ];
        }

    pub stay : Alone τ (d ∷ h) s l' o
    stay =
        record {
          live = λ m e. let x = A.live m e in (x.0, stay_live m x.0 e x.1);
          each = λ i x. elim (A.each i (not_asking no-ask i x)) [
            | inl y ↦ inl (y.0, y.1, ends_up d h s i y.0 y.1 y.2)
            | inr y ↦ inr (y.0, y.1, stay_live y.0 i y.1 y.2)
          ];
          few = λ i. lines_few i τ.tries one (A.few i) no-resend;
          single = λ i k k' p q x y. A.single i k k' p q (not_ending no_end i k p x) (not_ending no_end i k' q y);
          settled = λ i k t x. let a = not_asking no-ask i (waited_asks τ.later (d ∷ h) s i x) in
              elim (waited_cases i τ.tries k t (asks_bound d h s i a) x) [
                | inl y ↦ let r = A.settled i k t y in (r.0, r.1, ends_up d h s i r.0 r.1 r.2, r.3)
                | inr y ↦ elim (A.each i a) [
                  | inl r ↦ let b = ends_bound d h s h i r.0 r.1 r.2 in
                      let y0 = y.0 in
                      (r.0, r.1, ends_up d h s i r.0 r.1 r.2, omega arith)
                  | inr r ↦ let c = tick t y.4 y.6 in
                      let due = c.1 r.0 r.1 in
                      let c0 = c.0 in
                      let L = r.2 in
                      let mo = L.most in
                      let n1 = y.8 in
                      let u1 = y.7 in
                      elim (L.waits y.1 y.2 y.3 y.5) [
                        | inl a ↦ absurd (omega arith)
                        | inr b ↦ absurd (let b1 = b.1 in omega arith)
                      ]
                ]
              ];
        }

  -- 2. a send with an Ack wanted
  module _ (l t : ℕ) (b : Octets) (m : Waiting) (o o' : Option Waiting) (latest : l ≤ t) (one : 1 ≤ τ.tries) (ordered : τ.first ≤ τ.later)
      (side : s ≡ d.side) (act : sends true t b m.octets ≡ d.act) (was : o ≡ None) (is : o' ≡ Some m) (once : m.times ≡ 1) (due : m.due ≡ t + τ.first)
      (A : Alone τ h s l o) where
    ask_act : (a : Act) → Now d h s a → a ≡ sends true t b m.octets
    ask_act a x = (here d h s a x).1 ∙ sym act

    ask_no_resend : (a : Act) → Now d h s a → is_resend a ≡ false
    ask_no_resend a x = ap is_resend (ask_act a x)

    ask_no_end : (a : Act) → Now d h s a → is_end a ≡ false
    ask_no_end a x = ap is_end (ask_act a x)

    ask_waits : (n k u : ℕ) → Waited τ.later (d ∷ h) s (length h) n k u → (n ≡ 0) × (u ≡ t)
    ask_waits n k u (start b' o'' x e z) = (z, (let q = ask_act _ x in cc))
    ask_waits n k u (then n' j u' v x lt y g e) =
        let r = waited_ge τ.later (d ∷ h) s (length h) x in
        let c = bound (d ∷ h) k s _ y in
        absurd (omega arith)

    ask_lines : (n k : ℕ) → Lines (d ∷ h) s (length h) n k → n ≤ 1
    ask_lines n k (first w u b' d' x e z) = omega arith
    ask_lines n k (next n' j x lt r e) =
        let c = bound (d ∷ h) k s _ r.2 in
        let i = r.3.1 in
        absurd (omega arith)

    ends_later : (g : History) (i k : ℕ) (q : Outcome) → Ends g s i k q → i < k
    ends_later g i k q (by_tick u x e c) = c.1
    ends_later g i k q (by_arrival n f ps r x c) = c.1

    ask_live : Live τ (d ∷ h) s t m (length h)
    ask_live =
        record {
          asked = (t, b, inl (refl, side, act));
          newest = λ j x. let c = bound (d ∷ h) j s _ x.3 in omega arith;
          unsettled = λ k q x. let c = ends_bound d h s (d ∷ h) (length h) k q x in let e = ends_later (d ∷ h) (length h) k q x in omega arith;
          least = omega arith;
          most = omega arith;
          lines = λ n k x. let c = ask_lines n k x in omega arith;
          soon = omega arith;
          waits = λ n k u x. let c = ask_waits n k u x in let c0 = c.0 in let c1 = c.1 in inr (omega arith, omega arith);
        }

    pub asked_so : Alone τ (d ∷ h) s t o'
    asked_so =
        record {
          live = λ n e. let q : m ≡ n = cc in (length h, subst (λ z. Live τ (d ∷ h) s t z (length h)) q ask_live);
          each = λ i x. elim (at_bound h d i (bound (d ∷ h) i s _ x.3)) [
            | inl il ↦ elim (A.each i (asks_old d h s i il x)) [
              | inl y ↦ inl (y.0, y.1, ends_up d h s i y.0 y.1 y.2)
              | inr y ↦ absurd (none_some o y.0 was y.1)
            ]
            | inr ie ↦ inr (m, is, subst (λ z. Live τ (d ∷ h) s t m z) (sym ie) ask_live)
          ];
          few = λ i. lines_few i τ.tries one (A.few i) ask_no_resend;
          single = λ i k k' p q x y. A.single i k k' p q (not_ending ask_no_end i k p x) (not_ending ask_no_end i k' q y);
          settled = λ i k u x.
              elim (at_bound h d i (bound (d ∷ h) i s _ (waited_asks τ.later (d ∷ h) s i x).3)) [
                | inl il ↦ elim (waited_cases i τ.tries k u il x) [
                  | inl y ↦ let r = A.settled i k u y in (r.0, r.1, ends_up d h s i r.0 r.1 r.2, r.3)
                  | inr y ↦ absurd (true≢false (ap is_tick (ask_act _ y.6)))
                ]
                | inr ie ↦ let c = ask_waits τ.tries k u (subst (λ z. Waited τ.later (d ∷ h) s z τ.tries k u) ie x) in
                    let c0 = c.0 in
                    absurd (omega arith)
              ];
        }

  -- the newest send that asks is the one that is outstanding
  pub the_live : (l : ℕ) (m : Waiting) (i j : ℕ) → Live τ h s l m i → Belongs (d ∷ h) s j (length h) → j ≡ i
  the_live l m i j L B =
      let c = bound h i s _ L.asked.2 in
      let p = B.2 i (asks_up d h s i (L.asked.0, L.asked.1, m.octets, L.asked.2)) c in
      let q = L.newest j (asks_old d h s j B.1 B.0) in
      omega arith

  -- 3. a resend
  module _ (l t : ℕ) (m m' : Waiting) (o o' : Option Waiting) (latest : l ≤ t) (one : 1 ≤ τ.tries)
      (act : ticks t (sent_again m.octets) ≡ d.act) (was : o ≡ Some m) (is : o' ≡ Some m') (few-yet : m.times < τ.tries)
      (more-times : m'.times ≡ m.times + 1) (due : m'.due ≡ t + τ.later) (octets : m'.octets ≡ m.octets)
      (A : Alone τ h s l o) where
    re_act : (a : Act) → Now d h s a → a ≡ ticks t (sent_again m.octets)
    re_act a x = (here d h s a x).1 ∙ sym act

    re_no_ask : (a : Act) → Now d h s a → is_ask a ≡ false
    re_no_ask a x = ap is_ask (re_act a x)

    re_no_end : (a : Act) → Now d h s a → is_end a ≡ false
    re_no_end a x = ap is_end (re_act a x)

    re_time : (u : ℕ) (v : Ticked) → Now d h s (ticks u v) → u ≡ t
    re_time u v x = let q = re_act _ x in cc

    re_lines : (i : ℕ) → Live τ h s l m i → (n k : ℕ) → Lines (d ∷ h) s i n k → n ≤ m'.times
    re_lines i L n k (first w u b' d' x e z) = omega arith
    re_lines i L n k (next n' j x lt r e) =
        elim (at_bound h d k (bound (d ∷ h) k s _ r.2)) [
          | inl kl ↦ let c = L.lines n k (lines_old d h s i kl (next n' j x lt r e)) in omega arith
          | inr ke ↦ let jl : j < length h = omega (arith, ke) in
              let c = L.lines n' j (lines_old d h s i jl x) in
              omega arith
        ]

    re_live : (i : ℕ) → Live τ h s l m i → Live τ (d ∷ h) s t m' i
    re_live i L =
        record {
          asked = (L.asked.0, L.asked.1, inr (subst (λ z. Does h i s (sends true L.asked.0 L.asked.1 z)) (sym octets) L.asked.2));
          newest = λ j x. L.newest j (not_asking re_no_ask j x);
          unsettled = λ k q x. L.unsettled k q (not_ending re_no_end i k q x);
          least = omega arith;
          most = omega arith;
          lines = re_lines i L;
          soon = omega arith;
          waits = λ n k u x. elim (waited_cases i n k u (bound h i s _ L.asked.2) x) [
            | inl y ↦ elim (L.waits n k u y) [ inl c ↦ inl (omega arith) | inr c ↦ inl (omega arith) ]
            | inr y ↦ let c = re_time u y.4 y.6 in
                let n1 = y.8 in
                elim (L.waits y.1 y.2 y.3 y.5) [
                  | inl a ↦ inr (omega arith, omega arith)
                  | inr b ↦ inr (omega arith, omega arith)
                ]
          ];
        }

    re_few : (i n k : ℕ) → Lines (d ∷ h) s i n k → n ≤ τ.tries
    re_few i n k (first w u b' d' x e z) = omega arith
    re_few i n k (next n' j x lt r e) =
        elim (at_bound h d k (bound (d ∷ h) k s _ r.2)) [
          | inl kl ↦ A.few i n k (lines_old d h s i kl (next n' j x lt r e))
          | inr ke ↦ let L = A.live m was in
              let q = the_live l m L.0 i L.1 (subst (λ z. Belongs (d ∷ h) s i z) ke r.3) in
              let c = re_lines L.0 L.1 n k (subst (λ z. Lines (d ∷ h) s z n k) q (next n' j x lt r e)) in
              omega arith
        ]

    pub resent_so : Alone τ (d ∷ h) s t o'
    resent_so =
        record {
          live = λ n e. let q : m' ≡ n = cc in let x = A.live m was in (x.0, subst (λ z. Live τ (d ∷ h) s t z x.0) q (re_live x.0 x.1));
          each = λ i x. elim (A.each i (not_asking re_no_ask i x)) [
            | inl y ↦ inl (y.0, y.1, ends_up d h s i y.0 y.1 y.2)
            | inr y ↦ let q : y.0 ≡ m = (let y1 = y.1 in cc) in
                inr (m', is, re_live i (subst (λ z. Live τ h s l z i) q y.2))
          ];
          few = re_few;
          single = λ i k k' p q x y. A.single i k k' p q (not_ending re_no_end i k p x) (not_ending re_no_end i k' q y);
          settled = λ i k u x. let a = not_asking re_no_ask i (waited_asks τ.later (d ∷ h) s i x) in
              elim (waited_cases i τ.tries k u (asks_bound d h s i a) x) [
                | inl y ↦ let r = A.settled i k u y in (r.0, r.1, ends_up d h s i r.0 r.1 r.2, r.3)
                | inr y ↦ elim (A.each i a) [
                  | inl r ↦ let b = ends_bound d h s h i r.0 r.1 r.2 in
                      let y0 = y.0 in
                      (r.0, r.1, ends_up d h s i r.0 r.1 r.2, omega arith)
                  | inr r ↦ let q : r.0 ≡ m = (let r1 = r.1 in cc) in
                      let L : Live τ h s l m i = subst (λ z. Live τ h s l z i) q r.2 in
                      let n1 = y.8 in
                      elim (L.waits y.1 y.2 y.3 y.5) [
                        | inl c ↦ absurd (omega arith)
                        | inr c ↦ absurd (omega arith)
                      ]
                ]
              ];
        }

  -- 4. an outcome
  module _ (l l' : ℕ) (m : Waiting) (o o' : Option Waiting) (q : Outcome) (latest : l ≤ l') (one : 1 ≤ τ.tries)
      (was : o ≡ Some m) (is : o' ≡ None)
      (no-ask : (a : Act) → Now d h s a → is_ask a ≡ false)
      (no-resend : (a : Act) → Now d h s a → is_resend a ≡ false)
      (ending : (i : ℕ) → Belongs (d ∷ h) s i (length h) → Ends (d ∷ h) s i (length h) q)
      (ended : (i : ℕ) (p : Outcome) → Ends (d ∷ h) s i (length h) p → (p ≡ q) × Belongs (d ∷ h) s i (length h))
      (A : Alone τ h s l o) where
    end_now : (i : ℕ) (n : Waiting) → Live τ h s l n i → Ends (d ∷ h) s i (length h) q
    end_now i n L =
        ending i (
          (L.asked.0, L.asked.1, n.octets, inr L.asked.2),
          bound h i s _ L.asked.2,
          λ j x lt. L.newest j (asks_old d h s j lt x),
        )

    end_each : (i : ℕ) → Asks (d ∷ h) s i → (k : ℕ) × (p : Outcome) × Ends (d ∷ h) s i k p
    end_each i x =
        elim (A.each i (not_asking no-ask i x)) [
          | inl y ↦ (y.0, y.1, ends_up d h s i y.0 y.1 y.2)
          | inr y ↦ (length h, q, end_now i y.0 y.2)
        ]

    end_two : (i k k' : ℕ) (p p' : Outcome) → k < length h → k' ≡ length h → Ends (d ∷ h) s i k p → Ends (d ∷ h) s i k' p' → ⊥
    end_two i k k' p p' kl ke x y =
        let y' = subst (λ z. Ends (d ∷ h) s i z p') ke y in
        let L = A.live m was in
        let e = the_live l m L.0 i L.1 (ended i p' y').1 in
        L.1.unsettled k p (subst (λ z. Ends h s z k p) e (ends_old d h s i k p kl x))

    end_single : (i k k' : ℕ) (p p' : Outcome) → Ends (d ∷ h) s i k p → Ends (d ∷ h) s i k' p' → (k ≡ k') × (p ≡ p')
    end_single i k k' p p' x y =
        elim (at_bound h d k (ends_bound d h s (d ∷ h) i k p x)) [
          | inl a ↦ elim (at_bound h d k' (ends_bound d h s (d ∷ h) i k' p' y)) [
            | inl b ↦ A.single i k k' p p' (ends_old d h s i k p a x) (ends_old d h s i k' p' b y)
            | inr b ↦ absurd (end_two i k k' p p' a b x y)
          ]
          | inr a ↦ elim (at_bound h d k' (ends_bound d h s (d ∷ h) i k' p' y)) [
            | inl b ↦ absurd (end_two i k' k p' p b a y x)
            | inr b ↦ (
              a ∙ sym b,
              (ended i p (subst (λ z. Ends (d ∷ h) s i z p) a x)).0 ∙ sym (ended i p' (subst (λ z. Ends (d ∷ h) s i z p') b y)).0,
            )
          ]
        ]

    pub ended_so : Alone τ (d ∷ h) s l' o'
    ended_so =
        record {
          live = λ n e. absurd (none_some o' n is e);
          each = λ i x. inl (end_each i x);
          few = λ i. lines_few i τ.tries one (A.few i) no-resend;
          single = end_single;
          settled = λ i k u x. let a = waited_asks τ.later (d ∷ h) s i x in
              elim (waited_cases i τ.tries k u (asks_bound d h s i (not_asking no-ask i a)) x) [
                | inl y ↦ let r = A.settled i k u y in (r.0, r.1, ends_up d h s i r.0 r.1 r.2, r.3)
                | inr y ↦ let r = end_each i a in
                    let c = ends_bound d h s (d ∷ h) i r.0 r.1 r.2 in
                    let y0 = y.0 in
                    (r.0, r.1, r.2, omega arith)
              ];
        }
