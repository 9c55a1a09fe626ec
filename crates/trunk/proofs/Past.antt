-- What a history keeps as it grows, and the numbers that an end has given.
use Rattle.std.proofs.Common.{◌≡◌, ℕ, ◌+◌, ◌<◌, ◌≤◌, true, [], ◌∷◌, length, sym, refl, ◌∙◌, subst, inl, inr, arith}
use Rattle.std.proofs.lemmas.Bool.{lt-ltb, le-ltb, cases_lt}
use Rattle.trunk.specs.Acts.{Outcome, Side, left, right, same, Act, Deed, History, Does, Asks, Belongs, Resends, OnLine, own, more, Lines, first, next, Ends, by_tick, by_arrival, Waited, start, then}
use Rattle.trunk.specs.Timely.{takes, given, index}

pub bound : (h : History) (i : ℕ) (s : Side) (a : Act) → Does h i s a → i < length h
bound [] i s a x = absurd x
bound (d ∷ h) i s a (inl x) = omega (arith, x.0)
bound (d ∷ h) i s a (inr y) = let b = bound h i s a y in omega arith

pub here : (d : Deed) (h : History) (s : Side) (a : Act) → Does (d ∷ h) (length h) s a → (s ≡ d.side) × (a ≡ d.act)
here d h s a (inl x) = (x.1, x.2)
here d h s a (inr y) = let b = bound h (length h) s a y in absurd (omega arith)

pub old : (d : Deed) (h : History) (i : ℕ) (s : Side) (a : Act) → i < length h → Does (d ∷ h) i s a → Does h i s a
old d h i s a l (inl x) = absurd (omega (arith, x.0))
old d h i s a l (inr y) = y

-- one entry, one deed
pub only : (h : History) (i : ℕ) (s : Side) (a b : Act) → Does h i s a → Does h i s b → a ≡ b
only [] i s a b x y = absurd x
only (d ∷ h) i s a b (inl x) (inl y) = x.2 ∙ sym y.2
only (d ∷ h) i s a b (inl x) (inr y) = let l = bound h i s b y in absurd (omega (arith, x.0))
only (d ∷ h) i s a b (inr x) (inl y) = let l = bound h i s a x in absurd (omega (arith, y.0))
only (d ∷ h) i s a b (inr x) (inr y) = only h i s a b x y

module _ (d : Deed) (h : History) (s : Side) where
  pub asks_old : (i : ℕ) → i < length h → Asks (d ∷ h) s i → Asks h s i
  asks_old i l x = (x.0, x.1, x.2, old d h i s _ l x.3)

  pub asks_up : (i : ℕ) → Asks h s i → Asks (d ∷ h) s i
  asks_up i x = (x.0, x.1, x.2, inr x.3)

  pub asks_bound : (i : ℕ) → Asks h s i → i < length h
  asks_bound i x = bound h i s _ x.3

  pub belongs_old : (i k : ℕ) → k ≤ length h → Belongs (d ∷ h) s i k → Belongs h s i k
  belongs_old i k l x =
      let b = x.1 in
      let il : i < length h = omega arith in
      (asks_old i il x.0, b, λ j y m. x.2 j (asks_up j y) m)

  pub belongs_up : (i k : ℕ) → k ≤ length h → Belongs h s i k → Belongs (d ∷ h) s i k
  belongs_up i k l x = (
    asks_up i x.0,
    x.1,
    λ j y m. let jl : j < length h = omega arith in x.2 j (asks_old j jl y) m,
  )

  pub resends_old : (i k : ℕ) → k < length h → Resends (d ∷ h) s i k → Resends h s i k
  resends_old i k l x =
      let m : k ≤ length h = omega arith in
      (x.0, x.1, old d h k s _ l x.2, belongs_old i k m x.3)

  pub resends_up : (i k : ℕ) → Resends h s i k → Resends (d ∷ h) s i k
  resends_up i k x =
      let l = bound h k s _ x.2 in
      let m : k ≤ length h = omega arith in
      (x.0, x.1, inr x.2, belongs_up i k m x.3)

  pub on_old : (i k : ℕ) → k < length h → OnLine (d ∷ h) s i k → OnLine h s i k
  on_old i k l (own w t b o x e) = let m : i < length h = omega (arith, e) in own w t b o (old d h i s _ m x) e
  on_old i k l (more x) = more (resends_old i k l x)

  pub on_up : (i k : ℕ) → OnLine h s i k → OnLine (d ∷ h) s i k
  on_up i k (own w t b o x e) = own w t b o (inr x) e
  on_up i k (more x) = more (resends_up i k x)

  pub lines_old : (i : ℕ) {n k : ℕ} → k < length h → Lines (d ∷ h) s i n k → Lines h s i n k
  lines_old i l (first w t b o x e z) = let m : i < length h = omega (arith, e) in first w t b o (old d h i s _ m x) e z
  lines_old i l (next {k = k} m j x lt r e) =
      let jl : j < length h = omega arith in
      next m j (lines_old i jl x) lt (resends_old i k l r) e

  pub ends_old : (i k : ℕ) (o : Outcome) → k < length h → Ends (d ∷ h) s i k o → Ends h s i k o
  ends_old i k o l (by_tick t x e b) = let m : k ≤ length h = omega arith in by_tick t (old d h k s _ l x) e (belongs_old i k m b)
  ends_old i k o l (by_arrival m f ps r x b) =
      let n : k ≤ length h = omega arith in by_arrival m f ps r (old d h k s _ l x) (belongs_old i k n b)

  pub ends_bound : (g : History) (i k : ℕ) (o : Outcome) → Ends g s i k o → k < length g
  ends_bound g i k o (by_tick t x e b) = bound g k s _ x
  ends_bound g i k o (by_arrival m f ps r x b) = bound g k s _ x

  pub ends_up : (i k : ℕ) (o : Outcome) → Ends h s i k o → Ends (d ∷ h) s i k o
  ends_up i k o (by_tick t x e b) =
      let l = bound h k s _ x in
      let m : k ≤ length h = omega arith in by_tick t (inr x) e (belongs_up i k m b)
  ends_up i k o (by_arrival m f ps r x b) =
      let l = bound h k s _ x in
      let n : k ≤ length h = omega arith in by_arrival m f ps r (inr x) (belongs_up i k n b)

  pub waited_old : (gap i : ℕ) {n k t : ℕ} → k < length h → Waited gap (d ∷ h) s i n k t → Waited gap h s i n k t
  waited_old gap i l (start b o x e z) = let m : i < length h = omega (arith, e) in start b o (old d h i s _ m x) e z
  waited_old gap i l (then {k = k} m j u v x lt y g e) =
      let jl : j < length h = omega arith in
      then m j u v (waited_old gap i jl x) lt (old d h k s _ l y) g e

pub same_refl : (s : Side) → same s s ≡ true
same_refl left = refl
same_refl right = refl

pub index_old : (d : Deed) (h : History) (s : Side) (i : ℕ) → i < length h → index (d ∷ h) s i ≡ index h s i
index_old d h s i l = rw (lt-ltb i (length h) l)

pub index_here : (d : Deed) (h : History) (s : Side) (i : ℕ) → length h ≤ i → index (d ∷ h) s i ≡ given h s
index_here d h s i l = rw (le-ltb i (length h) l)

pub index_le : (h : History) (s : Side) (i : ℕ) → index h s i ≤ given h s
index_le [] s i = omega arith
index_le (d ∷ h) s i =
    elim (cases_lt i (length h)) [
      | inl l ↦ let e = index_old d h s i l in let b = index_le h s i in omega arith
      | inr l ↦ let e = index_here d h s i l in omega arith
    ]

pub index_mono : (h : History) (s : Side) (i j : ℕ) → i ≤ j → index h s i ≤ index h s j
index_mono [] s i j l = omega arith
index_mono (d ∷ h) s i j l =
    elim (cases_lt j (length h)) [
      | inl m ↦ let il : i < length h = omega arith in
          let e = index_old d h s i il in
          let f = index_old d h s j m in
          let r = index_mono h s i j l in
          omega arith
      | inr m ↦ elim (cases_lt i (length h)) [
        | inl il ↦ let e = index_old d h s i il in
            let f = index_here d h s j m in
            let r = index_le h s i in
            omega arith
        | inr il ↦ let e = index_here d h s i il in
            let f = index_here d h s j m in
            omega arith
      ]
    ]

pub given_here : (d : Deed) (h : History) (s : Side) (a : Act) → s ≡ d.side → a ≡ d.act → takes a ≡ true → given (d ∷ h) s ≡ given h s + 1
given_here d h s a e f t =
    let x : same s d.side ≡ true = subst (λ z. same s z ≡ true) e (same_refl s) in
    let y : takes d.act ≡ true = subst (λ z. takes z ≡ true) f t in
    rw (x, y)

pub index_lt : (h : History) (s : Side) (i : ℕ) (a : Act) → Does h i s a → takes a ≡ true → index h s i < given h s
index_lt [] s i a x t = absurd x
index_lt (d ∷ h) s i a (inl x) t =
    let l : length h ≤ i = omega (arith, x.0) in
    let e = index_here d h s i l in
    let f = given_here d h s a x.1 x.2 t in
    omega arith
index_lt (d ∷ h) s i a (inr x) t =
    let l = bound h i s a x in
    let e = index_old d h s i l in
    let r = index_lt h s i a x t in
    omega arith

pub index_inj : (h : History) (s : Side) (i j : ℕ) (a b : Act) → Does h i s a → takes a ≡ true → Does h j s b → takes b ≡ true → index h s i ≡ index h s j → i ≡ j
index_inj [] s i j a b x ta y tb e = absurd x
index_inj (d ∷ h) s i j a b (inl x) ta (inl y) tb e = x.0 ∙ sym y.0
index_inj (d ∷ h) s i j a b (inl x) ta (inr y) tb e =
    let l : length h ≤ i = omega (arith, x.0) in
    let p = index_here d h s i l in
    let m = bound h j s b y in
    let q = index_old d h s j m in
    let r = index_lt h s j b y tb in
    absurd (omega arith)
index_inj (d ∷ h) s i j a b (inr x) ta (inl y) tb e =
    let l : length h ≤ j = omega (arith, y.0) in
    let p = index_here d h s j l in
    let m = bound h i s a x in
    let q = index_old d h s i m in
    let r = index_lt h s i a x ta in
    absurd (omega arith)
index_inj (d ∷ h) s i j a b (inr x) ta (inr y) tb e =
    let l = bound h i s a x in
    let m = bound h j s b y in
    index_inj h s i j a b x ta y tb (sym (index_old d h s i l) ∙ e ∙ index_old d h s j m)
