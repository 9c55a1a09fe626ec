-- What a book remembers, on indices that do not wrap: the number with the index g is start + g, wrapped.
use Rattle.std.proofs.Common.{◌≡◌, ℕ, ◌+◌, ◌-◌, ◌%◌, ◌<◌, ◌≤◌, Bool, true, false, eqb, ◌⊎◌, sym, refl, ap, ◌∙◌, subst, inl, inr, arith}
use Rattle.std.proofs.lemmas.Bool.{cases_lt, cases_Bool, le-leb, eq-eqb, eqb-true, and_from, and_parts, or_left, or_right, or_cases}
use Rattle.arrivals.specs.declared.book.Judgement.{Judgement}
use Rattle.arrivals.specs.declared.book.Judgement.TheVariants.{Fresh, Again, Old}
use Rattle.arrivals.specs.Meaning.{steps_up, ahead, near, Seen, blank, upto, judged_number, judged_at, is_fresh, with_fresh, noted_at}
use Rattle.arrivals.specs.Steps.{ahead_true, ahead_none, ahead_far, near_true, near_far, near_is}
use Rattle.arrivals.specs.Judging.{fresh_ahead, again_held, fresh_near, old_far, is_near, noted_ahead, noted_behind}

abbrev pub num : ℕ → ℕ → ℕ
num start g = (start + g) % 16777216

pub num_lt : (start g : ℕ) → num start g < 16777216
num_lt start g = omega arith

pub num_next : (start g : ℕ) → (num start g + 1) % 16777216 ≡ num start (g + 1)
num_next start g = omega arith

-- within one round, a number tells its index
pub num_inj : (start a b : ℕ) → a ≤ b → b < a + 16777216 → num start a ≡ num start b → a ≡ b
num_inj start a b l m e = omega arith

-- steps between numbers are differences of indices
up_small : (a b : ℕ) → b < 16777216 → steps_up a b ≡ (a + (16777216 - b)) % 16777216
unfolding steps_up
up_small a b l = omega arith

up_num : (start a b : ℕ) → a ≤ b → b < a + 16777216 → steps_up (num start b) (num start a) ≡ b - a
up_num start a b l m = let e = up_small (num start b) (num start a) (num_lt start a) in omega arith

up_back_num : (start a b : ℕ) → a < b → b < a + 16777216 → steps_up (num start a) (num start b) ≡ 16777216 - (b - a)
up_back_num start a b l m = let e = up_small (num start a) (num start b) (num_lt start b) in omega arith

-- what a place of a book has seen, against the set G of the indices found fresh
abbrev pub Kept : ℕ → ℕ → (ℕ → Type 0) → Seen → Type 0
Kept depth start G blank = (g : ℕ) → G g → ⊥
Kept depth start G (upto n set) =
    (H : ℕ) × G H × (n ≡ num start H)
    × ((g : ℕ) → G g → (g ≤ H) × (H < g + depth → set (num start g) ≡ true))
    × ((m : ℕ) → set m ≡ true → (g : ℕ) × G g × (H < g + depth) × (m ≡ num start g))

pub kept_same : (depth start : ℕ) (G G' : ℕ → Type 0) → ((g : ℕ) → G g → G' g) → ((g : ℕ) → G' g → G g) → (z : Seen) → Kept depth start G z → Kept depth start G' z
kept_same depth start G G' up dn blank k = λ g x. k g (dn g x)
kept_same depth start G G' up dn (upto n set) k = (
  k.0,
  up k.0 k.1,
  k.2,
  λ g x. k.3 g (dn g x),
  λ m e. let r = k.4 m e in (r.0, up r.0 r.1, r.2, r.3),
)

fresh_not_again : (j : Judgement) → j ≡ Fresh → j ≡ Again → ⊥
fresh_not_again j p q = let z : ◌≡◌ {A = ℕ} 0 1 = cc in omega arith

again_not_old : (j : Judgement) → j ≡ Again → j ≡ Old → ⊥
again_not_old j p q = let z : ◌≡◌ {A = ℕ} 0 1 = cc in omega arith

-- a number in range is judged as such, and noted if it is fresh
pub judged_small : (depth : ℕ) (z : Seen) (n : ℕ) → n < 16777216 → judged_at depth z n ≡ judged_number depth z n
unfolding judged_at
judged_small depth z n l = rw (le-leb n 16777215 (omega arith))

pub noted_fresh : (depth : ℕ) (z : Seen) (n : ℕ) → judged_at depth z n ≡ Fresh → noted_at depth z n ≡ with_fresh depth z n
unfolding noted_at
noted_fresh depth z n e = rw e

pub noted_again : (depth : ℕ) (z : Seen) (n : ℕ) → judged_at depth z n ≡ Again → noted_at depth z n ≡ z
unfolding noted_at
noted_again depth z n e = rw e

blank_fresh : (depth n : ℕ) → judged_number depth blank n ≡ Fresh
unfolding judged_number
blank_fresh depth n = refl

blank_noted : (depth n : ℕ) → with_fresh depth blank n ≡ upto n (λ k. eqb k n)
unfolding with_fresh
blank_noted depth n = refl

module _ (depth start : ℕ) (deep : 1 ≤ depth) (shallow : depth ≤ 4096) where
  -- the newest index found fresh is within half the numbers of g
  abbrev pub Close : (ℕ → Type 0) → ℕ → Type 0
  Close G g = (H : ℕ) → G H → ((x : ℕ) → G x → x ≤ H) → (g ≤ H + 8388607) × (H ≤ g + 8388607)

  ahead_yes : (g H : ℕ) → H < g → g ≤ H + 8388607 → ahead (num start g) (num start H) ≡ true
  ahead_yes g H l m =
      let e = up_num start H g (omega arith) (omega arith) in
      ahead_true (num start g) (num start H) (omega arith) (omega arith)

  ahead_not : (g H : ℕ) → g ≤ H → H ≤ g + 8388607 → ahead (num start g) (num start H) ≡ false
  ahead_not g H l m =
      elim (cases_lt g H) [
        | inl lt ↦ let e = up_back_num start g H lt (omega arith) in ahead_far (num start g) (num start H) (omega arith)
        | inr ge ↦ let q : g ≡ H = omega arith in
            let e = up_num start H g (omega arith) (omega arith) in
            ahead_none (num start g) (num start H) (omega arith)
      ]

  -- near, for the number of an index that is not ahead
  near_yes : (g H : ℕ) → g < H → H < g + depth → near depth (num start g) (num start H) ≡ true
  near_yes g H l m =
      let e = up_num start g H (omega arith) (omega arith) in
      near_true depth (num start g) (num start H) (ahead_not g H (omega arith) (omega arith))
      (λ q. let r = num_inj start g H (omega arith) (omega arith) q in omega arith) (omega arith)

  judged : (z : Seen) (g : ℕ) → judged_at depth z (num start g) ≡ judged_number depth z (num start g)
  judged z g = judged_small depth z (num start g) (num_lt start g)

  -- what is found again was found fresh before
  pub kept_again : (G : ℕ → Type 0) (z : Seen) (g : ℕ) → Kept depth start G z → Close G g → judged_at depth z (num start g) ≡ Again → G g
  kept_again G blank g k c j = absurd (fresh_not_again _ (blank_fresh depth (num start g)) (sym (judged blank g) ∙ j))
  kept_again G (upto n set) g k c j =
      elim (cases_Bool (set (num start g))) [
        | inl e ↦ let r = k.4 (num start g) e in
            let cl = c k.0 k.1 (λ x y. (k.3 x y).0) in
            let le = (k.3 r.0 r.1).0 in
            let r2 = r.2 in
            let r3 = r.3 in
            let q : r.0 ≡ g = elim (cases_lt r.0 g) [
              | inl lt ↦ num_inj start r.0 g (omega arith) (omega arith) (sym r3)
              | inr ge ↦ sym (num_inj start g r.0 ge (omega arith) r3)
            ] in
            subst G q r.1
        | inr e ↦ let j' = sym (judged (upto n set) g) ∙ j in
            elim (cases_Bool (ahead (num start g) n)) [
              | inl a ↦ absurd (fresh_not_again _ (fresh_ahead depth n set (num start g) a) j')
              | inr a ↦ elim (cases_Bool (near depth (num start g) n)) [
                | inl b ↦ absurd (fresh_not_again _ (fresh_near depth n set (num start g) a e b) j')
                | inr b ↦ absurd (again_not_old _ j' (old_far depth n set (num start g) a e b))
              ]
            ]
      ]

  fresh_near_is : (n : ℕ) (set : ℕ → Bool) (g : ℕ) → judged_at depth (upto n set) (num start g) ≡ Fresh → ahead (num start g) n ≡ false
      → (set (num start g) ≡ false) × (near depth (num start g) n ≡ true)
  fresh_near_is n set g j a =
      is_near depth n set (num start g) (ap is_fresh (sym (judged (upto n set) g) ∙ j)) a

  -- what is found fresh was not found fresh before
  pub kept_fresh : (G : ℕ → Type 0) (z : Seen) (g : ℕ) → Kept depth start G z → Close G g → judged_at depth z (num start g) ≡ Fresh → G g → ⊥
  kept_fresh G blank g k c j x = k g x
  kept_fresh G (upto n set) g k c j x =
      let H : ℕ = k.0 in
      let cl = c H k.1 (λ y z. (k.3 y z).0) in
      let le = (k.3 g x).0 in
      let a : ahead (num start g) n ≡ false = rw k.2 (ahead_not g H le cl.1) in
      let p = fresh_near_is n set g j a in
      elim (cases_lt H (g + depth)) [
        | inl lt ↦ let e = (k.3 g x).1 lt in
            fresh_not_again _ (sym (judged (upto n set) g) ∙ j) (again_held depth n set (num start g) a e)
        | inr ge ↦ let far : near depth (num start g) n ≡ false =
            rw k.2 (let e = up_num start g H le (omega arith) in near_far depth (num start g) (num start H) (omega arith)) in
            (let z : ◌≡◌ {A = Bool} true false = sym p.1 ∙ far in let y : ◌≡◌ {A = ℕ} 0 1 = cc in omega arith)
      ]

  -- and what the note makes of it
  module _ (G G' : ℕ → Type 0) (g : ℕ) (up : (x : ℕ) → G x → G' x) (new : G' g) (dn : (x : ℕ) → G' x → G x ⊎ (x ≡ g)) where
    kept_with : (z : Seen) → Kept depth start G z → Close G g → judged_at depth z (num start g) ≡ Fresh → Kept depth start G' (with_fresh depth z (num start g))
    kept_with blank k c j =
        subst (Kept depth start G') (sym (blank_noted depth (num start g))) (
          g,
          new,
          refl,
          λ x y. elim (dn x y) [ inl o ↦ absurd (k x o) | inr e ↦ (omega (arith, e), λ lt. eq-eqb _ _ (ap (num start) e)) ],
          λ m e. (g, new, omega arith, eqb-true m _ e),
        )
    kept_with (upto n set) k c j =
        let H : ℕ = k.0 in
        let cl = c H k.1 (λ y z. (k.3 y z).0) in
        let cl0 = cl.0 in
        let cl1 = cl.1 in
        elim (cases_lt H g) [
          | inl lt ↦
              let a : ahead (num start g) n ≡ true = rw k.2 (ahead_yes g H lt cl.0) in
              subst (Kept depth start G') (sym (noted_ahead depth n set (num start g) a)) (
                g,
                new,
                refl,
                (λ x y. elim (dn x y) [
                  | inl o ↦ let le = (k.3 x o).0 in (
                    omega arith,
                    λ close. or_right _ _ (and_from _ _ ((k.3 x o).1 (omega arith)) (near_yes x g (omega arith) close)),
                  )
                  | inr e ↦ (omega (arith, e), λ close. or_left _ _ (eq-eqb _ _ (ap (num start) e)))
                ]),
                (λ m e. elim (or_cases _ _ e) [
                  | inl q ↦ (g, new, omega arith, eqb-true m _ q)
                  | inr q ↦ let t = and_parts _ _ q in
                      let r = k.4 m t.0 in
                      let le = (k.3 r.0 r.1).0 in
                      let r2 = r.2 in
                      let d = (near_is depth m (num start g) t.1).2 in
                      let p = up_num start r.0 g (omega arith) (omega arith) in
                      let p' : steps_up (num start g) m ≡ g - r.0 = ap (steps_up (num start g)) r.3 ∙ p in
                      (r.0, up r.0 r.1, omega arith, r.3)
                ]),
              )
          | inr ge ↦
              let a : ahead (num start g) n ≡ false = rw k.2 (ahead_not g H ge cl.1) in
              let p = fresh_near_is n set g j a in
              let p' : near depth (num start g) (num start H) ≡ true = subst (λ u. near depth (num start g) u ≡ true) k.2 p.1 in
              let steps = (near_is depth (num start g) (num start H) p').2 in
              let e = up_num start g H ge (omega arith) in
              let near_g : H < g + depth = omega arith in
              subst (Kept depth start G') (sym (noted_behind depth n set (num start g) a)) (
                H,
                up H k.1,
                k.2,
                (λ x y. elim (dn x y) [
                  | inl o ↦ ((k.3 x o).0, λ close. or_right _ _ ((k.3 x o).1 close))
                  | inr e ↦ (omega (arith, e), λ close. or_left _ _ (eq-eqb _ _ (ap (num start) e)))
                ]),
                (λ m e. elim (or_cases _ _ e) [
                  | inl q ↦ (g, new, near_g, eqb-true m _ q)
                  | inr q ↦ let r = k.4 m q in (r.0, up r.0 r.1, r.2, r.3)
                ]),
              )
        ]

    pub kept_note : (z : Seen) → Kept depth start G z → Close G g → judged_at depth z (num start g) ≡ Fresh → Kept depth start G' (noted_at depth z (num start g))
    kept_note z k c j = subst (Kept depth start G') (sym (noted_fresh depth z (num start g) j)) (kept_with z k c j)
