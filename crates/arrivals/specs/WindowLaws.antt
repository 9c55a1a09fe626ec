-- Judging and noting where a place is kept as marks, at any depth up to 4,096. What window the marks has to show only what becomes of each mark.
-- (No proof needs `window_ahead`, `window_old`, `window_again` and `window_fresh` since `judge` is written once for all windows: they stand for whoever reads on.)
use Rattle.std.specs.Prelude.{◌≡◌, ℕ, ◌-◌, ◌<◌, ◌≤◌, Bool, true, false, ◌&&◌, ◌||◌, ◌⊎◌, ◌==◌, ◌≢◌, refl}
use Rattle.std.proofs.Math.Path.{sym, ap, fun_ext}
use Rattle.std.proofs.Common.{◌∙◌, inl, inr, ⊎_elim, arith}
use Rattle.std.proofs.Math.Bool.{true≢false, and-false, and-true}
use Rattle.std.proofs.lemmas.Bool.{cases_lt, cases_eq, lt-ltb, le-ltb, le-leb, lt-leb, eq-eqb, ne_eqb}
use Rattle.arrivals.specs.Meaning.{steps_up, ahead, near, judged_number, with_fresh, is_fresh, blank, upto, SoundAt}
use Rattle.arrivals.specs.Windows.{marked, window}
use Rattle.arrivals.specs.declared.book.Judgement.TheVariants.{Fresh, Again, Old}
use Rattle.arrivals.specs.Steps.{up_below, up_zero, up_self, up_back, up_on, up_same, ahead_far, ahead_is, near_true, near_far, near_is}
use Rattle.arrivals.specs.Judging.{fresh_ahead, again_held, fresh_near, old_far, is_near, noted_ahead, noted_behind}

pub window_is : (d h : ℕ) (m : ℕ → Bool) → window d h m ≡ upto h (marked d h m)
unfolding window
window_is d h m = refl

-- one mark
module _ (d h : ℕ) (m : ℕ → Bool) where
  pub marked_in : (k : ℕ) → k < 16777216 → steps_up h k < d → marked d h m k ≡ m (steps_up h k)
  unfolding marked
  marked_in k p q = simp (le-leb k 16777215 (omega arith), lt-ltb (steps_up h k) d q)

  pub marked_high : (k : ℕ) → 16777215 < k → marked d h m k ≡ false
  unfolding marked
  marked_high k p = simp (lt-leb k 16777215 p)

  pub marked_far : (k : ℕ) → d ≤ steps_up h k → marked d h m k ≡ false
  unfolding marked
  marked_far k q = simp (le-ltb (steps_up h k) d q, and-false)

-- a place with its newest number, and a number
module _ (d h : ℕ) (m : ℕ → Bool) (n : ℕ) (some-d : 1 ≤ d) (low : d ≤ 4096) (hh : h < 16777216) (nn : n < 16777216) where
  pub window_ahead : ahead n h ≡ true → judged_number d (window d h m) n ≡ Fresh
  unfolding window
  window_ahead a = fresh_ahead d h (marked d h m) n a

  pub window_old : ahead n h ≡ false → d ≤ steps_up h n → judged_number d (window d h m) n ≡ Old
  unfolding window
  window_old a p = old_far d h (marked d h m) n a (marked_far d h m n p) (near_far d n h p)

  pub window_again : ahead n h ≡ false → steps_up h n < d → m (steps_up h n) ≡ true → judged_number d (window d h m) n ≡ Again
  unfolding window
  window_again a p e = again_held d h (marked d h m) n a (marked_in d h m n nn p ∙ e)

  pub window_fresh : ahead n h ≡ false → m 0 ≡ true → steps_up h n < d → m (steps_up h n) ≡ false → judged_number d (window d h m) n ≡ Fresh
  unfolding window
  window_fresh a z p e =
      let other : n ≡ h → ⊥ = λ same. true≢false (sym z ∙ sym (ap m (ap (steps_up h) same ∙ up_self h hh)) ∙ e) in
      fresh_near d h (marked d h m) n a (marked_in d h m n nn p ∙ e) (near_true d n h a other p)

  -- a fresh number that is not ahead is within the depth
  pub window_near : is_fresh (judged_number d (window d h m) n) ≡ true → ahead n h ≡ false → steps_up h n < d
  unfolding window
  window_near f a = (near_is d n h (is_near d h (marked d h m) n f a).1).2

  -- noting a number behind sets its mark
  module _ (a : ahead n h ≡ false) (p : steps_up h n < d) (m' : ℕ → Bool) (marks : (j : ℕ) → j < d → m' j ≡ (j == steps_up h n || m j)) where
    behind_at : (k : ℕ) → marked d h m' k ≡ (k == n || marked d h m k)
    behind_at k =
        ⊎_elim
        (λ high. marked_high d h m' k high ∙ sym (simp (ne_eqb k n (omega arith), marked_high d h m k high)))
        (λ within. ⊎_elim
        (λ far. let ne : k ≡ n → ⊥ = λ e. omega (arith, ap (steps_up h) e) in
        marked_far d h m' k far ∙ sym (simp (ne_eqb k n ne, marked_far d h m k far)))
        (λ close. let kk : k < 16777216 = omega arith in
        marked_in d h m' k kk close ∙ marks (steps_up h k) close ∙
        ⊎_elim
        (λ e. simp (eq-eqb (steps_up h k) (steps_up h n) (ap (steps_up h) e), eq-eqb k n e))
        (λ ne. simp (ne_eqb (steps_up h k) (steps_up h n) (λ q. ne (up_same h k n hh kk nn q)), ne_eqb k n ne, marked_in d h m k kk close))
        (cases_eq k n))
        (⊎_elim inr inl (cases_lt (steps_up h k) d)))
        (cases_lt 16777215 k)

    pub window_behind : window d h m' ≡ with_fresh d (window d h m) n
    unfolding window
    window_behind = ap (upto h) (fun_ext behind_at) ∙ sym (noted_behind d h (marked d h m) n a)

  -- noting a number ahead moves each mark up, by as many steps as the number is ahead
  module _ (a : ahead n h ≡ true) (m' : ℕ → Bool) (top : m' 0 ≡ true)
      (none : (j : ℕ) → 0 < j → j < d → j < steps_up n h → m' j ≡ false)
      (moved : (j : ℕ) → j < d → steps_up n h ≤ j → m' j ≡ m (j - steps_up n h)) where
    lags : (k : ℕ) → k < 16777216 → (k ≢ n) → 0 < steps_up n k
    lags k kk ne = ⊎_elim (λ z. absurd (ne (sym (up_zero n k nn kk z)))) (λ nz. omega arith) (cases_eq (steps_up n k) 0)

    -- one below the depth that is not the newest
    ahead_close : (k : ℕ) → k < 16777216 → (k ≢ n) → steps_up n k < d → m' (steps_up n k) ≡ marked d h m k
    ahead_close k kk ne close =
        let is = ahead_is n h a in
        let on = up_on n h k nn hh kk in
        let low-k = up_below h k in
        let some = lags k kk ne in
        ⊎_elim
        (λ lt. let far : d ≤ steps_up h k = omega arith in
        none (steps_up n k) some close lt ∙ sym (marked_far d h m k far))
        (λ ge. let e : steps_up n k - steps_up n h ≡ steps_up h k = omega arith in
        let in-d : steps_up h k < d = omega arith in
        moved (steps_up n k) close ge ∙ ap m e ∙ sym (marked_in d h m k kk in-d))
        (cases_lt (steps_up n k) (steps_up n h))

    ahead_at : (k : ℕ) → marked d n m' k ≡ (k == n || (marked d h m k && near d k n))
    ahead_at k =
        ⊎_elim
        (λ high. marked_high d n m' k high ∙ sym (simp (ne_eqb k n (omega arith), marked_high d h m k high)))
        (λ within. let kk : k < 16777216 = omega arith in
        ⊎_elim
        (λ e. let z : steps_up n k ≡ 0 = ap (steps_up n) e ∙ up_self n nn in
        marked_in d n m' k kk (omega arith) ∙ ap m' z ∙ top ∙ sym (simp (eq-eqb k n e)))
        (λ ne. ⊎_elim
        (λ close. let some = lags k kk ne in
        let not_ahead : ahead k n ≡ false = ahead_far k n (omega (arith, up_back n k nn kk some)) in
        marked_in d n m' k kk close ∙ ahead_close k kk ne close ∙ sym (simp (ne_eqb k n ne, near_true d k n not_ahead ne close, and-true)))
        (λ far. marked_far d n m' k far ∙ sym (simp (ne_eqb k n ne, near_far d k n far, and-false)))
        (cases_lt (steps_up n k) d))
        (cases_eq k n))
        (cases_lt 16777215 k)

    pub window_moved : window d n m' ≡ with_fresh d (window d h m) n
    unfolding window
    window_moved = ap (upto n) (fun_ext ahead_at) ∙ sym (noted_ahead d h (marked d h m) n a)

-- a blank place takes its first number
pub window_first : (d n : ℕ) (m : ℕ → Bool) → 1 ≤ d → n < 16777216 → m 0 ≡ true → ((j : ℕ) → 0 < j → j < d → m j ≡ false) → window d n m ≡ with_fresh d blank n
unfolding window with_fresh
window_first d n m some-d nn top none = ap (upto n) (fun_ext at)
  where
    at : (k : ℕ) → marked d n m k ≡ (k == n)
    at k =
        ⊎_elim
        (λ high. marked_high d n m k high ∙ sym (ne_eqb k n (omega arith)))
        (λ within. let kk : k < 16777216 = omega arith in
        ⊎_elim
        (λ e. let z : steps_up n k ≡ 0 = ap (steps_up n) e ∙ up_self n nn in
        marked_in d n m k kk (omega arith) ∙ ap m z ∙ top ∙ sym (eq-eqb k n e))
        (λ ne. let some : 0 < steps_up n k = ⊎_elim (λ z. absurd (ne (sym (up_zero n k nn kk z)))) (λ nz. omega arith) (cases_eq (steps_up n k) 0) in
        ⊎_elim
        (λ close. marked_in d n m k kk close ∙ none (steps_up n k) some close ∙ sym (ne_eqb k n ne))
        (λ far. marked_far d n m k far ∙ sym (ne_eqb k n ne))
        (cases_lt (steps_up n k) d))
        (cases_eq k n))
        (cases_lt 16777215 k)

pub window_sound : (d h : ℕ) (m : ℕ → Bool) → 1 ≤ d → d ≤ 4096 → h < 16777216 → m 0 ≡ true → SoundAt d (window d h m)
unfolding window
window_sound d h m some-d low hh top = (hh, marked_in d h m h hh (rw (up_self h hh) some-d) ∙ ap m (up_self h hh) ∙ top, others)
  where
    others : (k : ℕ) → marked d h m k ≡ true → (k < 16777216) × ((k ≡ h) ⊎ (near d k h ≡ true))
    others k e =
        ⊎_elim
        (λ high. absurd (true≢false (sym e ∙ marked_high d h m k high)))
        (λ within. let kk : k < 16777216 = omega arith in
        ⊎_elim
        (λ close. (
          kk,
          ⊎_elim inl (λ ne.
              let some : 0 < steps_up h k = ⊎_elim (λ z. absurd (ne (sym (up_zero h k hh kk z)))) (λ nz. omega arith) (cases_eq (steps_up h k) 0) in
              inr (near_true d k h (ahead_far k h (omega (arith, up_back h k hh kk some))) ne close)) (cases_eq k h),
        ))
        (λ far. absurd (true≢false (sym e ∙ marked_far d h m k far)))
        (cases_lt (steps_up h k) d))
        (cases_lt 16777215 k)
