-- Slots that hold numbers.
use Rattle.std.specs.Prelude.{◌≡◌, ℕ, zero, suc, ◌+◌, ◌<◌, ◌≤◌, Bool, true, false, cond, ◌&&◌, ltb, List, [], ◌∷◌, map, length, Some, None, ◌==◌, nat_lt, slice_index_or, slice_set, refl}
use Rattle.std.proofs.Math.Path.{sym, ap}
use Rattle.std.proofs.Common.{ap₂, ◌∙◌, ⊎_elim}
use Rattle.std.proofs.Math.Bool.{and-false}
use native.Mathlib.Omega.{arith}
use Rattle.std.proofs.lemmas.Bool.{cases_eq, cases_Bool, eq-eqb, ne_eqb, false≢true}
use Rattle.arrivals.specs.Meaning.{steps_up}
use Rattle.search.specs.First.{first_from}
use Rattle.arrivals.specs.Slots.{Slot, holds, is_free, times, taken, keep_near}
use Rattle.arrivals.specs.declared.number.Number.{Number}
use Rattle.arrivals.specs.Steps.{up_twice}

-- a test counted
pub one : (b : Bool) → b ≡ true → ◌≡◌ {A = ℕ} (cond b 1 0) 1
one b e = simp e

pub none : (b : Bool) → b ≡ false → ◌≡◌ {A = ℕ} (cond b 1 0) 0
none b e = simp e

-- the search for a number
pub found_times : (k i : ℕ) (xs : List Slot) (f : ℕ) → first_from (λ x. holds x k) i xs ≡ Some f → 0 < times k xs
found_times k i [] f e = absurd (let z : ◌≡◌ {A = ℕ} 0 1 = cc in omega arith)
found_times k i (x ∷ xs) f e =
    ⊎_elim
    (λ (t : holds x k ≡ true). let here = one (holds x k) t in omega arith)
    (λ (n : holds x k ≡ false). let more = found_times k (i + 1) xs f (simp n at e) in omega arith)
    (cases_Bool (holds x k))

pub lost_times : (k i : ℕ) (xs : List Slot) → first_from (λ x. holds x k) i xs ≡ None → times k xs ≡ 0
lost_times k i [] e = refl
lost_times k i (x ∷ xs) e =
    ⊎_elim
    (λ (t : holds x k ≡ true). absurd (let s = simp t at e in let z : ◌≡◌ {A = ℕ} 0 1 = cc in omega arith))
    (λ (n : holds x k ≡ false). let here = none (holds x k) n in let more = lost_times k (i + 1) xs (simp n at e) in omega arith)
    (cases_Bool (holds x k))

-- the search for a free slot
pub full : (i : ℕ) (xs : List Slot) → first_from is_free i xs ≡ None → taken xs ≡ length xs
full i [] e = refl
full i (None ∷ xs) e = absurd (let z : ◌≡◌ {A = ℕ} 0 1 = cc in omega arith)
full i (Some n ∷ xs) e = let more = full (i + 1) xs e in omega arith

pub put_times : (xs : List Slot) (f : ℕ) (n : Number) (k : ℕ) → f < length xs → is_free (slice_index_or xs f None) ≡ true → times k (slice_set xs f (Some n)) ≡ cond (n.value == k) 1 0 + times k xs
put_times [] f n k p e = absurd (omega arith)
put_times (None ∷ xs) zero n k p e = omega arith
put_times (Some m ∷ xs) zero n k p e = absurd (false≢true e)
put_times (x ∷ xs) (suc f) n k p e = let more = put_times xs f n k (omega arith) e in omega arith

-- sums over the places behind
sum_to : ℕ → (ℕ → ℕ) → ℕ
sum_to zero f = 0
sum_to (suc m) f = f m + sum_to m f

sum_ext : (m : ℕ) (f g : ℕ → ℕ) → ((j : ℕ) → j < m → f j ≡ g j) → sum_to m f ≡ sum_to m g
unfolding sum_to
sum_ext zero f g e = refl
sum_ext (suc m) f g e = ap₂ ◌+◌ (e m (omega arith)) (sum_ext m f g (λ j h. e j (omega arith)))

sum_add : (m : ℕ) (f g : ℕ → ℕ) → sum_to m (λ j. f j + g j) ≡ sum_to m f + sum_to m g
unfolding sum_to
sum_add zero f g = refl
sum_add (suc m) f g = let more = sum_add m f g in omega arith

sum_zero : (m : ℕ) → sum_to m (λ j. 0) ≡ 0
unfolding sum_to
sum_zero zero = refl
sum_zero (suc m) = let more = sum_zero m in omega arith

sum_miss : (m l : ℕ) → m ≤ l → sum_to m (λ j. cond (l == j) 1 0) ≡ 0
unfolding sum_to
sum_miss zero l h = refl
sum_miss (suc m) l h =
    let more = sum_miss m l (omega arith) in
    let here = none (l == m) (ne_eqb l m (omega arith)) in
    omega arith

sum_hit : (m l : ℕ) → l < m → sum_to m (λ j. cond (l == j) 1 0) ≡ 1
unfolding sum_to
sum_hit zero l h = absurd (omega arith)
sum_hit (suc m) l h =
    ⊎_elim
    (λ e. let here = one (l == m) (eq-eqb l m e) in let rest = sum_miss m l (omega arith) in omega arith)
    (λ ne. let here = none (l == m) (ne_eqb l m ne) in let more = sum_hit m l (omega arith) in omega arith)
    (cases_eq l m)

sum_le : (m : ℕ) (f : ℕ → ℕ) → ((j : ℕ) → f j ≤ 1) → sum_to m f ≤ m
unfolding sum_to
sum_le zero f h = omega arith
sum_le (suc m) f h = let here = h m in let more = sum_le m f h in omega arith

sum_gap : (m : ℕ) (f : ℕ → ℕ) (l : ℕ) → ((j : ℕ) → f j ≤ 1) → l < m → f l ≡ 0 → sum_to m f < m
unfolding sum_to
sum_gap zero f l h p z = absurd (omega arith)
sum_gap (suc m) f l h p z =
    ⊎_elim
    (λ e. let here : f m ≡ 0 = ap f (sym e) ∙ z in let more = sum_le m f h in omega arith)
    (λ ne. let here = h m in let more = sum_gap m f l h (omega arith) z in omega arith)
    (cases_eq l m)

module _ (d h : ℕ) (low : d ≤ 4096) (hh : h < 16777216) where
  Near : List Slot → Type 0
  Near xs = (k : ℕ) → 0 < times k xs → (k < 16777216) × (steps_up h k < d)

  lag_test : (n j : ℕ) → n < 16777216 → j < d → (n == steps_up h j) ≡ (steps_up h n == j)
  lag_test n j nn jj =
      ⊎_elim
      (λ e. eq-eqb n (steps_up h j) e ∙ sym (eq-eqb (steps_up h n) j (ap (steps_up h) e ∙ up_twice h j hh (omega arith))))
      (λ ne. ne_eqb n (steps_up h j) ne ∙ sym (ne_eqb (steps_up h n) j (λ e. ne (sym (up_twice h n hh nn) ∙ ap (steps_up h) e))))
      (cases_eq n (steps_up h j))

  -- each number that is held is at one place behind
  taken_sum : (xs : List Slot) → Near xs → taken xs ≡ sum_to d (λ j. times (steps_up h j) xs)
  unfolding Near
  taken_sum [] near = sym (sum_zero d)
  taken_sum (None ∷ xs) near =
      let more = taken_sum xs (λ k p. near k (omega arith)) in
      let same = sum_ext d (λ j. 0 + times (steps_up h j) xs) (λ j. times (steps_up h j) xs) (λ j _. omega arith) in
      omega arith
  taken_sum (Some m ∷ xs) near =
      let more = taken_sum xs (λ k p. near k (omega arith)) in
      let n = m.value in
      let self = one (holds (Some m) n) (eq-eqb n n refl) in
      let here = near n (omega arith) in
      let split = sum_add d (λ j. cond (n == steps_up h j) 1 0) (λ j. times (steps_up h j) xs) in
      let tests = sum_ext d (λ j. cond (n == steps_up h j) 1 0) (λ j. cond (steps_up h n == j) 1 0) (λ j p. ap (λ b. cond b 1 0) (lag_test n j here.0 p)) in
      let hit = sum_hit d (steps_up h n) here.1 in
      omega arith

  -- where each number is held once at most, and one of the depth is not held, a slot is free
  pub room : (xs : List Slot) (n : ℕ) → ((k : ℕ) → times k xs ≤ 1) → ((k : ℕ) → 0 < times k xs → (k < 16777216) × (steps_up h k < d)) → n < 16777216 → steps_up h n < d → times n xs ≡ 0 → taken xs < d
  unfolding Near
  room xs n once near nn p z =
      let all = taken_sum xs near in
      let gap = sum_gap d (λ j. times (steps_up h j) xs) (steps_up h n) (λ j. once (steps_up h j)) p (ap (λ k. times k xs) (up_twice h n hh nn) ∙ z) in
      omega arith

-- forgetting
holds_cond : (c : Bool) (m : Number) (k : ℕ) → holds (cond c (Some m) None) k ≡ (c && m.value == k)
holds_cond true m k = refl
holds_cond false m k = refl

kept_in : (d n k : ℕ) (x : Slot) → nat_lt (steps_up n k) d ≡ true → holds (keep_near d n x) k ≡ holds x k
kept_in d n k None t = refl
kept_in d n k (Some number) t =
    let m = number.value in
    holds_cond (nat_lt (steps_up n m) d) number k ∙
    ⊎_elim
    (λ (e : m ≡ k). ap (λ b. b && m == k) (ap (λ v. ltb (steps_up n v) d) e ∙ t))
    (λ (ne : m ≡ k → ⊥). ap (λ b. nat_lt (steps_up n m) d && b) (ne_eqb m k ne) ∙ and-false (nat_lt (steps_up n m) d) ∙ sym (ne_eqb m k ne))
    (cases_eq m k)

kept_out : (d n k : ℕ) (x : Slot) → nat_lt (steps_up n k) d ≡ false → holds (keep_near d n x) k ≡ false
kept_out d n k None t = refl
kept_out d n k (Some number) t =
    let m = number.value in
    holds_cond (nat_lt (steps_up n m) d) number k ∙
    ⊎_elim
    (λ (e : m ≡ k). ap (λ b. b && m == k) (ap (λ v. ltb (steps_up n v) d) e ∙ t))
    (λ (ne : m ≡ k → ⊥). ap (λ b. nat_lt (steps_up n m) d && b) (ne_eqb m k ne) ∙ and-false (nat_lt (steps_up n m) d))
    (cases_eq m k)

pub kept_near : (d n k : ℕ) (xs : List Slot) → nat_lt (steps_up n k) d ≡ true → times k (map (keep_near d n) xs) ≡ times k xs
kept_near d n k [] t = refl
kept_near d n k (x ∷ xs) t = ap₂ ◌+◌ (ap (λ b. cond b 1 0) (kept_in d n k x t)) (kept_near d n k xs t)

pub kept_far : (d n k : ℕ) (xs : List Slot) → nat_lt (steps_up n k) d ≡ false → times k (map (keep_near d n) xs) ≡ 0
kept_far d n k [] t = refl
kept_far d n k (x ∷ xs) t = ap₂ ◌+◌ (ap (λ b. cond b 1 0) (kept_out d n k x t)) (kept_far d n k xs t)

-- a reading serves as its own default
pub get_d_self : {X : Type 0} (xs : List X) (i : ℕ) (d : X) → slice_index_or xs i d ≡ slice_index_or xs i (slice_index_or xs i d)
get_d_self [] i d = refl
get_d_self (x ∷ xs) zero d = refl
get_d_self (x ∷ xs) (suc i) d = get_d_self xs i d
