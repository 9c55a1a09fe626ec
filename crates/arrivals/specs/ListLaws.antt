-- Judging and noting where a place is kept as slots that hold the numbers.
-- (No proof needs `list_again`, `list_fresh` and `list_old` since `judge` is written once for all windows: they stand for whoever reads on.)
use Rattle.std.specs.Prelude.{◌≡◌, ℕ, ◌+◌, ◌<◌, ◌≤◌, true, false, cond, ◌&&◌, ◌||◌, ltb, leb, ◌⊎◌, List, [], Some, None, Option, is_some, map, ◌==◌, ◌≢◌, nat_lt, refl}
use Rattle.std.proofs.Common.{sym, ap, ap₂, subst, ◌∙◌, inl, inr, ⊎_elim, arith}
use Rattle.std.proofs.Math.Path.{fun_ext}
use Rattle.std.proofs.Math.Bool.{or-false, and-false}
use Rattle.std.proofs.lemmas.Bool.{cases_lt, cases_eq, cases_Bool, lt-ltb, le-ltb, le-leb, lt-leb, leb-true, leb-false, eq-eqb, ne_eqb}
use Rattle.search.specs.First.{first_under}
use Rattle.search.specs.Places.{some_under}
use Rattle.arrivals.specs.declared.number.Number.{Number}
use Rattle.arrivals.specs.Meaning.{steps_up, ahead, near, judged_number, with_fresh, is_fresh, blank, upto, SoundAt}
use Rattle.arrivals.specs.Slots.{Slot, holds, held, times, taken, keep_near, Tidy}
use Rattle.arrivals.specs.declared.book.Judgement.TheVariants.{Fresh, Again, Old}
use Rattle.arrivals.specs.Steps.{up_self, up_back, up_zero, ahead_far, ahead_is, near_true, near_far, near_is}
use Rattle.arrivals.specs.Judging.{again_held, fresh_near, old_far, is_near, noted_ahead, noted_behind}
use Rattle.arrivals.specs.SlotLaws.{one, none, found_times, lost_times, room, kept_near, kept_far}

held_yes : (xs : List Slot) (k : ℕ) → 0 < times k xs → held xs k ≡ true
held_yes xs k p = le-leb 1 (times k xs) (omega arith)

held_no : (xs : List Slot) (k : ℕ) → times k xs ≡ 0 → held xs k ≡ false
held_no xs k z = lt-leb 1 (times k xs) (omega arith)

-- what the search for a number finds
pub held_found : (key : Number) (xs : List Slot) (r : Option ℕ) → r ≡ first_under (λ x. some_under (λ n k. n.value == k.value) x key) xs → is_some r ≡ held xs key.value
held_found key xs r e = found r (e ∙ ap (λ p. first_under p xs) (fun_ext same))
  where
    same : (x : Slot) → some_under {R = Number} {K = Number} (λ n k. n.value == k.value) x key ≡ holds x key.value
    same None = refl
    same (Some n) = refl

    found : (r : Option ℕ) → r ≡ first_under (λ x. holds x key.value) xs → is_some r ≡ held xs key.value
    found (Some f) e = sym (held_yes xs key.value (found_times key.value 0 xs f (sym e)))
    found None e = sym (held_no xs key.value (lost_times key.value 0 xs (sym e)))

-- behind, from within the depth
not_ahead : (d h k : ℕ) → d ≤ 4096 → h < 16777216 → k < 16777216 → (k ≢ h) → steps_up h k < d → ahead k h ≡ false
not_ahead d h k low hh kk ne close =
    let some : 0 < steps_up h k = ⊎_elim (λ z. absurd (ne (sym (up_zero h k hh kk z)))) (λ nz. omega arith) (cases_eq (steps_up h k) 0) in
    ahead_far k h (omega (arith, up_back h k hh kk some))

-- one number put into slots that do not hold it
module _ (d h n : ℕ) (ys r : List Slot) (hh : h < 16777216) (nn : n < 16777216)
    (tm : (k : ℕ) → times k r ≡ cond (n == k) 1 0 + times k ys) (z : times n ys ≡ 0) where
  same_times : (k : ℕ) → n ≡ k → times k r ≡ 1
  same_times k e = let t = tm k in let c = one (n == k) (eq-eqb n k e) in let y : times k ys ≡ 0 = ap (λ v. times v ys) (sym e) ∙ z in omega arith

  other_times : (k : ℕ) → (n ≢ k) → times k r ≡ times k ys
  other_times k ne = let t = tm k in let c = none (n == k) (ne_eqb n k ne) in omega arith

  pub tidy_put : ((k : ℕ) → times k ys ≤ 1) → ((k : ℕ) → 0 < times k ys → (k < 16777216) × (steps_up h k < d)) → steps_up h n < d → (n ≡ h) ⊎ (times h ys ≡ 1) → Tidy d h r
  tidy_put once close p top = (
    hh,
    ⊎_elim (same_times h) (λ (t : times h ys ≡ 1). other_times h (λ e. let y : times h ys ≡ 0 = ap (λ v. times v ys) (sym e) ∙ z in omega arith) ∙ t) top,
    (λ k. ⊎_elim (λ (e : n ≡ k). let t = same_times k e in omega arith) (λ (ne : n ≡ k → ⊥). let t = other_times k ne in let o = once k in omega arith) (cases_eq n k)),
    λ k q. ⊎_elim
        (λ (e : n ≡ k). let m : steps_up h k < d = subst (λ (v : ℕ). steps_up h v < d) e p in (omega arith, m))
        (λ (ne : n ≡ k → ⊥). let t = other_times k ne in close k (omega arith))
        (cases_eq n k),
  )

  pub held_put : (k : ℕ) → held r k ≡ (k == n || held ys k)
  held_put k =
      ⊎_elim
      (λ (e : n ≡ k). let t = same_times k e in held_yes r k (omega arith) ∙ sym (ap (λ b. b || held ys k) (eq-eqb k n (sym e))))
      (λ (ne : n ≡ k → ⊥). ap (leb 1) (other_times k ne) ∙ sym (ap (λ b. b || held ys k) (ne_eqb k n (λ e. ne (sym e)))))
      (cases_eq n k)

module _ (d h : ℕ) (xs : List Slot) (n : ℕ) (low : d ≤ 4096) (tidy : Tidy d h xs) (nn : n < 16777216) where
  pub list_again : ahead n h ≡ false → 0 < times n xs → judged_number d (upto h (held xs)) n ≡ Again
  list_again a p = again_held d h (held xs) n a (held_yes xs n p)

  pub list_fresh : ahead n h ≡ false → times n xs ≡ 0 → steps_up h n < d → judged_number d (upto h (held xs)) n ≡ Fresh
  list_fresh a z p =
      let other : n ≡ h → ⊥ = λ e. let y : times h xs ≡ 0 = ap (λ v. times v xs) (sym e) ∙ z in let t = tidy.1 in omega arith in
      fresh_near d h (held xs) n a (held_no xs n z) (near_true d n h a other p)

  pub list_old : ahead n h ≡ false → times n xs ≡ 0 → d ≤ steps_up h n → judged_number d (upto h (held xs)) n ≡ Old
  list_old a z p = old_far d h (held xs) n a (held_no xs n z) (near_far d n h p)

  -- a fresh number is not held
  pub absent_behind : is_fresh (judged_number d (upto h (held xs)) n) ≡ true → ahead n h ≡ false → (times n xs ≡ 0) × (steps_up h n < d)
  absent_behind f a =
      let is = is_near d h (held xs) n f a in
      let few = leb-false 1 (times n xs) is.0 in
      (omega arith, (near_is d n h is.1).2)

  pub absent_ahead : ahead n h ≡ true → times n xs ≡ 0
  absent_ahead a =
      ⊎_elim
      (λ (p : 0 < times n xs). let far = ahead_is n h a in let close = tidy.3 n p in absurd (omega (arith, up_back n h nn tidy.0 (omega arith))))
      (λ (q : times n xs ≤ 0). omega arith)
      (cases_lt 0 (times n xs))

  pub behind_room : times n xs ≡ 0 → steps_up h n < d → taken xs < d
  behind_room z p = room d h low tidy.0 xs n tidy.2 tidy.3 nn p z

  pub list_behind : (r : List Slot) → ((k : ℕ) → times k r ≡ cond (n == k) 1 0 + times k xs) → ahead n h ≡ false → times n xs ≡ 0 → upto h (held r) ≡ with_fresh d (upto h (held xs)) n
  list_behind r tm a z = ap (upto h) (fun_ext (held_put d h n xs r tidy.0 nn tm z)) ∙ sym (noted_behind d h (held xs) n a)

  -- what is kept where a number ahead is noted
  abbrev ys : List Slot
  ys = map (keep_near d n) xs

  kept_once : (k : ℕ) → times k ys ≤ 1
  kept_once k =
      ⊎_elim
      (λ (t : ltb (steps_up n k) d ≡ true). let e = kept_near d n k xs t in let o = tidy.2 k in omega arith)
      (λ (f : ltb (steps_up n k) d ≡ false). let e = kept_far d n k xs f in omega arith)
      (cases_Bool (nat_lt (steps_up n k) d))

  kept_close : (k : ℕ) → 0 < times k ys → (k < 16777216) × (steps_up n k < d)
  kept_close k q =
      ⊎_elim
      (λ (close : steps_up n k < d). let e = kept_near d n k xs (lt-ltb (steps_up n k) d close) in ((tidy.3 k (omega arith)).0, close))
      (λ (far : d ≤ steps_up n k). let e = kept_far d n k xs (le-ltb (steps_up n k) d far) in absurd (omega arith))
      (cases_lt (steps_up n k) d)

  kept_absent : 1 ≤ d → ahead n h ≡ true → times n ys ≡ 0
  kept_absent some-d a = kept_near d n n xs (lt-ltb (steps_up n n) d (rw (up_self n nn) some-d)) ∙ absent_ahead a

  pub ahead_room : 1 ≤ d → ahead n h ≡ true → taken ys < d
  ahead_room some-d a = room d n low nn ys n kept_once kept_close nn (rw (up_self n nn) some-d) (kept_absent some-d a)

  module _ (r : List Slot) (tm : (k : ℕ) → times k r ≡ cond (n == k) 1 0 + times k ys) (some-d : 1 ≤ d) (a : ahead n h ≡ true) where
    pub tidy_ahead : Tidy d n r
    tidy_ahead = tidy_put d n n ys r nn nn tm (kept_absent some-d a) kept_once kept_close (rw (up_self n nn) some-d) (inl refl)

    ahead_at : (k : ℕ) → held r k ≡ (k == n || (held xs k && near d k n))
    ahead_at k =
        held_put d n n ys r nn nn tm (kept_absent some-d a) k ∙
        ⊎_elim
        (λ (e : k ≡ n). ap (λ b. b || held ys k) (eq-eqb k n e) ∙ sym (ap (λ b. b || (held xs k && near d k n)) (eq-eqb k n e)))
        (λ (ne : k ≡ n → ⊥). ap (λ b. (k == n) || b)
        (⊎_elim
        (λ (close : steps_up n k < d). ap (leb 1) (kept_near d n k xs (lt-ltb (steps_up n k) d close)) ∙
        ⊎_elim
        (λ (p : 0 < times k xs). held_yes xs k p ∙ sym (ap₂ ◌&&◌ (held_yes xs k p) (near_true d k n (not_ahead d n k low nn (tidy.3 k p).0 ne close) ne close)))
        (λ (q : times k xs ≤ 0). let z : times k xs ≡ 0 = omega arith in held_no xs k z ∙ sym (ap (λ b. b && near d k n) (held_no xs k z)))
        (cases_lt 0 (times k xs)))
        (λ (far : d ≤ steps_up n k). held_no ys k (kept_far d n k xs (le-ltb (steps_up n k) d far)) ∙ sym (ap (λ b. held xs k && b) (near_far d k n far) ∙ and-false (held xs k)))
        (cases_lt (steps_up n k) d)))
        (cases_eq k n)

    pub list_moved : upto n (held r) ≡ with_fresh d (upto h (held xs)) n
    list_moved = ap (upto n) (fun_ext ahead_at) ∙ sym (noted_ahead d h (held xs) n a)

pub list_sound : (d h : ℕ) (xs : List Slot) → d ≤ 4096 → Tidy d h xs → SoundAt d (upto h (held xs))
list_sound d h xs low tidy = (tidy.0, held_yes xs h (let t = tidy.1 in omega arith), others)
  where
    others : (k : ℕ) → held xs k ≡ true → (k < 16777216) × ((k ≡ h) ⊎ (near d k h ≡ true))
    others k e =
        let close = tidy.3 k (omega (arith, leb-true 1 (times k xs) e)) in
        (close.0, ⊎_elim inl (λ ne. inr (near_true d k h (not_ahead d h k low tidy.0 close.0 ne close.1) ne close.1)) (cases_eq k h))

-- the first number of a place
pub tidy_first : (d n : ℕ) (r : List Slot) → 1 ≤ d → n < 16777216 → ((k : ℕ) → times k r ≡ cond (n == k) 1 0 + 0) → Tidy d n r
tidy_first d n r some-d nn tm = tidy_put d n n [] r nn nn tm refl (λ k. omega arith) (λ k p. absurd (omega arith)) (rw (up_self n nn) some-d) (inl refl)

pub list_first : (d n : ℕ) (r : List Slot) → n < 16777216 → ((k : ℕ) → times k r ≡ cond (n == k) 1 0 + 0) → upto n (held r) ≡ with_fresh d blank n
unfolding with_fresh
list_first d n r nn tm = ap (upto n) (fun_ext (λ k. held_put d n n [] r nn nn tm refl k ∙ or-false (k == n)))
