-- How long a noted number is known, from the definitions alone.
use Rattle.std.proofs.Common.{◌≡◌, ℕ, ◌+◌, ◌<◌, ◌≤◌, Bool, true, false, cond, ◌&&◌, ◌||◌, eqb, ltb, List, [], ◌∷◌, sym, refl, ap, ◌∙◌, subst, ⊎_elim, arith}
use mathlib.Core.Bool.{and-false}
use Rattle.std.proofs.lemmas.Bool.{cases_eq, cases_lt, cases_Bool, eq-eqb, ne_eqb, lt-ltb, le-ltb, or_left, or_right}
use Rattle.arrivals.specs.Meaning.{steps_up, ahead, near, judged, judged_at, judged_number, noted, noted_at, with_fresh, new_book, is_fresh, Seen, Book, blank, upto, SoundAt}
use Rattle.arrivals.specs.Histories.{Note, after, lag, rise, climb, distance, Remembers}
use Rattle.arrivals.specs.declared.book.Judgement.TheVariants.{Fresh, Again, Old}
use Rattle.arrivals.specs.Steps.{up_self, up_zero, up_back, up_on, ahead_far, ahead_is, near_true, near_far, near_is}
use Rattle.arrivals.specs.Judging.{again_held, old_far, is_near, noted_ahead, noted_behind}
use Rattle.arrivals.proofs.PlaceLaws.{judged_number_lem, fresh_number, noted_fresh, noted_none, judged_in, fresh_place, noted_here}
use Rattle.arrivals.proofs.HistoryLaws.{fresh_or_not, not_itself_ahead, by_place, sound_after, sound_new}

-- what a place knows of n while its newest number is t steps past it: n is in the set just within the depth
abbrev Knows : ℕ → ℕ → ℕ → Seen → Type 0
Knows d n t blank = ⊥
Knows d n t (upto h s) = (h < 16777216) × (steps_up h n ≡ t) × (s n ≡ ltb t d)

module _ (d n : ℕ) (some-d : 1 ≤ d) (low : d ≤ 4096) (nn : n < 16777216) where
  -- n is not ahead of a number that is so few steps past it
  not_ahead : (h t : ℕ) → h < 16777216 → steps_up h n ≡ t → t ≤ 8388608 → ahead n h ≡ false
  not_ahead h t hh e few =
      ⊎_elim
      (λ (z : steps_up h n ≡ 0). subst (λ (v : ℕ). ahead n v ≡ false) (sym (up_zero h n hh nn z)) (not_itself_ahead n nn))
      (λ nz. ahead_far n h (omega (arith, up_back h n hh nn (omega arith))))
      (cases_eq (steps_up h n) 0)

  knows_judged : (t : ℕ) (s : Seen) → t ≤ 8388608 → Knows d n t s → judged_number d s n ≡ cond (ltb t d) Again Old
  knows_judged t blank few k = absurd k
  knows_judged t (upto h s) few k =
      let a = not_ahead h t k.0 k.1 few in
      ⊎_elim
      (λ (close : t < d). again_held d h s n a (k.2 ∙ lt-ltb t d close) ∙ sym (ap (λ b. cond b Again Old) (lt-ltb t d close)))
      (λ (far : d ≤ t). old_far d h s n a (k.2 ∙ le-ltb t d far) (near_far d n h (rw k.1 far)) ∙ sym (ap (λ b. cond b Again Old) (le-ltb t d far)))
      (cases_lt t d)

  -- just after it was noted
  knows_noted : (s : Seen) → judged_number d s n ≡ Fresh → SoundAt d s → Knows d n (lag (with_fresh d s n) n) (with_fresh d s n)
  unfolding with_fresh
  knows_noted blank f ok = (nn, refl, eq-eqb n n refl ∙ sym (lt-ltb (steps_up n n) d (rw (up_self n nn) some-d)))
  knows_noted (upto h s) f ok =
      ⊎_elim
      (λ (a : ahead n h ≡ true). subst (λ w. Knows d n (lag w n) w) (sym (noted_ahead d h s n a))
      (nn, refl, or_left (eqb n n) _ (eq-eqb n n refl) ∙ sym (lt-ltb (steps_up n n) d (rw (up_self n nn) some-d))))
      (λ (a : ahead n h ≡ false). subst (λ w. Knows d n (lag w n) w) (sym (noted_behind d h s n a))
      (ok.0, refl, or_left (eqb n n) _ (eq-eqb n n refl) ∙ sym (lt-ltb (steps_up h n) d (near_is d n h (is_near d h s n (ap is_fresh f) a).1).2)))
      (cases_Bool (ahead n h))

  -- a note that moves the newest number up
  knows_ahead : (t h m : ℕ) (s : ℕ → Bool) → m < 16777216 → ahead m h ≡ true → t + steps_up m h ≤ 8388608
      → Knows d n t (upto h s) → Knows d n (t + steps_up m h) (upto m (λ k. eqb k m || (s k && near d k m)))
  knows_ahead t h m s mm a few k =
      let up = ahead_is m h a in
      let on = up_on m h n mm k.0 nn in
      let here = k.1 in
      let far : steps_up m n ≡ t + steps_up m h = omega arith in
      let other : n ≡ m → ⊥ = λ e. let z : steps_up m n ≡ 0 = ap (steps_up m) e ∙ up_self m mm in omega arith in (
        mm,
        far,
        ap (λ b. b || (s n && near d n m)) (ne_eqb n m other) ∙
            ⊎_elim
            (λ (close : t + steps_up m h < d).
            ap (λ b. b && near d n m) (k.2 ∙ lt-ltb t d (omega arith)) ∙ near_true d n m (not_ahead m (t + steps_up m h) mm far few) other (rw far close) ∙ sym (lt-ltb (t + steps_up m h) d close))
            (λ (past : d ≤ t + steps_up m h).
            ap (λ b. s n && b) (near_far d n m (rw far past)) ∙ and-false (s n) ∙ sym (le-ltb (t + steps_up m h) d past))
            (cases_lt (t + steps_up m h) d),
      )

  -- a note that leaves it
  knows_behind : (t h m : ℕ) (s : ℕ → Bool) → steps_up h m < d → Knows d n t (upto h s) → Knows d n t (upto h (λ k. eqb k m || s k))
  knows_behind t h m s close k = (
    k.0,
    k.1,
    ⊎_elim
        (λ (within : t < d). or_right (eqb n m) (s n) (k.2 ∙ lt-ltb t d within) ∙ sym (lt-ltb t d within))
        (λ (far : d ≤ t). let here = k.1 in
        ap (λ b. b || s n) (ne_eqb n m (λ e. let same = ap (steps_up h) e in omega arith)) ∙ k.2)
        (cases_lt t d),
  )

  abbrev Later : ℕ → Seen → Seen → Type 0
  Later t s w = t + rise s w ≤ 8388608 → Knows d n (t + rise s w) w

  same_later : (t : ℕ) (s : Seen) → Knows d n t s → Later t s s
  same_later t blank k few = absurd k
  same_later t (upto h s) k few =
      let z : t + steps_up h h ≡ t = omega (arith, up_self h k.0) in
      subst (λ (v : ℕ). Knows d n v (upto h s)) (sym z) k

  fresh_later : (t m : ℕ) (s : Seen) → m < 16777216 → judged_number d s m ≡ Fresh → Knows d n t s → Later t s (with_fresh d s m)
  fresh_later t m blank mm f k = absurd k
  fresh_later t m (upto h s) mm f k =
      ⊎_elim
      (λ (a : ahead m h ≡ true). subst (Later t (upto h s)) (sym (noted_ahead d h s m a)) (ahead_later a))
      (λ (a : ahead m h ≡ false). subst (Later t (upto h s)) (sym (noted_behind d h s m a)) (behind_later (near_is d m h (is_near d h s m (ap is_fresh f) a).1).2))
      (cases_Bool (ahead m h))
    where
      ahead_later : ahead m h ≡ true → Later t (upto h s) (upto m (λ k. eqb k m || (s k && near d k m)))
      ahead_later a few = knows_ahead t h m s mm a few k

      behind_later : steps_up h m < d → Later t (upto h s) (upto h (λ k. eqb k m || s k))
      behind_later close few =
          let z : t + steps_up h h ≡ t = omega (arith, up_self h k.0) in
          subst (λ (v : ℕ). Knows d n v (upto h (λ k. eqb k m || s k))) (sym z) (knows_behind t h m s close k)

  noted_later : (t m : ℕ) (s : Seen) → Knows d n t s → Later t s (noted_at d s m)
  noted_later t m s k =
      ⊎_elim
      (λ f. let is = fresh_number d s m f in subst (Later t s) (sym (noted_fresh d s m f)) (fresh_later t m s is.0 is.1 k))
      (λ ne. subst (Later t s) (sym (noted_none d s m ne)) (same_later t s k))
      (fresh_or_not (judged_at d s m))

  knows_after : (t : ℕ) (b : Book) (p : ℕ) (es : List Note) → Knows d n t (b p) → t + climb d b p es ≤ 8388608 → Knows d n (t + climb d b p es) (after d b es p)
  knows_after t b p [] k few = let z : t + 0 ≡ t = omega arith in subst (λ (v : ℕ). Knows d n v (b p)) (sym z) k
  knows_after t b p (e ∷ es) k few =
      let c = noted d b e.0 e.1 in
      let r = rise (b p) (c p) in
      let later = by_place d b e.0 e.1 p (Later t (b p)) (same_later t (b p) k) (λ _ _. noted_later t e.1 (b p) k) in
      let z : t + r + climb d c p es ≡ t + (r + climb d c p es) = omega arith in
      subst (λ (v : ℕ). Knows d n v (after d c es p)) z (knows_after (t + r) c p es (later (omega arith)) (omega arith))

known : (d : ℕ) → 1 ≤ d → d ≤ 4096 → (es fs : List Note) (p n : ℕ) (b : Book)
    → judged d (after d new_book es) p n ≡ Fresh → b ≡ noted d (after d new_book es) p n → distance d b p n fs ≤ 8388608
    → judged d (after d b fs) p n ≡ cond (ltb (distance d b p n fs) d) Again Old
known d some-d low es fs p n b f is few =
    let earlier = after d new_book es in
    let here = fresh_place d earlier p n f in
    let number = fresh_number d (earlier p) n here.1 in
    let now-seen : b p ≡ with_fresh d (earlier p) n = ap (λ c. c p) is ∙ noted_here d earlier p n here.0 ∙ noted_fresh d (earlier p) n here.1 in
    let start = subst (λ w. Knows d n (lag w n) w) (sym now-seen) (knows_noted d n some-d low number.0 (earlier p) number.1 (sound_after d new_book es (sound_new d) p)) in
    let end = knows_after d n some-d low number.0 (lag (b p) n) b p fs start few in
    judged_in d (after d b fs) p n here.0 ∙ judged_number_lem d (after d b fs p) n (omega arith)
    ∙ knows_judged d n some-d low number.0 (distance d b p n fs) (after d b fs p) few end

-- two notes, neither more than half the numbers ahead, go past 0 so far that it is ahead again
forgotten : (d : ℕ) → (fs : List Note) × (distance d (noted d new_book 0 0) 0 0 fs ≡ 8388609) × (judged d (after d (noted d new_book 0 0) fs) 0 0 ≡ Fresh)
unfolding steps_up ahead new_book judged_number judged_at judged with_fresh noted_at noted
forgotten d = ((0, 8388607) ∷ (0, 8388609) ∷ [], refl, refl)

pub remembers : Remembers 8388608
remembers = record {
  known = λ d some-d low es fs p n b f is few. known d some-d low es fs p n b f is few;
  forgotten = λ d. forgotten d;
}
