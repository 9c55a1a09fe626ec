-- What is judged and noted, by the tests on the number.
use Rattle.std.specs.Prelude.{◌≡◌, ℕ, Bool, true, false, cond, not, ◌&&◌, ◌||◌, ◌<◌, ◌==◌, refl}
use Rattle.std.proofs.Common.{sym, ap, ◌∙◌}
use Rattle.std.proofs.lemmas.Bool.{false≢true}
use Rattle.std.proofs.Math.Bool.{and-false}
use Rattle.arrivals.specs.Steps.{near_true}
use Rattle.arrivals.specs.Meaning.{steps_up, ahead, near, judged_number, with_fresh, is_fresh, blank, upto}
use Rattle.arrivals.specs.declared.book.Judgement.TheVariants.{Fresh, Again, Old}

near_cases : (p s : Bool) → is_fresh (cond (false || (p && not s)) Fresh (cond s Again Old)) ≡ true → (s ≡ false) × (p ≡ true)
near_cases true true e = absurd (false≢true e)
near_cases true false e = (refl, refl)
near_cases false true e = absurd (false≢true e)
near_cases false false e = absurd (false≢true e)

pub fresh_blank : (d n : ℕ) → judged_number d blank n ≡ Fresh
unfolding judged_number
fresh_blank d n = refl

module _ (d h : ℕ) (s : ℕ → Bool) (n : ℕ) where
  pub fresh_ahead : ahead n h ≡ true → judged_number d (upto h s) n ≡ Fresh
  unfolding judged_number
  fresh_ahead a = simp a

  pub again_held : ahead n h ≡ false → s n ≡ true → judged_number d (upto h s) n ≡ Again
  unfolding judged_number
  again_held a e = simp (a, e, and-false)

  pub fresh_near : ahead n h ≡ false → s n ≡ false → near d n h ≡ true → judged_number d (upto h s) n ≡ Fresh
  unfolding judged_number
  fresh_near a e p = simp (a, e, p)

  -- where the newest number is in the set
  pub fresh_within : s h ≡ true → ahead n h ≡ false → s n ≡ false → steps_up h n < d → judged_number d (upto h s) n ≡ Fresh
  fresh_within top a e p = fresh_near a e (near_true d n h a (λ same. false≢true (sym e ∙ ap s same ∙ top)) p)

  pub old_far : ahead n h ≡ false → s n ≡ false → near d n h ≡ false → judged_number d (upto h s) n ≡ Old
  unfolding judged_number
  old_far a e p = simp (a, e, p)

  pub is_near : is_fresh (judged_number d (upto h s) n) ≡ true → ahead n h ≡ false → (s n ≡ false) × (near d n h ≡ true)
  unfolding judged_number
  is_near f a = near_cases (near d n h) (s n) (simp a at f)

  pub noted_ahead : ahead n h ≡ true → with_fresh d (upto h s) n ≡ upto n (λ k. (k == n) || (s k && near d k n))
  unfolding with_fresh
  noted_ahead a = simp a

  pub noted_behind : ahead n h ≡ false → with_fresh d (upto h s) n ≡ upto h (λ k. (k == n) || s k)
  unfolding with_fresh
  noted_behind a = simp a
