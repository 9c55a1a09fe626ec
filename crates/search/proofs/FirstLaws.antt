-- Laws of the first of a list that passes a test: it is what the library's `position` gives, and what its answer tells.
use Rattle.std.proofs.Common.{◌≡◌, ℕ, ◌+◌, Bool, cond, List, [], ◌∷◌, Some, None, Option, sym, refl, ap, ◌∙◌, arith}
use Rattle.std.specs.List.{position, position_from}
use Rattle.std.proofs.lemmas.Grind.{common_steps}
use Rattle.std.proofs.lemmas.Iterator.Adapters.{position_from-zero}
use Rattle.std.proofs.lemmas.List.Quantifiers.{position-Some}
use Rattle.std.proofs.lemmas.List.Sums.{fails_before_first}
use Rattle.search.specs.First.{first_from, first_under, FirstOrNone}

module _ {X : Type 0} (p : X → Bool) where
  from_is : (xs : List X) (i : ℕ) → first_from p i xs ≡ position_from p i xs
  from_is [] i = refl
  from_is (x ∷ xs) i = ap (cond (p x) (Some i)) (from_is xs (i + 1))

  pub first_is : (xs : List X) → first_under p xs ≡ position p xs
  first_is xs = from_is xs 0 ∙ sym (position_from-zero p xs)

  pub first_means : (xs : List X) (r : Option ℕ) → first_under p xs ≡ r → FirstOrNone p xs r
  first_means [] (Some f) e = grind (arith, common_steps)
  first_means (x ∷ xs) (Some f) e =
      let at = λ (d : X). position-Some p (x ∷ xs) f d (sym (first_is (x ∷ xs)) ∙ e) in
      ((at x).0, (λ d. (at d).1), λ j d h. (at d).2 j h)
  first_means xs None e = λ j d h.
      let none : position p xs ≡ None = sym (first_is xs) ∙ e in
      fails_before_first p xs j d (grind (arith, common_steps))
