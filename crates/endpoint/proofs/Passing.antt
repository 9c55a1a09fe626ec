-- Code that only asks, and the step of which these are the questions.
use Rattle.std.proofs.Common.{◌≡◌, ℕ, Bool, true, false, cond, List, [], ◌∷◌, ◌++◌, Some, None, Ok, Err, Option, Result, refl, arith}
use Rattle.endpoint.specs.declared.refusal.Refusal.{Refusal}
use Rattle.endpoint.specs.Ends.{End}
use Rattle.endpoint.specs.Steps.{Step, Question, first_no, refused, unless, passes}

-- what code that only asks these questions answered
abbrev pub Asked : Option Refusal → Result (Unit {0}) Refusal → Type 0
Asked o r = r ≡ passes o tt

-- what refused is the first no
pub says_no : {A : Type 0} (o : Option Refusal) (a : A) (r : Refusal) → Err r ≡ passes o a → o ≡ Some r
says_no None a r h = let z : ◌≡◌ {A = ℕ} 0 1 = cc in absurd (omega arith)
says_no (Some q) a r h = cc

pub says_yes : {A : Type 0} (o : Option Refusal) (a b : A) → Ok b ≡ passes o a → o ≡ None
says_yes None a b h = refl
says_yes (Some q) a b h = let z : ◌≡◌ {A = ℕ} 0 1 = cc in absurd (omega arith)

pub answers : {A : Type 0} (o : Option Refusal) (a b : A) → Ok b ≡ passes o a → b ≡ a
answers None a b h = cc
answers (Some q) a b h = let z : ◌≡◌ {A = ℕ} 0 1 = cc in absurd (omega arith)

-- a no is the first no of more questions too, and behind yes alone the others are asked
pub still_no : (qs rs : List Question) (r : Refusal) → first_no qs ≡ Some r → first_no (qs ++ rs) ≡ Some r
still_no [] rs r h = let z : ◌≡◌ {A = ℕ} 0 1 = cc in absurd (omega arith)
still_no (q ∷ qs) rs r h = go q.passed (still_no qs rs r) h
  where
    go : (b : Bool) → (first_no qs ≡ Some r → first_no (qs ++ rs) ≡ Some r) → cond b (first_no qs) (Some q.refusal) ≡ Some r → cond b (first_no (qs ++ rs)) (Some q.refusal) ≡ Some r
    go true on h = on h
    go false on h = h

pub asked_on : (qs rs : List Question) → first_no qs ≡ None → first_no (qs ++ rs) ≡ first_no rs
asked_on [] rs h = refl
asked_on (q ∷ qs) rs h = go q.passed (asked_on qs rs) h
  where
    go : (b : Bool) → (first_no qs ≡ None → first_no (qs ++ rs) ≡ first_no rs) → cond b (first_no qs) (Some q.refusal) ≡ None → cond b (first_no (qs ++ rs)) (Some q.refusal) ≡ first_no rs
    go true on h = on h
    go false on h = let z : ◌≡◌ {A = ℕ} 0 1 = cc in absurd (omega arith)

-- the step, as it was refused or not
pub is_refused : {A B : Type 0} (o : Option Refusal) (a : A) (r : Refusal) (e : End) (x : Step B) → Err r ≡ passes o a → unless o e x ≡ refused r e
is_refused o a r e x h = rw (says_no o a r h) refl

pub is_passed : {A B : Type 0} (o : Option Refusal) (a b : A) (e : End) (x : Step B) → Ok b ≡ passes o a → unless o e x ≡ x
is_passed o a b e x h = rw (says_yes o a b h) refl
