-- A call by its questions: it is refused, or every question was answered with yes.
use Rattle.std.proofs.Common.{◌≡◌, Bool, true, false, cond, List, [], ◌∷◌, Some, Ok, Err, Result, refl}
use Rattle.std.proofs.lemmas.Bool.{false≢true}
use Rattle.datagram.specs.declared.fault.Fault.{Fault}
use Rattle.endpoint.specs.declared.refusal.Refusal.{Refusal}
use Rattle.endpoint.specs.Ends.{End}
use Rattle.endpoint.specs.Steps.{Step, Question, first_no, refused, unless, ask_read}

abbrev pub AllYes : List Question → Type 0
AllYes [] = Unit {0}
AllYes (q ∷ qs) = (q.passed ≡ true) × AllYes qs

pub by_questions : {A : Type 0} (qs : List Question) (e : End) (x : Step A) (P : Step A → Type 0) → ((r : Refusal) → P (refused r e)) → (AllYes qs → P x) → P (unless (first_no qs) e x)
by_questions [] e x P refusing asked = asked tt
by_questions (q ∷ qs) e x P refusing asked = go q.passed q.refusal (λ p. by_questions qs e x P refusing (λ a. asked (p, a)))
  where
    go : (b : Bool) (r : Refusal) → (b ≡ true → P (unless (first_no qs) e x)) → P (unless (cond b (first_no qs) (Some r)) e x)
    go true r h = h refl
    go false r h = refusing r

-- what could be read
pub was_read : {X : Type 0} (r : Result X Fault) → (ask_read r).passed ≡ true → (x : X) × (r ≡ Ok x)
was_read (Ok x) p = (x, refl)
was_read (Err f) p = absurd (false≢true p)
