-- One turn of a run, and its end.
use Rattle.std.proofs.Common.{◌≡◌, ℕ, zero, suc, ◌+◌, ◌<◌, ◌≤◌, min, ◌⊎◌, List, [], ◌∷◌, ◌++◌, length, get_or, take, drop, set, refl, ap, ◌∙◌, inl, inr, ⊎_elim, add-one, arith, length-drop, take-append-drop}
use Rattle.std.proofs.lemmas.Bool.{cases_lt}
use Rattle.arrivals.specs.Meaning.{Book, judged, noted}
use Rattle.bridge.specs.Runs.{code, filled}

-- the buffer as it will be: what is written so far, and what the run makes of the rest
abbrev pub becomes : ℕ → Book → List ℕ → List ℕ → ℕ → List ℕ → List ℕ
becomes d book places numbers i buffer = take i buffer ++ filled d book (drop i places) (drop i numbers) (drop i buffer)

-- one turn leaves that as it is
turn : (d : ℕ) (book : Book) (places numbers buffer : List ℕ) (i : ℕ) → i < length places → i < length numbers → i < length buffer
    → becomes d (noted d book (get_or places i 0) (get_or numbers i 0)) places numbers (suc i) (set buffer i (code (judged d book (get_or places i 0) (get_or numbers i 0)))) ≡ becomes d book places numbers i buffer
turn d book [] numbers buffer i p q r = absurd (omega arith)
turn d book (x ∷ places) [] buffer i p q r = absurd (omega arith)
turn d book (x ∷ places) (n ∷ numbers) [] i p q r = absurd (omega arith)
turn d book (x ∷ places) (n ∷ numbers) (b ∷ buffer) zero p q r = refl
turn d book (x ∷ places) (n ∷ numbers) (b ∷ buffer) (suc i) p q r =
    ap (λ rest. b ∷ rest) (turn d book places numbers buffer i (omega arith) (omega arith) (omega arith))

pub turned : (d : ℕ) (book book' : Book) (places numbers buffer : List ℕ) (i o : ℕ) → i < length places → i < length numbers → i < length buffer
    → book' ≡ noted d book (get_or places i 0) (get_or numbers i 0) → o ≡ code (judged d book (get_or places i 0) (get_or numbers i 0))
    → becomes d book' places numbers (i + 1) (set buffer i o) ≡ becomes d book places numbers i buffer
turned d book book' places numbers buffer i o p q r after answer =
    let next = noted d book (get_or places i 0) (get_or numbers i 0) in
    let octet = code (judged d book (get_or places i 0) (get_or numbers i 0)) in
    ap (λ b. becomes d b places numbers (i + 1) (set buffer i o)) after
    ∙ ap (λ v. becomes d next places numbers (i + 1) (set buffer i v)) answer
    ∙ ap (λ k. becomes d next places numbers k (set buffer i octet)) (add-one i)
    ∙ turn d book places numbers buffer i p q r

-- a run that has nothing left writes nothing
over : (d : ℕ) (book : Book) (places numbers buffer : List ℕ) → (length places ≤ 0) ⊎ ((length numbers ≤ 0) ⊎ (length buffer ≤ 0)) → filled d book places numbers buffer ≡ buffer
over d book [] numbers buffer none = refl
over d book (p ∷ places) [] buffer none = refl
over d book (p ∷ places) (n ∷ numbers) [] none = refl
over d book (p ∷ places) (n ∷ numbers) (b ∷ buffer) none = absurd (⊎_elim (λ a. omega arith) (⊎_elim (λ a. omega arith) (λ a. omega arith)) none)

-- at the end it is the buffer
pub end : (d : ℕ) (book : Book) (places numbers buffer : List ℕ) (i : ℕ) → min (min (length places) (length numbers)) (length buffer) ≤ i
    → becomes d book places numbers i buffer ≡ buffer
end d book places numbers buffer i far =
    ap (λ rest. take i buffer ++ rest) (over d book (drop i places) (drop i numbers) (drop i buffer)
    (⊎_elim
    (λ (a : i < length places). inr (⊎_elim
    (λ (b : i < length numbers). inr (simp length-drop (omega arith)))
    (λ (b : length numbers ≤ i). inl (simp length-drop (omega arith)))
    (cases_lt i (length numbers))))
    (λ (a : length places ≤ i). inl (simp length-drop (omega arith)))
    (cases_lt i (length places))))
    ∙ take-append-drop i buffer
