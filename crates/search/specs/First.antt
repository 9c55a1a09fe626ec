-- The first of a list that passes a test.
use Rattle.std.specs.Prelude.{◌≡◌, ℕ, ◌+◌, ◌<◌, Bool, true, false, cond, List, [], ◌∷◌, length, Some, None, Option, slice_index_or}

-- the index of the first that passes, where the list's own first has index i
abbrev pub first_from : {X : Type 0} → (X → Bool) → ℕ → List X → Option ℕ
first_from p i [] = None
first_from p i (x ∷ xs) = cond (p x) (Some i) (first_from p (i + 1) xs)

abbrev pub first_under : {X : Type 0} → (X → Bool) → List X → Option ℕ
first_under p xs = first_from p 0 xs

-- the same by what an answer tells: an index is in the list, what stands there passes, and nothing before it does; None tells that nothing passes
abbrev pub FirstOrNone : {X : Type 0} → (X → Bool) → List X → Option ℕ → Type 0
FirstOrNone p xs (Some i) = (i < length xs) × ((d : _) → p (slice_index_or xs i d) ≡ true) × ((j : ℕ) (d : _) → j < i → p (slice_index_or xs j d) ≡ false)
FirstOrNone p xs None = (j : ℕ) (d : _) → j < length xs → p (slice_index_or xs j d) ≡ false
