-- The slots of a place that is kept as a list of numbers.
use Rattle.std.specs.Prelude.{◌≡◌, ℕ, ◌+◌, ◌<◌, ◌≤◌, Bool, true, false, cond, List, [], ◌∷◌, Some, None, Option, ◌==◌, nat_le, nat_lt}
use Rattle.arrivals.specs.Meaning.{steps_up}
use Rattle.arrivals.specs.declared.number.Number.{Number}

-- a slot holds a number, or is free
abbrev pub Slot : Type 0
Slot = Option Number

abbrev pub holds : Slot → ℕ → Bool
holds None k = false
holds (Some n) k = n.value == k

abbrev pub is_free : Slot → Bool
is_free None = true
is_free (Some n) = false

-- how often a number is held
abbrev pub times : ℕ → List Slot → ℕ
times k [] = 0
times k (x ∷ xs) = cond (holds x k) 1 0 + times k xs

-- whether a number is held
abbrev pub held : List Slot → ℕ → Bool
held xs k = nat_le 1 (times k xs)

-- how many slots are taken
abbrev pub taken : List Slot → ℕ
taken [] = 0
taken (x ∷ xs) = cond (is_free x) 0 1 + taken xs

-- a slot after the numbers that are behind h by the depth or more are forgotten
abbrev pub keep_near : ℕ → ℕ → Slot → Slot
keep_near depth h None = None
keep_near depth h (Some n) = cond (nat_lt (steps_up h n.value) depth) (Some n) None

-- each number is held once at most, and is behind the newest by less than the depth; the newest is held
abbrev pub Tidy : ℕ → ℕ → List Slot → Type 0
Tidy depth h xs = (h < 16777216) × (times h xs ≡ 1) × ((k : ℕ) → times k xs ≤ 1) × ((k : ℕ) → 0 < times k xs → (k < 16777216) × (steps_up h k < depth))
