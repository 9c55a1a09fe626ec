-- Steps between numbers of 24 bits.
use Rattle.std.specs.Prelude.{◌≡◌, ℕ, ◌+◌, ◌-◌, ◌%◌, ◌<◌, ◌≤◌, true, false, ◌≢◌, bit_and}
use Rattle.std.proofs.Common.{◌∙◌, arith}
use Rattle.std.proofs.lemmas.Nat.{and_mask}
use Rattle.std.proofs.lemmas.Bool.Decides.{nat_tests}
use Rattle.arrivals.specs.Meaning.{steps_up, ahead, behind, near}

pub up_below : (a b : ℕ) → steps_up a b < 16777216
unfolding steps_up
up_below a b = omega arith

-- what the code computes
pub masked_up : (a b : ℕ) → a < 4294967296 → b < 4294967296 → bit_and ((a + (4294967296 - b)) % 4294967296) 16777215 ≡ steps_up a b
unfolding steps_up
masked_up a b p q = and_mask ((a + (4294967296 - b)) % 4294967296) 24 ∙ omega arith

pub up_zero : (a b : ℕ) → a < 16777216 → b < 16777216 → steps_up a b ≡ 0 → a ≡ b
unfolding steps_up
up_zero a b p q e = omega arith

pub up_self : (a : ℕ) → a < 16777216 → steps_up a a ≡ 0
unfolding steps_up
up_self a p = omega arith

-- the way back
pub up_back : (a b : ℕ) → a < 16777216 → b < 16777216 → 0 < steps_up a b → steps_up a b + steps_up b a ≡ 16777216
unfolding steps_up
up_back a b p q r = omega arith

up_low : (a b : ℕ) → b < 16777216 → steps_up a b ≡ (a + (16777216 - b)) % 16777216
unfolding steps_up
up_low a b p = omega arith

-- from c up to b and on to a
pub up_on : (a b c : ℕ) → a < 16777216 → b < 16777216 → c < 16777216 → steps_up a c ≡ (steps_up a b + steps_up b c) % 16777216
up_on a b c p q r = let e₁ = up_low a c r in let e₂ = up_low a b q in let e₃ = up_low b c r in omega arith

pub ahead_true : (n h : ℕ) → 1 ≤ steps_up n h → steps_up n h ≤ 8388607 → ahead n h ≡ true
unfolding ahead
ahead_true n h p q = grind (arith, nat_tests)

pub ahead_none : (n h : ℕ) → steps_up n h < 1 → ahead n h ≡ false
unfolding ahead
ahead_none n h p = grind (arith, nat_tests)

pub ahead_far : (n h : ℕ) → 8388607 < steps_up n h → ahead n h ≡ false
unfolding ahead
ahead_far n h p = grind (arith, nat_tests)

pub ahead_is : (n h : ℕ) → ahead n h ≡ true → (1 ≤ steps_up n h) × (steps_up n h ≤ 8388607)
unfolding ahead
ahead_is n h e = grind (arith, nat_tests)

pub near_true : (d n h : ℕ) → ahead n h ≡ false → (n ≢ h) → steps_up h n < d → near d n h ≡ true
unfolding near behind
near_true d n h a e p = simp a (grind (arith, nat_tests))

pub near_far : (d n h : ℕ) → d ≤ steps_up h n → near d n h ≡ false
unfolding near behind
near_far d n h p = grind (arith, nat_tests)

pub near_self : (d n : ℕ) → near d n n ≡ false
unfolding near behind
near_self d n = grind (arith, nat_tests)

pub near_is : (d n h : ℕ) → near d n h ≡ true → (ahead n h ≡ false) × (n ≢ h) × (steps_up h n < d)
unfolding near behind
near_is d n h e = grind (arith, nat_tests)

pub up_same : (h j k : ℕ) → h < 16777216 → j < 16777216 → k < 16777216 → steps_up h j ≡ steps_up h k → j ≡ k
unfolding steps_up
up_same h j k p q r e = omega arith

pub up_twice : (h j : ℕ) → h < 16777216 → j < 16777216 → steps_up h (steps_up h j) ≡ j
unfolding steps_up
up_twice h j p q = omega arith
