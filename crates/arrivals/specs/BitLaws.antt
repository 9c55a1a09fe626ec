-- The bits of a mask.
use Rattle.std.specs.Prelude.{◌≡◌, ℕ, zero, suc, ◌+◌, ◌-◌, ◌*◌, ◌/◌, ◌%◌, ◌^◌, ◌<◌, ◌≤◌, true, false, ◌||◌, ◌==◌, ◌≢◌, nat_eq, refl}
use Rattle.std.proofs.Common.{sym, ap, subst, ◌∙◌, ⊎_elim, arith, mul_assoc, add-one}
use Rattle.std.proofs.Math.Nat.{div-eq_of_lt}
use Rattle.std.specs.Int.Bits.{bit_or, bit_and, shifted_even}
use Rattle.std.proofs.lemmas.Nat.{shl-shr, shr-shr, pow-add, field_of, mod-pow-add, pow_below, and_mask, or_comm, or_shr, or_mod}
use Rattle.std.proofs.lemmas.Bool.{cases_lt, cases_eq, eq-eqb, ne_eqb}
use Rattle.arrivals.specs.Masks.{bit}

or_two : (x y : ℕ) → x < 2 → y < 2 → (bit_or x y == 1) ≡ (x == 1 || y == 1)
or_two zero zero p q = refl
or_two zero (suc zero) p q = refl
or_two (suc zero) zero p q = refl
or_two (suc zero) (suc zero) p q = refl
or_two (suc (suc x)) y p q = absurd (omega arith)
or_two zero (suc (suc y)) p q = absurd (omega arith)
or_two (suc zero) (suc (suc y)) p q = absurd (omega arith)

pub bit_or_lem : (x y j : ℕ) → bit (bit_or x y) j ≡ (bit x j || bit y j)
unfolding bit
bit_or_lem x y j =
    ap (λ v. nat_eq (v % 2) 1) (or_shr x y j) ∙ ap (λ v. nat_eq v 1) (or_mod (x / 2 ^ j) (y / 2 ^ j) 1) ∙
    or_two (x / 2 ^ j % 2) (y / 2 ^ j % 2) (omega arith) (omega arith)

even_part : (x i : ℕ) → x % 2 ^ suc i % 2 ≡ x % 2
even_part x i =
    let e : x % 2 ^ suc i ≡ x / 2 % 2 ^ i * 2 + x % 2 = simp add-one at (mod-pow-add x i 1) in
    omega arith

-- what a shift to the left moves steps_up bit j, and what it leaves below
pub bit_moved : (b f i : ℕ) → bit (b * 2 ^ f) (f + i) ≡ bit b i
unfolding bit
bit_moved b f i = ap (λ v. nat_eq (v % 2) 1) (sym (shr-shr (b * 2 ^ f) f i) ∙ ap (λ v. v / 2 ^ i) (shl-shr b f))

pub bit_empty : (b i j : ℕ) → bit (b * 2 ^ (suc i + j)) j ≡ false
unfolding bit
bit_empty b i j =
    let parts : b * 2 ^ (suc i + j) ≡ b * 2 ^ suc i * 2 ^ j = ap (λ v. b * v) (pow-add 2 (suc i) j) ∙ sym (mul_assoc b (2 ^ suc i) (2 ^ j)) in
    ap (λ v. nat_eq (v % 2) 1) (ap (λ v. v / 2 ^ j) parts ∙ shl-shr (b * 2 ^ suc i) j) ∙ ap (λ v. nat_eq v 1) (shifted_even b i)

pub bit_wrap : (n i j : ℕ) → bit (n % 2 ^ (suc i + j)) j ≡ bit n j
unfolding bit
bit_wrap n i j = ap (λ v. nat_eq (v % 2) 1) (field_of n (suc i) j) ∙ ap (λ v. nat_eq v 1) (even_part (n / 2 ^ j) i)

-- at 64 bits
module _ (j : ℕ) (in-word : j < 64) where
  bit_word : (n : ℕ) → bit (n % 18446744073709551616) j ≡ bit n j
  bit_word n =
      let e : suc (63 - j) + j ≡ 64 = omega arith in
      subst (λ (w : ℕ). bit (n % 2 ^ w) j ≡ bit n j) e (bit_wrap n (63 - j) j)

  pub shl_high : (b f : ℕ) → f ≤ j → bit (b * 2 ^ f % 18446744073709551616) j ≡ bit b (j - f)
  shl_high b f p =
      let e : f + (j - f) ≡ j = omega arith in
      bit_word (b * 2 ^ f) ∙ subst (λ (w : ℕ). bit (b * 2 ^ f) w ≡ bit b (j - f)) e (bit_moved b f (j - f))

  pub shl_low : (b f : ℕ) → j < f → bit (b * 2 ^ f % 18446744073709551616) j ≡ false
  shl_low b f p =
      let e : suc (f - j - 1) + j ≡ f = omega arith in
      bit_word (b * 2 ^ f) ∙ subst (λ (w : ℕ). bit (b * 2 ^ w) j ≡ false) e (bit_empty b (f - j - 1) j)

pub bit_odd : (b : ℕ) → b % 2 ≡ 1 → bit b 0 ≡ true
unfolding bit
bit_odd b e = eq-eqb (b / 1 % 2) 1 (omega arith)

pub bit_one : (j : ℕ) → 0 < j → bit 1 j ≡ false
unfolding bit
bit_one zero p = absurd (omega arith)
bit_one (suc j) p = let more : 1 < 2 ^ suc j = pow_below 0 (suc j) p in ap (λ v. nat_eq (v % 2) 1) (div-eq_of_lt more)

-- what `bits >> j & 1 == 1` tests
pub bit_test : (b j : ℕ) → (bit_and (b / 2 ^ j) 1 == 1) ≡ bit b j
unfolding bit
bit_test b j = ap (λ v. nat_eq v 1) (and_mask (b / 2 ^ j) 1)

pub bit_and_lem : (b j : ℕ) → bit_and (b / 2 ^ j) 1 ≡ 1 → bit b j ≡ true
bit_and_lem b j e = sym (bit_test b j) ∙ eq-eqb _ _ e

pub bit_and_not : (b j : ℕ) → (bit_and (b / 2 ^ j) 1 ≢ 1) → bit b j ≡ false
bit_and_not b j e = sym (bit_test b j) ∙ ne_eqb _ _ e

pub bit_none : (j : ℕ) → bit 0 j ≡ false
unfolding bit
bit_none zero = refl
bit_none (suc j) = let more : 1 < 2 ^ suc j = pow_below 0 (suc j) (omega arith) in ap (λ v. nat_eq (v % 2) 1) (div-eq_of_lt (omega arith))

or_one : (z : ℕ) → z < 2 → bit_or 1 z ≡ 1
or_one zero p = refl
or_one (suc zero) p = refl
or_one (suc (suc z)) p = absurd (omega arith)

pub or_odd : (x y : ℕ) → x % 2 ≡ 1 → bit_or x y % 2 ≡ 1
or_odd x y e = or_mod x y 1 ∙ ap (λ v. bit_or v (y % 2)) e ∙ or_one (y % 2) (omega arith)

pub or_odd_right : (x y : ℕ) → y % 2 ≡ 1 → bit_or x y % 2 ≡ 1
or_odd_right x y e = ap (λ v. v % 2) (or_comm x y) ∙ or_odd y x e

-- the bit that `1 << i` sets
pub bit_set : (i j : ℕ) → i < 64 → j < 64 → bit (1 * 2 ^ i % 18446744073709551616) j ≡ (j == i)
bit_set i j p q =
    ⊎_elim
    (λ lt. shl_low j q 1 i lt ∙ sym (ne_eqb j i (omega arith)))
    (λ ge. shl_high j q 1 i ge ∙
    ⊎_elim
    (λ e. let z : j - i ≡ 0 = omega arith in ap (bit 1) z ∙ bit_odd 1 refl ∙ sym (eq-eqb j i e))
    (λ ne. bit_one (j - i) (omega arith) ∙ sym (ne_eqb j i ne))
    (cases_eq j i))
    (cases_lt j i)
