-- The bits moved up, and bit 0 set.
use Rattle.std.proofs.Common.{◌≡◌, ℕ, ◌-◌, ◌<◌, ◌≤◌, ◌||◌, Some, None, Option, false, refl, ap, ◌∙◌, ap₂, arith}
use mathlib.Core.Bool.{or-false}
use Rattle.std.specs.Option.{SomeIff, unwrap_or}
use Rattle.std.specs.Prelude.{◌*◌, ◌%◌, ◌^◌}
use Rattle.arrivals.specs.Masks.{bit}
use Rattle.arrivals.specs.Steps.{ahead_is}
use Rattle.arrivals.specs.WindowLaws.{window_moved}
use Rattle.arrivals.specs.BitLaws.{bit_odd, bit_one, bit_none, bit_or_lem, or_odd_right, shl_low, shl_high}
use Rattle.arrivals.proofs.mask.marks.MaskWindowWindow.moved_to.Goals as goal

-- the bits of a shift, if it is one, and else of 0
low : (b up j : ℕ) (r : Option ℕ) → SomeIff r (up < 64) (b * 2 ^ up % 18446744073709551616) → j < 64 → j < up → bit (unwrap_or r 0) j ≡ false
low b up j (Some v) is below less = ap (λ x. bit x j) is.1 ∙ shl_low j below b up less
low b up j None is below less = bit_none j

high : (b up j : ℕ) (r : Option ℕ) → SomeIff r (up < 64) (b * 2 ^ up % 18446744073709551616) → j < 64 → up ≤ j → bit (unwrap_or r 0) j ≡ bit b (j - up)
high b up j (Some v) is below more = ap (λ x. bit x j) is.1 ∙ shl_high j below b up more
high b up j None is below more = absurd (is (omega arith))

pub invariant_of-result : goal.invariant_of-result
invariant_of-result c = record { odd = or_odd_right _ 1 refl }

pub returns : goal.returns
returns c =
    let self = c.args.self in
    let h = self.newest in
    let n = c.args.number in
    let b = self.bits in
    let up = c.steps_up-up.result in
    let is = c.steps_up-up.ensures in
    let kept = c.unwrap_or.ensures in
    window_moved 64 h.value (bit b) n.value (omega arith) (omega arith) h.in_range n.in_range c.requires _ (bit_odd _ (or_odd_right _ 1 refl))
    (λ j some below less. bit_or_lem _ 1 j ∙ ap₂ ◌||◌ (ap (λ v. bit v j) kept ∙ low b up j _ c.checked_shl.ensures below (rw is less)) (bit_one j some))
    (λ j below more. bit_or_lem _ 1 j ∙ ap₂ ◌||◌ (ap (λ v. bit v j) kept ∙ high b up j _ c.checked_shl.ensures below (rw is more)) (bit_one j (omega (arith, ahead_is n.value h.value c.requires))) ∙ or-false _ ∙ ap (λ v. bit b (j - v)) is)
