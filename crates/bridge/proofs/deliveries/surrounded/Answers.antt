-- Every place is enrolled, and then held, by computing the enrolments.
use Rattle.std.proofs.Common.{◌≡◌, refl, ap, ◌∙◌, arith}
use Rattle.endpoint.specs.Ends.{new_end}
use Rattle.endpoint.specs.Enrols.{enrol}
use Rattle.bridge.specs.Deliveries.{enrolled, AllAreHeld}
use Rattle.bridge.proofs.deliveries.surrounded.Goals as goal

all_are_held : AllAreHeld
unfolding enrol
all_are_held = refl

pub returns : goal.returns
returns g c =
    let all : c.loop-place.place ≡ 32 = omega (arith, c.loop-place.auto.place-end, c.loop-place-test.false) in
    record { end = c.loop-place.invariant ∙ ap (λ n. enrolled n (new_end 0)) all; held = all_are_held }
