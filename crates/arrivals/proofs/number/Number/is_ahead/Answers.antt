-- The range of the steps is the definition.
use Rattle.std.proofs.Common.{arith}
use Rattle.std.proofs.lemmas.Bool.Decides.{nat_tests}
use Rattle.arrivals.specs.Meaning.{ahead}
use Rattle.arrivals.proofs.number.Number.is_ahead.Goals as goal

pub returns : goal.returns
unfolding ahead
returns c =
    let start = c.new.ensures.start in
    let end = c.new.ensures.end in
    let tells = c.contains.ensures.cases in
    rw (← c.steps_up.ensures) (grind (arith, nat_tests))
