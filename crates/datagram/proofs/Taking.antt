-- Taking the elements of a list one by one. Assumes nothing.
use Rattle.std.proofs.Common.{◌<◌, List, length, Some, None, Option, arith}
use Rattle.std.specs.Option.{option_map, MatchOption}
use Rattle.std.specs.Iterator.{YieldsFirst, YieldsFirstBy}

-- what one step gives of a list of plain values, where an iterator gives views of them
abbrev pub Gives : {X : Type 0} → List X → Option X → List X → Type 0
Gives xs r ys = YieldsFirst (λ l. l) xs r ys

pub viewed : {E X : Type 0} (view : E → X) (r : Option E) (xs ys : List X) → Gives xs (option_map view r) ys → YieldsFirstBy view (λ l. l) xs r ys
viewed view None xs ys g = g
viewed view (Some e) xs ys g = g

-- an iterator that gives the first of a list, and leaves the others, comes to an end, since its list gets shorter
pub goes_on : {E X : Type 0} (view : E → X) (r : Option E) (xs ys : List X) → YieldsFirstBy view (λ l. l) xs r ys → MatchOption r (Unit {0}) (λ _. Unit {0} × Unit {0} × (length ys < length xs))
goes_on view None xs ys g = tt
goes_on view (Some e) xs ys g = (tt, tt, rw g (omega arith))
