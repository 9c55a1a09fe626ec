use Rattle.std.proofs.Common.{◌≡◌, length, refl, arith, rules}
use Rattle.std.proofs.lemmas.Bool.{lt-ltb}
use Rattle.std.proofs.lemmas.Iterator.{YieldsList-from_slice}
use Rattle.std.proofs.lemmas.Iterator.Search.{all_from_yields_List}
use Rattle.writer.specs.Values.{every}
use Rattle.writer.proofs.element.counted_within.Goals as goal

pub returns-then-elements-le-MOST_COUNTED : goal.returns-then-elements-le-MOST_COUNTED
returns-then-elements-le-MOST_COUNTED g c =
    let es = c.args.elements.now in
    let all : c.all.result ≡ every g.E.Element.within es = all_from_yields_List g.E.Element.within _ _ _ c.all.ensures.ran (YieldsList-from_slice es cc) (λ x b q k. (refl, search rules)) in
    rw (lt-ltb (length es) 128 (omega arith)) all
