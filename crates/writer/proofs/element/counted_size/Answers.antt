use Rattle.std.proofs.Common.{length, ap, arith}
use Rattle.std.proofs.lemmas.List.Folds.{length-flat_map-take}
use Rattle.writer.proofs.element.counted_size.Goals as goal

pub returns-then-octets-gt-MAXIMUM : goal.returns-then-octets-gt-MAXIMUM
returns-then-octets-gt-MAXIMUM g c =
    let f = g.E.Element.octets in
    let e = c.element-item.result in
    let fit = length-flat_map-take f c.args.elements.now c.loop-element.element-index e c.loop-element-test.true in
    let is = ap (λ x. length (f x)) c.element-item.is in
    omega (arith, c.loop-element.invariant.0, c.size.ensures, c.saturating_add-octets.ensures)
