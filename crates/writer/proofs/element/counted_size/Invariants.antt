use Rattle.std.proofs.Common.{◌≡◌, ◌+◌, ◌≤◌, length, take}
use Rattle.std.specs.List.{flat_map}
use Rattle.writer.proofs.element.counted_size.Given as goal

abbrev pub invariant-loop-element : goal.invariant-loop-element
invariant-loop-element g l = (l.octets ≡ 1 + length (flat_map g.E.Element.octets (take l.element-index l.elements))) × (l.octets ≤ 1024)
