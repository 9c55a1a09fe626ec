use Rattle.std.proofs.Common.{take}
use Rattle.std.specs.List.{flat_map}
use Rattle.writer.specs.Pieces.{Puts}
use Rattle.writer.proofs.element.put_all.Given as goal

abbrev pub invariant-loop-element : goal.invariant-loop-element
invariant-loop-element g l = Puts l.initial.payload (flat_map g.E.Element.octets (take l.element-index l.elements)) l.payload
