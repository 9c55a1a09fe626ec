use Rattle.writer.proofs.Puts.{guard_puts_more, next_fits}
use Rattle.writer.proofs.element.put_all.Goals as goal

pub put-requires-clause-room : goal.put-requires-clause-room
put-requires-clause-room g c = next_fits g.E.Element.octets c.args.elements.now c.loop-element.element-index c.element-item.result c.element-item.is c.loop-element-test.true c.loop-element.invariant.put c.requires.room

pub loop-element-preserved : goal.loop-element-preserved
loop-element-preserved g c = guard_puts_more g.E.Element.octets c.args.elements.now c.loop-element.element-index c.element-item.result c.element-item.is c.loop-element-test.true c.loop-element.invariant c.put.ensures
