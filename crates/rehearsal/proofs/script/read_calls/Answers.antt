use Rattle.std.proofs.Common.{rules, Some, ◌≡◌, arith}
use Rattle.trunk.specs.Views.{turn_says}
use Rattle.rehearsal.specs.Ahead.{IsNext, line_says}
use Rattle.rehearsal.specs.Orders.{turn_in}
use Rattle.rehearsal.proofs.CallByCall.{call_read}
use Rattle.rehearsal.proofs.script.read_calls.Goals as goal

pub loop-lines-preserved : goal.loop-lines-preserved
loop-lines-preserved c =
    let next : IsNext c.loop-lines.ahead c.next.new.self c.in-Some.line = rw c.in-Some.is at c.in_ok-line.ensures in
    let said : Some (turn_says c.in-Some-2.turn) ≡ turn_in (line_says c.in-Some.line).words = search rules in
    record {
      calls = call_read c.loop-lines.ahead c.next.new.self c.in-Some.line c.in-Some-2.turn _ _ _ _ _ next.ahead said c.in_ok-push.ensures.items c.in_ok-push-2.ensures.items c.loop-lines.invariant.calls;
      size = omega (arith, next.size);
    }
