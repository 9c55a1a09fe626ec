-- The three tests decide what is judged.
use Rattle.std.proofs.Common.{sym, subst}
use Rattle.arrivals.specs.Meaning.{SoundAt}
use Rattle.arrivals.specs.Judging.{fresh_ahead, again_held, fresh_within, old_far}
use Rattle.arrivals.specs.Steps.{near_far}
use Rattle.arrivals.proofs.window.Window.judge.Goals as goal

pub returns-then-is_ahead : goal.returns-then-is_ahead
returns-then-is_ahead g c =
    let kind = g.Self.Window in
    let w = c.args.self.now in
    rw (g.met.Self.Window.keeps w, ← c.newest-newest.ensures) (sym (fresh_ahead kind.DEPTH c.newest-newest.result.value (kind.held w) c.args.number.value (sym c.if-is_ahead.ensures)))

pub returns-then-holds : goal.returns-then-holds
returns-then-holds g c =
    let kind = g.Self.Window in
    let w = c.args.self.now in
    rw (g.met.Self.Window.keeps w, ← c.newest-newest.ensures) (sym (again_held kind.DEPTH c.newest-newest.result.value (kind.held w) c.args.number.value (sym c.if-is_ahead.ensures) (sym c.if-holds.ensures)))

pub returns-then-steps_up-DEPTH : goal.returns-then-steps_up-DEPTH
returns-then-steps_up-DEPTH g c =
    let kind = g.Self.Window in
    let w = c.args.self.now in
    let sound = subst (SoundAt kind.DEPTH) (g.met.Self.Window.keeps w) (g.met.Self.Window.sound w) in
    let top = rw (← c.newest-newest.ensures) at sound.1 in
    rw (g.met.Self.Window.keeps w, ← c.newest-newest.ensures) (sym (fresh_within kind.DEPTH c.newest-newest.result.value (kind.held w) c.args.number.value top
    (sym c.if-is_ahead.ensures) (sym c.if-holds.ensures) (rw (c.steps_up.ensures, c.DEPTH.ensures) at c.if-steps_up-DEPTH.true)))

pub returns-else-steps_up-DEPTH : goal.returns-else-steps_up-DEPTH
returns-else-steps_up-DEPTH g c =
    let kind = g.Self.Window in
    let w = c.args.self.now in
    let h = c.newest-newest.result.value in
    let n = c.args.number.value in
    rw (g.met.Self.Window.keeps w, ← c.newest-newest.ensures) (sym (old_far kind.DEPTH h (kind.held w) n
    (sym c.if-is_ahead.ensures) (sym c.if-holds.ensures) (near_far kind.DEPTH n h (rw (c.steps_up.ensures, c.DEPTH.ensures) at c.if-steps_up-DEPTH.false))))
