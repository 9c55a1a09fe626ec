use Rattle.std.proofs.Common.{◌∷◌, [], map, refl, arith}
use Rattle.std.proofs.lemmas.List.{map-append}
use Rattle.std.proofs.lemmas.Result.{err_from_is_err_and}
use Rattle.trunk.specs.Acts.{left, right}
use Rattle.trunk.specs.Runs.{setting_says}
use Rattle.trunk.specs.Views.{entry_says, turn_says}
use Rattle.trunk.proofs.Running.{starts, goes, stops, ends, next_turn, no_turn}
use Rattle.trunk.proofs.runs.run.Goals as goal

pub loop-turn-init : goal.loop-turn-init
loop-turn-init g c = rw c.new-log.ensures.items (starts (setting_says g.L.ArrivalBook.depth g.R.ArrivalBook.depth c.args.setting) _ _ c.in_ok-trunk.ensures)

pub returns-in_err-entry : goal.returns-in_err-entry
returns-in_err-entry g c =
    let σ = setting_says g.L.ArrivalBook.depth g.R.ArrivalBook.depth c.args.setting in
    let p = err_from_is_err_and c.from_residual-in_err-entry.result c.from_residual-in_err-entry.ensures.1 in
    let i = c.loop-turn.turn-index in
    let on = rw (next_turn c.args.turns.now i c.turn-item.result c.loop-turn-test.true c.turn-item.is) at c.loop-turn.invariant in
    let took = rw c.deref.ensures.value at c.in_err-entry.ensures in
    rw (p.1, p.2) (stops σ _ _ _ _ _ _ _ on took)

pub loop-turn-preserved : goal.loop-turn-preserved
loop-turn-preserved g c =
    let σ = setting_says g.L.ArrivalBook.depth g.R.ArrivalBook.depth c.args.setting in
    let i = c.loop-turn.turn-index in
    let on = rw (next_turn c.args.turns.now i c.turn-item.result c.loop-turn-test.true c.turn-item.is) at c.loop-turn.invariant in
    let took = rw c.deref.ensures.value at c.in_ok-entry.ensures in
    rw (c.in_ok-push.ensures.items, map-append entry_says c.loop-turn.log.items (c.in_ok-entry.entry ∷ [])) (goes σ _ _ _ _ _ _ _ refl on took)

pub returns : goal.returns
returns g c =
    let σ = setting_says g.L.ArrivalBook.depth g.R.ArrivalBook.depth c.args.setting in
    let on = rw (no_turn c.args.turns.now c.loop-turn.turn-index (omega arith)) at c.loop-turn.invariant in
    ends σ (map turn_says c.args.turns.now) _ _ (elim [ left ↦ g.met.L.ArrivalBook.bounded.0 | right ↦ g.met.R.ArrivalBook.bounded.0 ]) (elim [ left ↦ g.met.L.ArrivalBook.bounded.1 | right ↦ g.met.R.ArrivalBook.bounded.1 ]) refl on
