use Rattle.std.proofs.Common.{◌≡◌, true, false, not, ◌||◌, Some, None, Ok, string_bytes, refl, ◌∙◌}
use Rattle.capture.specs.Records.{next_at}
use Rattle.capture.specs.Stops.{turnable}
use Rattle.capture.specs.Views.{record_says, place_says}
use Rattle.callsheet.proofs.Steps.{adds_record, adds_nothing, adds_stop, waits}
use Rattle.callsheet.proofs.window.add_window.Goals as goal
use Rattle.callsheet.proofs.window.add_window.Goals.{else-not-last-via-then-not-last+else-is_turnable, else-not-last-via-else-not-last}

pub loop-record-preserved : goal.loop-record-preserved
loop-record-preserved c =
    let p = place_says c.loop-record.records in
    let e : Ok (Some (record_says c.in-Ok-Some.record)) ≡ next_at p = rw c.in-Ok-Some.field-0-is at c.in-Ok-Some.ensures.gives in
    c.loop-record.invariant ∙ adds_record c.args.last _ _ p (place_says c.next.new.self) _ _ e c.next.ensures.moves refl c.in_ok-add_lines-in-Ok-Some.ensures

pub returns-in-Ok-None : goal.returns-in-Ok-None
returns-in-Ok-None c =
    let p = place_says c.loop-record.records in
    let e : Ok None ≡ next_at p = rw c.in-Ok-None.field-0-is at c.in-Ok-None.ensures.gives in
    c.loop-record.invariant ∙ adds_nothing c.args.last (string_bytes c.loop-record.text) p (place_says c.next.new.self) e c.next.ensures.moves

pub returns-then-is_turnable : goal.returns-then-is_turnable
returns-then-is_turnable c =
    let waiting : (c.args.last || not (turnable c.in-Err.stop.question)) ≡ false = rw (c.if-not-last.true, ← c.is_turnable.ensures, c.if-is_turnable.true) refl in
    c.loop-record.invariant
    ∙ waits c.args.last (string_bytes c.loop-record.text) (place_says c.loop-record.records) (place_says c.next.new.self) _ waiting c.in-Err.ensures.gives c.next.ensures.moves

pub returns-in-Err : goal.returns-in-Err
returns-in-Err c =
    let settled : (c.args.last || not (turnable c.in-Err.stop.question)) ≡ true =
    elim c.else-not-last.branch [
      | else-not-last-via-then-not-last+else-is_turnable w ↦ rw (w.if-not-last.true, ← w.is_turnable.ensures, w.if-is_turnable.false) refl
      | else-not-last-via-else-not-last w ↦ rw w.if-not-last.false refl
    ] in
    c.loop-record.invariant
    ∙ adds_stop c.args.last _ _ (place_says c.loop-record.records) (place_says c.next.new.self) _ settled c.in-Err.ensures.gives c.next.ensures.moves c.in_ok-write-in-Err.ensures.bytes
