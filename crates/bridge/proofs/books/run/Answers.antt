-- A run's turns and its end.
use Rattle.std.proofs.Common.{◌≡◌, ◌<◌, ◌≤◌, min, length, sym, ap, ◌∙◌, rules}
use Rattle.bridge.specs.Runs.{code}
use Rattle.bridge.proofs.RunLaws.{turned, end}
use Rattle.bridge.proofs.books.run.Goals as goal

pub loop-i-preserved : goal.loop-i-preserved
loop-i-preserved g c =
    let kind = g.B.ArrivalBook in
    let places = c.args.places.now in
    let numbers = c.args.numbers.now in
    let buffer = c.loop-i.judgements in
    let i = c.loop-i.i in
    let in-places : i < length places = search rules in
    let in-numbers : i < length numbers = search rules in
    let in_buffer : i < length buffer = search rules in
    turned kind.depth (kind.seen c.loop-i.book) (kind.seen c.judge_and_note.new.book) places numbers buffer i c.code_of.result
    in-places in-numbers in_buffer c.judge_and_note.ensures.notes (c.code_of.ensures ∙ ap code c.judge_and_note.ensures.judges)
    ∙ c.loop-i.invariant

pub returns : goal.returns
returns g c =
    let kind = g.B.ArrivalBook in
    let places = c.args.places.now in
    let numbers = c.args.numbers.now in
    let buffer = c.loop-i.judgements in
    let i = c.loop-i.i in
    let count : c.min-count.result ≡ min (min (length places) (length numbers)) (length c.args.judgements.now) = search rules in
    let all : min (min (length places) (length numbers)) (length buffer) ≤ i = search rules in
    record {
      counts = count;
      writes = sym (end kind.depth (kind.seen c.loop-i.book) places numbers buffer i all) ∙ c.loop-i.invariant;
    }
