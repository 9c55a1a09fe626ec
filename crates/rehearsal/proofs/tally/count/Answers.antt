use Rattle.std.proofs.Common.{rules, tests, ◌∙◌}
use Rattle.std.proofs.lemmas.Iterator.{YieldsList-from_slice, YieldsList-from_zip}
use Rattle.std.proofs.lemmas.Iterator.Consumers.{YieldsList-at, YieldsList-from_filter, count_from_yields_List}
use Rattle.std.proofs.lemmas.List.Sums.{length-filter}
use Rattle.trunk.specs.declared.call.Turn.{Turn}
use Rattle.trunk.specs.declared.log.Entry.{Entry}
use Rattle.trunk.specs.Views.{side_says, turn_says, entry_says}
use Rattle.rehearsal.specs.Counts.{shows}
use Rattle.rehearsal.proofs.Counting.{counted_says}
use Rattle.rehearsal.proofs.tally.count.Goals as goal

pub returns : goal.returns
returns c =
    let s = side_says c.args.side in
    let is = λ (p : Turn × Entry). shows c.args.event s (turn_says p.0) (entry_says p.1) in
    let ts = c.args.turns.now in
    let es = c.args.entries.now in
    count_from_yields_List c.filter.result _ c.count.ensures.ran
    (YieldsList-from_filter _ is
    (YieldsList-at c.filter.ensures.source
    (YieldsList-from_zip (YieldsList-at c.zip.ensures.first (YieldsList-from_slice ts cc)) (YieldsList-from_slice es cc)))
    c.filter.ensures.closure (λ x b q k. search (rules, tests)))
    ∙ length-filter is _
    ∙ counted_says c.args.event s ts es
