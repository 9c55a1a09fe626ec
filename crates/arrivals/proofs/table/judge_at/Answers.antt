-- To a blank place every number is fresh.
use Rattle.std.proofs.Common.{sym, ap, ◌∙◌}
use Rattle.arrivals.specs.Meaning.{judged_number}
use Rattle.arrivals.specs.Tables.{place_seen}
use Rattle.arrivals.specs.Judging.{fresh_blank}
use Rattle.arrivals.proofs.table.judge_at.Goals as goal

pub returns-in-None : goal.returns-in-None
returns-in-None g c =
    let kind = g.W.Window in
    sym (ap (λ x. judged_number kind.DEPTH (place_seen kind.seen x) c.args.number.value) c.in-None.is ∙ fresh_blank kind.DEPTH c.args.number.value)
