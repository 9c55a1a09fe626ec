use Rattle.std.proofs.Common.{◌<◌, ◌≤◌, length, sym, ap, ◌∙◌}
use Rattle.std.proofs.lemmas.Bool.{ltb-true, ltb-false}
use Rattle.trunk.specs.Parties.{line_of}
use Rattle.trunk.specs.Views.{side_says, entry_says}
use Rattle.trunk.proofs.Stepping.{line_in, line_past}
use Rattle.trunk.proofs.log.line_at.Goals as goal

pub returns-in_err-get : goal.returns-in_err-get
returns-in_err-get c =
    let past : length c.args.log.now ≤ c.args.index = ltb-false _ _ (sym c.in_err-get.ensures.lookup.0) in
    rw c.from_residual.ensures (sym (line_past entry_says c.args.log.now c.args.index (side_says c.args.side) past))

pub returns : goal.returns
returns c =
    let within : c.args.index < length c.args.log.now = ltb-true _ _ (sym c.in_ok-get.ensures.lookup.0) in
    c.line_of.ensures
    ∙ ap (λ e. line_of (side_says c.args.side) (entry_says e)) c.in_ok-get.ensures.lookup.1
    ∙ sym (line_in entry_says c.args.log.now c.args.index (side_says c.args.side) _ within)
