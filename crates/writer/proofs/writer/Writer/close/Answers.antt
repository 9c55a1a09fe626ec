use Rattle.std.proofs.Common.{sym, refl, ap, ◌∙◌}
use Rattle.writer.specs.Drafts.{against_closing}
use Rattle.writer.proofs.Answering.{took, closed_so}
use Rattle.writer.proofs.Runs.{what_is_closed_reads, reads_as}
use Rattle.writer.proofs.writer.Writer.close.Goals as goal

pub returns-in_err-check_closing-clause-law : goal.returns-in_err-check_closing-clause-law
returns-in_err-check_closing-clause-law c = what_is_closed_reads

pub returns : goal.returns
returns c =
    let none = ap (against_closing c.args.self.now.marks) (sym c.room-room.ensures) ∙ (took _ _ _ (sym c.check_closing.ensures ∙ c.in_ok-check_closing.was)).0 in
    let does = closed_so c.args.self.now _ c.count.result c.mark.result none c.close.ensures c.count.ensures refl c.mark.ensures in
    record { same = refl; does = does; reads = reads_as _ _ _ does; law = what_is_closed_reads }
