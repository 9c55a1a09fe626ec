use Rattle.callsheet.proofs.Taking.{records_make_the_sheet}
use Rattle.callsheet.proofs.lines.record_lines.Goals as goal

pub returns-in_err-add_lines-clause-law : goal.returns-in_err-add_lines-clause-law
returns-in_err-add_lines-clause-law c = records_make_the_sheet

pub returns-clause-law : goal.returns-clause-law
returns-clause-law c = records_make_the_sheet
