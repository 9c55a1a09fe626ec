use Rattle.callsheet.proofs.Cuts.{laws_of_windows}
use Rattle.callsheet.proofs.sheet.Sheet.begin.Goals as goal

pub returns-in_err-from_str-clause-laws : goal.returns-in_err-from_str-clause-laws
returns-in_err-from_str-clause-laws c = laws_of_windows

pub returns-clause-laws : goal.returns-clause-laws
returns-clause-laws c = laws_of_windows
