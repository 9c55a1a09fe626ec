use Rattle.callsheet.proofs.Cuts.{whole_sheet}
use Rattle.callsheet.proofs.whole.sheet_of.Goals as goal

pub returns : goal.returns
returns c = whole_sheet _ _ _ _ _ c.in_ok-text.ensures.ok c.in_ok-add_window.ensures
