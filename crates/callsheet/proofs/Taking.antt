-- The texts of records that are taken one after another make the sheet. Assumes nothing.
use Rattle.std.proofs.Common.{◌≡◌, ℕ, ◌+◌, List, ◌++◌, sym, refl, ap, ◌∙◌, append-nil}
use Rattle.capture.specs.Records.{Place, place_of, place_after}
use Rattle.callsheet.specs.Laws.{joined, Taken, over, stopped, further, RecordsMakeTheSheet}
use Rattle.callsheet.specs.Text.{record_text, stop_text, column_line}
use Rattle.callsheet.proofs.Steps.{lines_from, lines_step, lines_none, lines_stop}

taken_lines : (p : Place) (texts : List (List ℕ)) → Taken p texts → joined texts ≡ lines_from p
taken_lines p _ (over e) = sym (lines_none p e)
taken_lines p _ (stopped s e) = append-nil (stop_text s) ∙ sym (lines_stop p s e)
taken_lines p _ (further {texts} s e rest) = ap (λ t. record_text (p.before + 1) s ++ t) (taken_lines (place_after p) texts rest) ∙ sym (lines_step p (place_after p) s e refl)

pub records_make_the_sheet : RecordsMakeTheSheet
records_make_the_sheet d texts t = ap (λ u. column_line ++ u) (taken_lines (place_of d 0) texts t)
