-- The sheet of a capture, taken record by record or window by window. Assumes nothing.
use Rattle.std.specs.Prelude.{◌≡◌, ℕ, ◌+◌, ◌<◌, true, false, List, [], ◌∷◌, ◌++◌, length, Some, None, Ok, Err}
use Rattle.capture.specs.Layout.{record_end}
use Rattle.capture.specs.declared.stop.Stop.{Stop}
use Rattle.capture.specs.Records.{Sent, Place, place_of, next_at, place_after}
use Rattle.callsheet.specs.Text.{record_text, stop_text, column_line, sheet_text}
use Rattle.callsheet.specs.Windows.{window_at, lines_over}

abbrev pub joined : List (List ℕ) → List ℕ
joined [] = []
joined (x ∷ xs) = x ++ joined xs

-- record after record is taken from a place on, each for the text of its lines, until none is left or one stops it
pub data Taken : Place → List (List ℕ) → Type 0 where
  over : {p : Place} → Ok None ≡ next_at p → Taken p []
  stopped : {p : Place} (e : Stop) → Err e ≡ next_at p → Taken p (stop_text e ∷ [])
  further : {p : Place} {texts : List (List ℕ)} (s : Sent) → Ok (Some s) ≡ next_at p → Taken (place_after p) texts → Taken p (record_text (p.before + 1) s ∷ texts)

-- the column line and the texts of all records, one after another, are the sheet
abbrev pub RecordsMakeTheSheet : Type 0
RecordsMakeTheSheet = (d : List ℕ) (texts : List (List ℕ)) → Taken (place_of d 0) texts → column_line ++ joined texts ≡ sheet_text d

-- however a capture is cut into windows, the column line and the lines of all windows are its sheet
abbrev pub WindowsMakeTheSheet : Type 0
WindowsMakeTheSheet = (windows : List (List ℕ)) → column_line ++ lines_over (place_of [] 0) windows ≡ sheet_text (joined windows)

-- while more may follow, what is kept of a window is less than one whole record, whatever the size of the capture
abbrev pub LessThanARecordWaits : Type 0
LessThanARecordWaits = (p : Place) → (window_at false p).more ≡ true → length (window_at false p).place.octets < record_end (window_at false p).place.octets

pub record LawsOfWindows : Type 0 where
  pub sheet : WindowsMakeTheSheet
  pub memory : LessThanARecordWaits
