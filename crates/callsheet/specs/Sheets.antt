-- What a sheet in the making says. Assumes nothing.
use Rattle.std.specs.Prelude.{◌≡◌, ℕ, Bool, List, [], vec_items, string_bytes}
use Rattle.capture.specs.Records.{Place, place_of}
use Rattle.callsheet.specs.declared.sheet.Sheet.{Sheet}
use Rattle.callsheet.specs.Text.{column_line}
use Rattle.callsheet.specs.Windows.{window, window_at}

-- how far the capture was read: the octets that are left, and how many records came before
abbrev pub place_in : Sheet → Place
place_in s = place_of (vec_items s.unread) s.records

abbrev pub text_in : Sheet → List ℕ
text_in s = string_bytes s.text

pub record Begun (s : Sheet) : Type 0 where
  pub place : place_in s ≡ place_of [] 0
  pub text : text_in s ≡ column_line

-- from s to t a window was read
abbrev pub ReadTo : Bool → Sheet → Sheet → Bool → Type 0
ReadTo last s t more = window_at last (place_in s) ≡ window (text_in t) more (place_in t)

-- nothing was read, and there is no text
pub record Unread (s t : Sheet) : Type 0 where
  pub place : place_in t ≡ place_in s
  pub text : text_in t ≡ []
