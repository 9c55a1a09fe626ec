-- What a reader of lines has ahead. Assumes nothing.
use Rattle.std.specs.Prelude.{◌≡◌, ℕ, ◌+◌, ◌≤◌, List, [], ◌∷◌, length, vec_items, Ok, Err, Result}
use Rattle.rehearsal.specs.declared.lines.Line.{Line}
use Rattle.rehearsal.specs.declared.lines.Lines.{Lines}
use Rattle.rehearsal.specs.declared.order.Setup.{Setup}
use Rattle.rehearsal.specs.declared.unread.Unread.{Unread}
use Rattle.rehearsal.specs.declared.unread.Unread.TheVariants.{Malformed, EndsEarly, NoMemory}
use Rattle.rehearsal.specs.Reading.{texts, words_in}
use Rattle.rehearsal.specs.Scripts.{Worded, lines_in, if_worded, worded, setup_first}
use Rattle.rehearsal.specs.Words.{Text}

abbrev pub line_says : Line → Worded
line_says l = record { number = l.number; words = texts (vec_items l.words) }

-- the lines with words that are ahead
abbrev pub ahead : Lines → List Worded
ahead s = worded s.before (lines_in s.rest.now)

-- how many lines there are in all
abbrev pub total : Lines → ℕ
total s = s.before + length (lines_in s.rest.now)

-- how many octets are left, and lines came before: what bounds the number of lines
abbrev pub size : Lines → ℕ
size s = s.before + length s.rest.now

-- from s to t the next line was taken off
pub record IsOff (s t : Lines) (line : Text) : Type 0 where
  pub ahead : ahead s ≡ if_worded t.before (words_in line) (ahead t)
  pub total : total t ≡ total s
  pub size : size t ≤ size s
  pub fewer : length t.rest.now + 1 ≤ length s.rest.now

-- lines with no words were passed over
pub record IsPassed (s t : Lines) : Type 0 where
  pub ahead : ahead s ≡ ahead t
  pub total : total t ≡ total s
  pub size : size t ≤ size s
  pub fewer : length t.rest.now ≤ length s.rest.now

-- the next line with words was read
pub record IsNext (s t : Lines) (l : Line) : Type 0 where
  pub ahead : ahead s ≡ line_says l ∷ ahead t
  pub total : total t ≡ total s
  pub size : size t ≤ size s
  pub fewer : length t.rest.now + 1 ≤ length s.rest.now

-- no line with words was left
pub record IsEnd (s t : Lines) : Type 0 where
  pub ahead : ahead s ≡ []
  pub total : t.before ≡ total s
  pub size : size t ≤ size s

-- the next line with words set up the end of that name
pub record IsBegun (name : Text) (s t : Lines) (u : Setup) : Type 0 where
  pub begun : setup_first name (total s) (ahead s) ≡ Ok (record { setup = u; ahead = ahead t })
  pub total : total t ≡ total s
  pub size : size t ≤ size s

-- what setting up answers
abbrev pub SetsUp : Text → Lines → Lines → Result Setup Unread → Type 0
SetsUp name s t (Ok u) = IsBegun name s t u
SetsUp name s t (Err (Malformed n)) = setup_first name (total s) (ahead s) ≡ Err (Malformed n)
SetsUp name s t (Err (EndsEarly n)) = setup_first name (total s) (ahead s) ≡ Err (EndsEarly n)
SetsUp name s t (Err NoMemory) = Unit {0}
