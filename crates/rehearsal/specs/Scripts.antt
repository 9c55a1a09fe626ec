-- What a whole script says. Assumes nothing.
use Rattle.std.specs.Prelude.{◌≡◌, ℕ, ◌+◌, cond, List, [], ◌∷◌, length, map, Some, None, Ok, Err, codes, slice_get, vec_items, Option, Result, ◌==◌}
use Rattle.std.specs.List.{onto_first}
use Rattle.datagram.specs.Results.{and_then}
use Rattle.trunk.specs.declared.log.Error as run
use Rattle.trunk.specs.declared.log.Error.TheVariants as error
use Rattle.trunk.specs.declared.setting.Setting.{Setting}
use Rattle.trunk.specs.declared.setting.Side.TheVariants.{Left, Right}
use Rattle.trunk.specs.Acts.{Octets}
use Rattle.trunk.specs.Views.{Ask, turn_says}
use Rattle.rehearsal.specs.declared.order.Setup.{Setup}
use Rattle.rehearsal.specs.declared.script as script
use Rattle.rehearsal.specs.declared.unread.Unread.{Unread}
use Rattle.rehearsal.specs.declared.unread.Unread.TheVariants.{Malformed, EndsEarly, NoMemory}
use Rattle.rehearsal.specs.Orders.{setup_in, turn_in}
use Rattle.rehearsal.specs.Reading.{words_in}
use Rattle.rehearsal.specs.Words.{Text}

-- the lines of a script, each without the newline that ends it, which the last may lack
abbrev pub lines_in : Octets → List Text
lines_in [] = []
lines_in (x ∷ xs) = cond (x == 0x0A) ([] ∷ lines_in xs) (onto_first x (lines_in xs))

-- a line with words, by its number
pub record Worded : Type 0 where
  pub number : ℕ
  pub words : List Text

abbrev pub if_worded : ℕ → List Text → List Worded → List Worded
if_worded n [] more = more
if_worded n (w ∷ ws) more = record { number = n; words = w ∷ ws } ∷ more

-- the lines with words, behind n others
abbrev pub worded : ℕ → List Text → List Worded
worded n [] = []
worded n (l ∷ ls) = if_worded (n + 1) (words_in l) (worded (n + 1) ls)

-- the calls of a script, and by which lines they stand on
pub record Calls : Type 0 where
  pub asked : List Ask
  pub lines : List ℕ

abbrev pub no_calls : Calls
no_calls = record { asked = []; lines = [] }

abbrev pub in_front_of : Ask → ℕ → Calls → Calls
in_front_of a n cs = record { asked = a ∷ cs.asked; lines = n ∷ cs.lines }

abbrev pub call_then : ℕ → Option Ask → Result Calls Unread → Result Calls Unread
call_then n None more = Err (Malformed n)
call_then n (Some a) (Ok cs) = Ok (in_front_of a n cs)
call_then n (Some a) (Err e) = Err e

-- lines of which each is a call
abbrev pub calls_in : List Worded → Result Calls Unread
calls_in [] = Ok no_calls
calls_in (l ∷ ls) = call_then l.number (turn_in l.words) (calls_in ls)

pub record Script : Type 0 where
  pub left : Setup
  pub right : Setup
  pub calls : Calls

-- an end that was set up, and the lines behind
pub record Begun : Type 0 where
  pub setup : Setup
  pub ahead : List Worded

abbrev pub begun_with : ℕ → Option Setup → List Worded → Result Begun Unread
begun_with n None ls = Err (Malformed n)
begun_with n (Some s) ls = Ok (record { setup = s; ahead = ls })

-- the first of the lines sets up the end of that name; the script has so many lines in all
abbrev pub setup_first : Text → (total : ℕ) → List Worded → Result Begun Unread
setup_first name total [] = Err (EndsEarly (total + 1))
setup_first name total (l ∷ ls) = begun_with l.number (setup_in name l.number l.words) ls

abbrev pub with_calls : Setup → Setup → Result Calls Unread → Result Script Unread
with_calls l r (Ok cs) = Ok (record { left = l; right = r; calls = cs })
with_calls l r (Err e) = Err e

-- a script of so many lines, by those with words: both ends, then calls
abbrev pub script_of : (total : ℕ) → List Worded → Result Script Unread
script_of total ls =
    and_then (setup_first (codes "left") total ls) (λ l.
    and_then (setup_first (codes "right") total l.ahead) (λ r.
    with_calls l.setup r.setup (calls_in r.ahead)))

abbrev pub script_in : Octets → Result Script Unread
script_in d = script_of (length (lines_in d)) (worded 0 (lines_in d))

abbrev pub calls_say : script.Calls.Calls → Calls
calls_say cs = record { asked = map turn_says (vec_items cs.turns); lines = vec_items cs.lines }

abbrev pub script_says : script.Script.Script → Script
script_says s = record { left = s.left; right = s.right; calls = calls_say s.calls }

-- what reading answers: the script or what is wrong with it, and where memory is wanting anything
abbrev pub ReadAs : {X Y : Type 0} → (X → Y) → Result X Unread → Result Y Unread → Type 0
ReadAs says (Ok x) r = Ok (says x) ≡ r
ReadAs says (Err (Malformed n)) r = Err (Malformed n) ≡ r
ReadAs says (Err (EndsEarly n)) r = Err (EndsEarly n) ≡ r
ReadAs says (Err NoMemory) r = Unit {0}

abbrev pub setting_of : Script → Setting
setting_of s = record { left = s.left.end; right = s.right.end }

-- the line that an error of a run is told at
abbrev pub line_of : Script → run.Error → Option ℕ
line_of s (error.StartRefused Left) = Some s.left.line
line_of s (error.StartRefused Right) = Some s.right.line
line_of s error.SamePeer = Some s.right.line
line_of s (error.NoSuchDatagram call) = slice_get s.calls.lines call
line_of s (error.OthersAddress call) = slice_get s.calls.lines call
line_of s error.NoMemory = None
