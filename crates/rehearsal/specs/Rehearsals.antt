-- What a rehearsal answers: the transcript of a script that is read and run, or what is told instead. Assumes nothing.
use Rattle.std.specs.Prelude.{◌≡◌, ℕ, List, map, Some, Ok, Err, Result}
use Rattle.trunk.specs.declared.log.Entry.{Entry}
use Rattle.trunk.specs.declared.log.Error as run
use Rattle.trunk.specs.Acts.{Octets}
use Rattle.trunk.specs.Runs.{setting_says, ran, Lawful}
use Rattle.trunk.specs.Two.{Setting}
use Rattle.trunk.specs.Views.{Report, entry_says}
use Rattle.rehearsal.specs.declared.whole.Stop.{Stop}
use Rattle.rehearsal.specs.declared.whole.Stop.TheVariants as stop
use Rattle.rehearsal.specs.declared.unread.Unread.TheVariants.{Malformed, EndsEarly, NoMemory}
use Rattle.rehearsal.specs.declared.word.Book.{Book}
use Rattle.rehearsal.specs.declared.word.Book.TheVariants as book
use Rattle.rehearsal.specs.Scripts.{Script, script_in, setting_of, line_of}
use Rattle.rehearsal.specs.Transcript.{transcript}
use Rattle.rehearsal.specs.Words.{Text}

abbrev pub depth_of : Book → ℕ
depth_of book.Mask = 64
depth_of book.List = 24

-- the two ends that a script sets up
abbrev pub ends_of : Script → Setting
ends_of s = setting_says (depth_of s.left.book) (depth_of s.right.book) (setting_of s)

-- the text is the transcript of the script in d, which was run and kept the law
pub record Rehearsed (d : Octets) (text : Text) : Type 0 where
  pub script : Script
  pub reads : script_in d ≡ Ok script
  pub reports : List Report
  pub runs : Lawful (ends_of script) script.calls.asked reports 4 3000
  pub says : text ≡ transcript script.calls.asked reports

-- the script was read, and is told of at that line since a run of it comes to this error
pub record Refused (d : Octets) (line : ℕ) (e : run.Error) : Type 0 where
  pub script : Script
  pub reads : script_in d ≡ Ok script
  pub refuses : ran (ends_of script) script.calls.asked ≡ Err e
  pub blames : line_of script e ≡ Some line

-- only want of memory is left open
abbrev pub Rehearses : Octets → Result Text Stop → Type 0
Rehearses d (Ok text) = Rehearsed d text
Rehearses d (Err (stop.Unread (Malformed n))) = script_in d ≡ Err (Malformed n)
Rehearses d (Err (stop.Unread (EndsEarly n))) = script_in d ≡ Err (EndsEarly n)
Rehearses d (Err (stop.Unread NoMemory)) = Unit {0}
Rehearses d (Err (stop.Refused line e)) = Refused d line e
Rehearses d (Err stop.NoMemory) = Unit {0}
