-- A run of a script's calls, by the books that it names. Assumes nothing.
use Rattle.std.proofs.Common.{◌≡◌, List, Result}
use Rattle.trunk.specs.declared.log.Error.{Error}
use Rattle.trunk.specs.declared.setting.Setting.{Setting}
use Rattle.trunk.specs.Runs.{setting_says, Runs}
use Rattle.trunk.specs.Views.{Ask, Report}
use Rattle.rehearsal.specs.declared.word.Book.{Book}
use Rattle.rehearsal.specs.Rehearsals.{depth_of, ends_of}
use Rattle.rehearsal.specs.Scripts.{Script, setting_of}

pub runs_as : (s : Script) (l r : Book) (setting : Setting) (asked asked' : List Ask) (answer : Result (List Report) Error)
    → s.left.book ≡ l → s.right.book ≡ r → setting ≡ setting_of s → asked' ≡ asked
    → Runs (setting_says (depth_of l) (depth_of r) setting) asked' answer 4 3000 → Runs (ends_of s) asked answer 4 3000
runs_as s l r setting asked asked' answer left right same told h = rw (left, right, ← told) (rw same at h)
