use Rattle.std.proofs.Common.{◌≡◌, ◌-◌, string_bytes}
use Rattle.capture.specs.Views.{place_says}
use Rattle.callsheet.specs.Windows.{window_at, preceded}
use Rattle.callsheet.proofs.window.add_window.Given as goal

-- what is left of the window gives the answer, along with what was added
abbrev pub invariant-loop-record : goal.invariant-loop-record
invariant-loop-record l =
    preceded (string_bytes l.initial.text) (window_at l.last (place_says l.initial.records))
    ≡ preceded (string_bytes l.text) (window_at l.last (place_says l.records))

abbrev pub decreases-loop-record : goal.decreases-loop-record
decreases-loop-record l = 999999 - (place_says l.records).before
