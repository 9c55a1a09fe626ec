-- The sheet of a capture that is read window by window. Assumes nothing.
use Rattle.std.specs.Prelude.{ℕ, zero, suc, ◌+◌, ◌-◌, Bool, true, false, cond, not, ◌||◌, List, [], ◌∷◌, ◌++◌, Some, None, Ok, Err, Option, Result}
use Rattle.capture.specs.declared.stop.Stop.{Stop}
use Rattle.capture.specs.Records.{Sent, Place, place_of, next_at, place_after}
use Rattle.capture.specs.Stops.{turnable}
use Rattle.callsheet.specs.Text.{record_text, stop_text}

-- what comes of the octets that are at hand: lines, whether octets to come may add to them, and the place after what was whole
pub record Window : Type 0 where
  pub text : List ℕ
  pub more : Bool
  pub place : Place

abbrev pub window : List ℕ → Bool → Place → Window
window t m p = record { text = t; more = m; place = p }

abbrev pub preceded : List ℕ → Window → Window
preceded t w = window (t ++ w.text) w.more w.place

-- one record and then what follows it; or the end, or a wait for octets that may turn the answer: none come after the last window
abbrev pub stepped : Bool → Place → Result (Option Sent) Stop → Window → Window
stepped last p (Ok (Some s)) rest = preceded (record_text (p.before + 1) s) rest
stepped last p (Ok None) rest = window [] (not last) p
stepped last p (Err e) rest = cond (last || not (turnable e.question)) (window (stop_text e) false p) (window [] true p)

-- from a place on, where at most so many records more may be read
unfoldable pub window_for : Bool → ℕ → Place → Window
window_for last zero p = stepped last p (next_at p) (window [] true p)
window_for last (suc k) p = stepped last p (next_at p) (window_for last k (place_after p))

abbrev pub window_at : Bool → Place → Window
window_at last p = window_for last (999999 - p.before) p

-- the lines of all windows: what was left of one is put before the octets that come next, and the last one, to which none come, ends the sheet
abbrev pub lines_over : Place → List (List ℕ) → List ℕ
lines_over p [] = (window_at true p).text
lines_over p (octets ∷ later) =
    let w = window_at false (place_of (p.octets ++ octets) p.before) in
    w.text ++ cond w.more (lines_over w.place later) []
