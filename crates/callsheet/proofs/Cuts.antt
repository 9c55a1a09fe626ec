-- However a capture is cut into windows, their lines make its sheet. Assumes nothing.
use Rattle.std.proofs.Common.{◌≡◌, ℕ, ◌+◌, ◌<◌, Bool, true, false, cond, not, ◌||◌, List, [], ◌∷◌, ◌++◌, length, Some, None, Ok, Err, sym, refl, ap, ◌∙◌, append_assoc, append-nil}
use Rattle.capture.specs.declared.stop.Stop.{Stop}
use Rattle.capture.specs.Layout.{record_end}
use Rattle.capture.specs.Records.{Sent, Place, place_of, next_at, place_after}
use Rattle.capture.specs.Stops.{turnable}
use Rattle.callsheet.specs.Laws.{joined, WindowsMakeTheSheet, LawsOfWindows}
use Rattle.callsheet.specs.Text.{record_text, stop_text, column_line, sheet_text}
use Rattle.callsheet.specs.Windows.{Window, window, preceded, window_at, lines_over}
use Rattle.callsheet.proofs.Following.{followed, record_follows, stop_follows, place_follows, no_tail, none_short, turnable_short}
use Rattle.callsheet.proofs.Steps.{by_steps, lines_from, lines_step, lines_none, lines_stop}

-- the lines of a window, with those still to come, are the lines that were to come before it
abbrev Conserves : Place → List ℕ → Window → Type 0
Conserves p tail w = w.text ++ cond w.more (lines_from (followed w.place tail)) [] ≡ lines_from (followed p tail)

none_conserved : (last : Bool) (p : Place) (tail : List ℕ) → (last ≡ true → tail ≡ []) → Ok None ≡ next_at p → Conserves p tail (window [] (not last) p)
none_conserved true p tail h e = sym (lines_none (followed p tail) (e ∙ ap next_at (sym (no_tail p tail (h refl)))))
none_conserved false p tail h e = refl

stop_conserved : (last u : Bool) (p : Place) (tail : List ℕ) (s : Stop) → u ≡ turnable s.question → (last ≡ true → tail ≡ []) → Err s ≡ next_at p → Conserves p tail (cond (last || not u) (window (stop_text s) false p) (window [] true p))
stop_conserved true u p tail s is h e = append-nil (stop_text s) ∙ sym (lines_stop (followed p tail) s (e ∙ ap next_at (sym (no_tail p tail (h refl)))))
stop_conserved false false p tail s is h e = append-nil (stop_text s) ∙ sym (lines_stop (followed p tail) s (stop_follows p tail s e (sym is)))
stop_conserved false true p tail s is h e = refl

record_conserved : (last : Bool) (p : Place) (tail : List ℕ) (s : Sent) → Ok (Some s) ≡ next_at p → Conserves (place_after p) tail (window_at last (place_after p)) → Conserves p tail (preceded (record_text (p.before + 1) s) (window_at last (place_after p)))
record_conserved last p tail s e h =
    let q = place_after p in
    let w = window_at last q in
    let t = record_text (p.before + 1) s in
    append_assoc t w.text _ ∙ ap (λ u. t ++ u) h ∙ sym (lines_step (followed p tail) (followed q tail) s (record_follows p tail s e) (place_follows p tail s e))

conserved : (last : Bool) (tail : List ℕ) → (last ≡ true → tail ≡ []) → (p : Place) → Conserves p tail (window_at last p)
conserved last tail h = by_steps last (λ p w. Conserves p tail w)
    (λ p s e. record_conserved last p tail s e)
    (λ p e. none_conserved last p tail h e)
    (λ p s e. stop_conserved last (turnable s.question) p tail s refl h e)

-- nothing follows the last window
last_over : (p : Place) → (window_at true p).more ≡ false
last_over = by_steps true (λ p w. w.more ≡ false) (λ p s e h. h) (λ p e. refl) (λ p s e. refl)

last_lines : (p : Place) → (window_at true p).text ≡ lines_from p
last_lines p =
    let w = window_at true p in
    let all = conserved true [] (λ _. refl) p in
    sym (append-nil w.text)
    ∙ ap (λ b. w.text ++ cond b (lines_from (followed w.place [])) []) (sym (last_over p))
    ∙ all ∙ ap lines_from (no_tail p [] refl)

never : {X : Type 0} → ◌≡◌ {A = Bool} false true → X
never e = absurd (cc)

over : (windows : List (List ℕ)) (p : Place) → lines_over p windows ≡ lines_from (followed p (joined windows))
over [] p = last_lines p ∙ ap lines_from (sym (no_tail p [] refl))
over (octets ∷ later) p =
    let w = window_at false (followed p octets) in
    ap (λ l. w.text ++ cond w.more l []) (over later w.place)
    ∙ conserved false (joined later) (λ e. never e) (followed p octets)
    ∙ ap (λ d. lines_from (place_of d p.before)) (append_assoc p.octets octets (joined later))

windows_make_the_sheet : WindowsMakeTheSheet
windows_make_the_sheet windows = ap (λ t. column_line ++ t) (over windows (place_of [] 0))

-- what waits at the end of a window is less than a record
abbrev Short : Window → Type 0
Short w = w.more ≡ true → length w.place.octets < record_end w.place.octets

stop_short : (u : Bool) (p : Place) (s : Stop) → u ≡ turnable s.question → Err s ≡ next_at p → Short (cond (not u) (window (stop_text s) false p) (window [] true p))
stop_short true p s is e = λ _. turnable_short p s e (sym is)
stop_short false p s is e = λ m. never m

short : (p : Place) → Short (window_at false p)
short = by_steps false (λ p w. Short w) (λ p s e h. h) (λ p e _. none_short p e) (λ p s e. stop_short (turnable s.question) p s refl e)

pub laws_of_windows : LawsOfWindows
laws_of_windows = record { sheet = windows_make_the_sheet; memory = short }

-- a capture that is read whole, as one last window
pub whole_sheet : (t₁ t d : List ℕ) (q : Place) (more : Bool) → t₁ ≡ column_line → preceded t₁ (window_at true (place_of d 0)) ≡ window t more q → t ≡ sheet_text d
whole_sheet t₁ t d q more first h =
    sym (ap (λ w. w.text) h) ∙ ap (λ u. u ++ (window_at true (place_of d 0)).text) first ∙ ap (λ u. column_line ++ u) (last_lines (place_of d 0))
