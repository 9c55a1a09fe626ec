-- Calls that are read line by line. Assumes nothing.
use Rattle.std.proofs.Common.{◌≡◌, ℕ, List, [], ◌∷◌, ◌++◌, Some, Ok, Err, Result, refl, sym, ap, ◌∙◌, map, append_assoc}
use Rattle.std.proofs.lemmas.List.{map-append}
use Rattle.trunk.specs.declared.call.Turn.{Turn}
use Rattle.trunk.specs.Views.{Ask, turn_says}
use Rattle.rehearsal.specs.declared.lines.Line.{Line}
use Rattle.rehearsal.specs.declared.lines.Lines.{Lines}
use Rattle.rehearsal.specs.declared.unread.Unread.{Unread}
use Rattle.rehearsal.specs.Ahead.{line_says, ahead}
use Rattle.rehearsal.specs.Orders.{turn_in}
use Rattle.rehearsal.specs.Scripts.{Calls, call_then, calls_in}

abbrev pub behind_calls : Calls → Result Calls Unread → Result Calls Unread
behind_calls done (Ok more) = Ok (record { asked = done.asked ++ more.asked; lines = done.lines ++ more.lines })
behind_calls done (Err e) = Err e

-- one call more
pub call_more : (asked : List Ask) (lines : List ℕ) (a : Ask) (n : ℕ) (more : Result Calls Unread)
    → behind_calls (record { asked = asked ++ a ∷ []; lines = lines ++ n ∷ [] }) more ≡ behind_calls (record { asked = asked; lines = lines }) (call_then n (Some a) more)
call_more asked lines a n (Ok more) = simp append_assoc
call_more asked lines a n (Err e) = refl

-- the same, as code adds it to what it has read
pub call_read : (s t : Lines) (l : Line) (turn : Turn) (turns turns' : List Turn) (lines lines' : List ℕ) (whole : Result Calls Unread)
    → ahead s ≡ line_says l ∷ ahead t → Some (turn_says turn) ≡ turn_in (line_says l).words
    → turns' ≡ turns ++ turn ∷ [] → lines' ≡ lines ++ l.number ∷ []
    → behind_calls (record { asked = map turn_says turns; lines = lines }) (calls_in (ahead s)) ≡ whole
    → behind_calls (record { asked = map turn_says turns'; lines = lines' }) (calls_in (ahead t)) ≡ whole
call_read s t l turn turns turns' lines lines' whole next said more more' sofar =
    let says : map turn_says turns' ≡ map turn_says turns ++ turn_says turn ∷ [] = ap (map turn_says) more ∙ map-append turn_says turns (turn ∷ []) in
    let here : calls_in (ahead s) ≡ call_then l.number (Some (turn_says turn)) (calls_in (ahead t)) =
    ap calls_in next ∙ ap (λ o. call_then l.number o (calls_in (ahead t))) (sym said) in
    ap (λ said. behind_calls (record { asked = said; lines = lines' }) (calls_in (ahead t))) says
    ∙ ap (λ ls. behind_calls (record { asked = map turn_says turns ++ turn_says turn ∷ []; lines = ls }) (calls_in (ahead t))) more'
    ∙ call_more (map turn_says turns) lines (turn_says turn) l.number (calls_in (ahead t))
    ∙ ap (behind_calls (record { asked = map turn_says turns; lines = lines })) (sym here)
    ∙ sofar
