-- A count over calls of the code is one over what they say. Assumes nothing.
use Rattle.std.proofs.Common.{◌≡◌, ℕ, ◌+◌, List, [], ◌∷◌, map, cond, count_by, zip, refl, sym, ap, ◌∙◌}
use Rattle.std.proofs.lemmas.List.Sums.{sum_by-cons}
use Rattle.trunk.specs.declared.call.Turn.{Turn}
use Rattle.trunk.specs.declared.log.Entry.{Entry}
use Rattle.trunk.specs.Acts.{Side}
use Rattle.trunk.specs.Views.{Ask, Report, turn_says, entry_says}
use Rattle.rehearsal.specs.declared.tally.Event.{Event}
use Rattle.rehearsal.specs.Counts.{shows, counted}

pub counted_says : (e : Event) (s : Side) (ts : List Turn) (es : List Entry)
    → count_by (λ (p : Turn × Entry). shows e s (turn_says p.0) (entry_says p.1)) (zip ts es) ≡ counted e s (map turn_says ts) (map entry_says es)
counted_says e s [] es = refl
counted_says e s (t ∷ ts) [] = refl
counted_says e s (t ∷ ts) (x ∷ es) =
    let one : ℕ = cond (shows e s (turn_says t) (entry_says x)) 1 0 in
    sum_by-cons (λ (p : Turn × Entry). cond (shows e s (turn_says p.0) (entry_says p.1)) 1 0) (t, x) (zip ts es)
    ∙ ap (λ n. one + n) (counted_says e s ts es)
    ∙ sym (sum_by-cons (λ (p : Ask × Report). cond (shows e s p.0 p.1) 1 0) (turn_says t, entry_says x) (zip (map turn_says ts) (map entry_says es)))
