-- A table notes a fresh number at the place that is asked for, and leaves the others as they were.
use Rattle.std.proofs.Common.{◌≡◌, ◌<◌, length, get_or, None, sym, ap, ◌∙◌, inl, inr, arith, rules}
use Rattle.std.proofs.lemmas.List.{get_or_default}
use Rattle.arrivals.specs.Meaning.{judged_number, with_fresh}
use Rattle.arrivals.specs.Tables.{place_seen}
use Rattle.arrivals.specs.declared.book.Judgement.TheVariants.{Fresh}
use Rattle.arrivals.proofs.PlaceLaws.{judged_inside, judged_number_lem, noted_fresh, noted_one}
use Rattle.arrivals.proofs.HistoryLaws.{unchanged, outside_unchanged}
use Rattle.arrivals.proofs.table.TableArrivalBook.note.Goals as goal
use Rattle.arrivals.proofs.table.TableArrivalBook.note.Goals.{else-place-lt-PLACES-via-then-place-lt-PLACES+else-eq, else-place-lt-PLACES-via-else-place-lt-PLACES}

pub returns-in_default : goal.returns-in_default
returns-in_default g c = sym (outside_unchanged _ _ c.args.place c.args.number (inr c.in_default.ensures))

pub returns-then-eq : goal.returns-then-eq
returns-then-eq g c =
    let kind = g.W.Window in
    let places = c.args.self.now.places in
    let place = c.args.place in
    let n = c.in-Ok.number in
    let within : place < length places = search rules in
    let low = n.in_range in
    let said = c.if-eq.ensures in
    let is : c.judge_at.result ≡ Fresh = search rules in
    let fresh = judged_number_lem kind.DEPTH (place_seen kind.seen (get_or places place None)) n.value (omega arith)
    ∙ ap (λ x. judged_number kind.DEPTH (place_seen kind.seen x) n.value) (sym (get_or_default places place c.index-self-place.result None within))
    ∙ sym c.judge_at.ensures ∙ is in
    rw (← c.in-Ok.ensures) (noted_one kind.DEPTH (place_seen kind.seen) None places place n.value _ within c.if-place-lt-PLACES.true
    (c.with_at.ensures
    ∙ ap (λ x. with_fresh kind.DEPTH (place_seen kind.seen x) n.value) (get_or_default places place c.index-self-place-then-eq.result None within)
    ∙ sym (noted_fresh _ _ n.value fresh)))

pub returns-else-place-lt-PLACES : goal.returns-else-place-lt-PLACES
returns-else-place-lt-PLACES g c =
    elim c.else-place-lt-PLACES.branch [
      | else-place-lt-PLACES-via-then-place-lt-PLACES+else-eq w ↦
          let kind = g.W.Window in
          let places = c.args.self.now.places in
          let place = c.args.place in
          let n = c.in-Ok.number in
          let within : place < length places = search rules in
          let low = n.in_range in
          let said = w.if-eq.ensures in
          let other : w.judge_at.result ≡ Fresh → ⊥ = search rules in
          rw (← c.in-Ok.ensures) (sym (unchanged _ _ place n.value (λ f. other (w.judge_at.ensures
          ∙ ap (λ x. judged_number kind.DEPTH (place_seen kind.seen x) n.value) (get_or_default places place w.index-self-place.result None within)
          ∙ sym (judged_inside _ _ place n.value w.if-place-lt-PLACES.true low) ∙ f))))
      | else-place-lt-PLACES-via-else-place-lt-PLACES w ↦ sym (outside_unchanged _ _ c.args.place c.args.number (inl w.if-place-lt-PLACES.false))
    ]
