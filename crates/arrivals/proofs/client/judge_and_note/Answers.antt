-- Judging, and noting what is fresh, is noting.
use Rattle.std.proofs.Common.{◌≡◌, sym, refl, ap, ◌∙◌, rules}
use Rattle.arrivals.specs.Meaning.{judged, is_fresh}
use Rattle.arrivals.specs.declared.book.Judgement.TheVariants.{Fresh}
use Rattle.arrivals.proofs.PlaceLaws.{noted_elsewhere, not_fresh}
use Rattle.arrivals.proofs.HistoryLaws.{not_fresh_noted, unchanged}
use Rattle.arrivals.proofs.client.judge_and_note.Goals as goal

pub returns-then-eq : goal.returns-then-eq
returns-then-eq g c =
    let kind = g.B.ArrivalBook in
    let before = kind.seen c.args.book.now in
    let place = c.args.place in
    let number = c.args.number in
    record {
      judges = c.judge-judgement.ensures.judges;
      notes = c.note.ensures;
      known = ap (λ b. is_fresh (judged kind.depth b place number)) c.note.ensures ∙ not_fresh_noted kind.depth before place number;
      elsewhere = λ q other. ap (λ b. b q) c.note.ensures ∙ noted_elsewhere kind.depth before place number q other;
    }

pub returns-else-eq : goal.returns-else-eq
returns-else-eq g c =
    let kind = g.B.ArrivalBook in
    let before = kind.seen c.args.book.now in
    let said = c.if-eq.ensures in
    let other : c.judge-judgement.result ≡ Fresh → ⊥ = search rules in
    record {
      judges = c.judge-judgement.ensures.judges;
      notes = sym (unchanged kind.depth before c.args.place c.args.number (λ f. other (c.judge-judgement.ensures.judges ∙ f)));
      known = not_fresh (judged kind.depth before c.args.place c.args.number) (λ f. other (c.judge-judgement.ensures.judges ∙ f));
      elsewhere = λ q other. refl;
    }
