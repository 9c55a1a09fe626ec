-- A table judges at the place that is asked for.
use Rattle.std.proofs.Common.{◌≡◌, ◌<◌, ◌≤◌, length, get_or, None, sym, ap, ◌∙◌, inl, inr, arith, rules}
use Rattle.arrivals.specs.Meaning.{judged_number}
use Rattle.arrivals.specs.Tables.{place_seen}
use Rattle.arrivals.proofs.PlaceLaws.{judged_outside, judged_inside}
use Rattle.arrivals.proofs.table.TableArrivalBook.judge.Goals as goal

pub returns-in-Some-Ok-clause-judges : goal.returns-in-Some-Ok-clause-judges
returns-in-Some-Ok-clause-judges g c =
    let kind = g.W.Window in
    let place = c.args.place in
    let number = c.in-Some-Ok.ensures' in
    let low = c.in-Some-Ok.number.in_range in
    let long : length c.args.self.now.places ≡ 32 = search rules in
    let within : place < length c.args.self.now.places = search rules in
    let here : c.in-Some-Ok.at.now ≡ get_or c.args.self.now.places place None = search rules in
    c.judge_at.ensures
    ∙ ap (λ x. judged_number kind.DEPTH (place_seen kind.seen x) c.in-Some-Ok.number.value) here
    ∙ ap (judged_number kind.DEPTH _) number
    ∙ sym (judged_inside _ _ place c.args.number (omega arith) (omega arith))

pub returns-in_default-clause-judges : goal.returns-in_default-clause-judges
returns-in_default-clause-judges g c = sym (judged_outside _ _ c.args.place c.args.number (inr c.in_default.ensures'))

pub returns-in_default-2-clause-judges : goal.returns-in_default-2-clause-judges
returns-in_default-2-clause-judges g c =
    let long : length c.args.self.now.places ≡ 32 = search rules in
    let past : length c.args.self.now.places ≤ c.args.place = search rules in
    sym (judged_outside _ _ c.args.place c.args.number (inl (omega arith)))
