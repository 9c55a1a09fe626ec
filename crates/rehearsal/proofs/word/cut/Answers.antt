use Rattle.std.proofs.Common.{rules, tests, eqb, sym, ◌∙◌, ◌≡◌, ◌+◌}
use Rattle.std.proofs.lemmas.Iterator.{YieldsList-from_slice}
use Rattle.std.proofs.lemmas.Iterator.Search.{position_from_yields_List}
use Rattle.rehearsal.proofs.Cutting.{found_at, cut_at, uncut, all_behind}
use Rattle.rehearsal.proofs.word.cut.Goals as goal
use Rattle.rehearsal.proofs.word.cut.Goals.{After-position}

position_is : (c : After-position) → c.position.result ≡ found_at c.args.sign c.args.text.now
position_is c =
    position_from_yields_List (λ x. eqb x c.args.sign) _ _ _ c.position.ensures.ran (YieldsList-from_slice c.args.text.now (cc)) (λ x b q k. search (rules, tests))

pub returns-in-Some-clause-front : goal.returns-in-Some-clause-front
returns-in-Some-clause-front c =
    (cut_at c.args.sign c.args.text.now c.in-Some.at (sym c.in-Some.is ∙ position_is (goal.at.returns-in-Some-clause-front c).After-position)).front

pub returns-in-Some-clause-back : goal.returns-in-Some-clause-back
returns-in-Some-clause-back c =
    all_behind c.args.text.now (c.in-Some.at + 1) ∙ (cut_at c.args.sign c.args.text.now c.in-Some.at (sym c.in-Some.is ∙ position_is (goal.at.returns-in-Some-clause-back c).After-position)).back

pub returns-in-None-clause-front : goal.returns-in-None-clause-front
returns-in-None-clause-front c =
    (uncut c.args.sign c.args.text.now (sym c.in-None.is ∙ position_is (goal.at.returns-in-None-clause-front c).After-position)).front

pub returns-in-None-clause-back : goal.returns-in-None-clause-back
returns-in-None-clause-back c =
    (uncut c.args.sign c.args.text.now (sym c.in-None.is ∙ position_is (goal.at.returns-in-None-clause-back c).After-position)).back
