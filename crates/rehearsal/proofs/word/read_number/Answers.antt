use Rattle.std.proofs.Common.{rules, tests, ◌≡◌, true, sym, ◌∙◌}
use Rattle.std.proofs.lemmas.Iterator.{YieldsList-from_slice}
use Rattle.std.proofs.lemmas.Iterator.Search.{all_from_yields_List}
use Rattle.std.specs.List.{list_all}
use Rattle.rehearsal.specs.Reading.{is_digit}
use Rattle.rehearsal.proofs.Numbers.{number_read, digits_are_text, text_is}
use Rattle.rehearsal.proofs.word.read_number.Goals as goal
use Rattle.rehearsal.proofs.word.read_number.Goals.{After-all}

all_is : (c : After-all) → c.all.result ≡ list_all is_digit c.args.word.now
all_is c = all_from_yields_List is_digit _ _ _ c.all.ensures.ran (YieldsList-from_slice c.args.word.now (cc)) (λ x b q k. search (rules, tests))

pub returns-in_err-ok : goal.returns-in_err-ok
returns-in_err-ok c =
    let all : list_all is_digit c.args.word.now ≡ true = sym (all_is (goal.at.returns-in_err-ok c).After-all) ∙ c.if-not-all.false in
    absurd (digits_are_text _ _ c.args.word.now c.from_utf8.result all c.from_utf8.ensures.cases (sym c.ok.ensures.value ∙ c.in_err-ok.was))

pub returns : goal.returns
returns c =
    let all : list_all is_digit c.args.word.now ≡ true = sym (all_is (goal.at.returns c).After-all) ∙ c.if-not-all.false in
    let same : c.in_ok-ok.field-0.now ≡ c.args.word.now = text_is _ c.args.word.now c.from_utf8.result _ c.from_utf8.ensures.cases (sym c.ok.ensures.value ∙ c.in_ok-ok.was) in
    c.ok-2.ensures.value ∙ number_read c.args.word.now c.parse.result all (rw same at c.parse.ensures.value.0)
