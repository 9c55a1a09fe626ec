-- What the library's search answers is the first under the key.
use Rattle.std.proofs.Common.{rules, sym, ◌∙◌}
use Rattle.std.proofs.lemmas.Iterator.{YieldsList-from_slice}
use Rattle.std.proofs.lemmas.Iterator.Search.{position_from_yields_List}
use Rattle.search.proofs.FirstLaws.{first_is}
use Rattle.search.proofs.find.Goals as goal

pub returns-clause-first : goal.returns-clause-first
returns-clause-first g c =
    let test = λ (x : g.row.R.Denot). g.R.Keyed.under x c.args.key.now in
    position_from_yields_List test _ _ _ c.position.ensures.ran (YieldsList-from_slice c.args.records.now cc) (λ x b q k. search rules) ∙ sym (first_is test c.args.records.now)
