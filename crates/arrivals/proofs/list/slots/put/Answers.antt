-- A number goes into the first free slot; that there is one is what the caller shows.
use Rattle.std.proofs.Common.{◌≡◌, length, None, sym, ◌∙◌, arith, rules}
use Rattle.std.proofs.lemmas.Iterator.{YieldsList-from_slice}
use Rattle.std.proofs.lemmas.Iterator.Search.{position_from_yields_List}
use Rattle.search.proofs.FirstLaws.{first_is, first_means}
use Rattle.arrivals.specs.Slots.{is_free}
use Rattle.arrivals.specs.SlotLaws.{full, put_times}
use Rattle.arrivals.proofs.list.slots.put.Goals as goal

pub returns-in-Some : goal.returns-in-Some
returns-in-Some c k =
    let slots = c.args.slots in
    let found = position_from_yields_List is_free _ _ _ c.position.ensures.ran (YieldsList-from_slice slots cc) (λ x b q k. search rules) in
    let at = first_means is_free slots _ (first_is is_free slots ∙ sym found ∙ c.in-Some.is) in
    put_times slots c.in-Some.i c.args.number k at.0 (at.1 None)

pub returns-in_default : goal.returns-in_default
returns-in_default c k =
    let slots = c.args.slots in
    let found = position_from_yields_List is_free _ _ _ c.position.ensures.ran (YieldsList-from_slice slots cc) (λ x b q k. search rules) in
    let long : length slots ≡ 24 = search rules in
    let all = full 0 slots (first_is is_free slots ∙ sym found ∙ c.in_default.is) in
    absurd (omega arith)
