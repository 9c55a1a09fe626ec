use Rattle.std.proofs.Common.{◌≡◌, ◌==◌, refl, rules}
use Rattle.std.proofs.lemmas.Iterator.Consumers.{YieldsList-from_first}
use Rattle.std.proofs.lemmas.Iterator.Search.{find_from_yields_List}
use Rattle.std.specs.List.{find}
use Rattle.std.specs.Option.{option_map}
use Rattle.datagram.specs.Views.{entry_says, nack_says}
use Rattle.datagram.proofs.structure.nack.Nack.reason_for.Goals as goal
use borrow.Author.Tests.{tests}

pub returns : goal.returns
returns c =
    let found : option_map entry_says c.find.result ≡ find (λ e. e.number == c.args.number) (nack_says c.args.self) =
    find_from_yields_List (λ e. e.number == c.args.number) c.find.new.self _ c.find.result c.find.ensures.ran (YieldsList-from_first entry_says nack_says {s = c.args.self} _ refl) (λ x b q k. search (rules, tests)) in
    rw (← found) (search rules)
