use Rattle.std.proofs.Common.{◌==◌, refl, rules}
use Rattle.std.proofs.lemmas.Iterator.Consumers.{YieldsList-from_first}
use Rattle.std.proofs.lemmas.Iterator.Search.{any_from_yields_List}
use Rattle.datagram.specs.Views.{ack_says}
use Rattle.datagram.proofs.structure.ack.Ack.names.Goals as goal
use borrow.Author.Tests.{tests}

pub returns : goal.returns
returns c = any_from_yields_List (λ m. m == c.args.number) c.any.new.self _ c.any.result c.any.ensures.ran (YieldsList-from_first (λ x. x) ack_says {s = c.args.self} _ refl) (λ x b q k. search (rules, tests))
