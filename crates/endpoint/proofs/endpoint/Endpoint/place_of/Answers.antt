use Rattle.std.proofs.Common.{◌≡◌, ℕ, ◌<◌, Bool, List, length, Some, None, Option, ◌∙◌, arith, rules}
use Rattle.std.specs.Option.{IfSome}
use Rattle.search.specs.First.{FirstOrNone}
use Rattle.search.specs.Places.{some_under}
use Rattle.endpoint.specs.Views.{holds}
use Rattle.endpoint.proofs.Sites.{found}
use Rattle.endpoint.proofs.endpoint.Endpoint.place_of.Goals as goal

pub returns-clause-first : goal.returns-clause-first
returns-clause-first g c = c.find.ensures.first ∙ found c.args.self.now.places c.args.peer.now

in_table : {X : Type 0} (p : X → Bool) (xs : List X) (o : Option ℕ) (n : ℕ) → FirstOrNone p xs o → length xs ≡ n → IfSome o (λ i. i < n)
in_table p xs None n h l = tt
in_table p xs (Some i) n h l = let low = h.0 in omega arith

pub returns-clause-within : goal.returns-clause-within
returns-clause-within g c = in_table (λ x. some_under holds x c.args.peer.now) c.args.self.now.places c.find.result 32 c.find.ensures.meaning (search rules)
