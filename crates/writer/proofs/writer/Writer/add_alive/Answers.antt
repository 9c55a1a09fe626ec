use Rattle.std.proofs.Common.{rules}
use Rattle.std.proofs.lemmas.List.{length-append}
use Rattle.writer.proofs.writer.Writer.add_alive.Goals as goal

pub returns-clause-does : goal.returns-clause-does
returns-clause-does c = search (rules, length-append)
