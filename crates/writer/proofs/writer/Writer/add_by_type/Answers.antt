use Rattle.std.proofs.Common.{rules}
use Rattle.std.proofs.lemmas.List.{length-append}
use Rattle.writer.proofs.writer.Writer.add_by_type.Goals as goal

pub returns-clause-does : goal.returns-clause-does
returns-clause-does c = search (rules, length-append)

pub returns-in_err-ask-clause-does : goal.returns-in_err-ask-clause-does
returns-in_err-ask-clause-does c = search (rules, length-append)
