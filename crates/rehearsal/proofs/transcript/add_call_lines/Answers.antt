use Rattle.std.proofs.Common.{ap, sym, ◌∙◌, ◌++◌, string_bytes, append-nil}
use Rattle.rehearsal.proofs.Pieces.{no_lines_ahead}
use Rattle.rehearsal.proofs.transcript.add_call_lines.Goals as goal

pub returns : goal.returns
returns c =
    sym (append-nil (string_bytes c.loop-i.text))
    ∙ ap (λ t. string_bytes c.loop-i.text ++ t) (sym (no_lines_ahead c.loop-i.i-iterator c.next.new.self c.next.result c.in-None.is c.next.ensures.steps))
    ∙ c.loop-i.invariant
