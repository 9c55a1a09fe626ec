use Rattle.std.proofs.Common.{ℕ, false, List, [], ◌∷◌, Ok, Err, Result, rules}
use Rattle.datagram.specs.Structures.{ack}
use Rattle.writer.specs.declared.refusal.Refusal.{Refusal}
use Rattle.writer.specs.declared.writer.Writer.{Writer}
use Rattle.writer.specs.Bodies.{under_no_call}
use Rattle.writer.specs.Drafts.{draft_says, item, close_of, Does, size}
use Rattle.writer.specs.Runs.{Run}
use Rattle.writer.proofs.Runs.{run_open, run_add, run_close}
use Rattle.writer_examples.specs.Acknowledgements.{ack_of_one, Acknowledges}
use Rattle.writer_examples.proofs.acknowledgement.acknowledge.Goals as goal

closed : (b : List ℕ) (n of : ℕ) (r : Result ℕ Refusal) (w w' : Writer) → Run b n false (ack_of_one of) w → Does w (close_of (draft_says w)) size r w' → Acknowledges b n of r w'.buffer.now
closed b n of (Ok k) w w' run does = run_close k w w' run does
closed b n of (Err f) w w' run does = tt

pub returns : goal.returns
returns c =
    let w0 = c.over-writer.result in
    let w1 = c.open.new.self in
    let w2 = c.add_ack.new.self in
    let r1 = run_open c.args.number false w0 w1 c.in_ok-open.ensures.does in
    let r2 = run_add (item (under_no_call (ack (c.args.of ∷ [])))) w1 w2 r1 c.in_ok-add_ack.ensures.does in
    let r3 = closed w0.buffer.now c.args.number c.args.of c.close.result w2 c.close.new.self r2 c.close.ensures.does in
    search rules
