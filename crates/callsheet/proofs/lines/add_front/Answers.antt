use Rattle.std.proofs.Common.{◌++◌, string_bytes}
use Rattle.callsheet.specs.Text.{spaced, sender_text}
use Rattle.callsheet.proofs.Pieces.{further_on_ok}
use Rattle.callsheet.proofs.lines.add_front.Goals as goal

pub returns : goal.returns
returns c =
    let r = c.args.record.now in
    let last = string_bytes c.add_sender.new.text in
    let sender = sender_text r.address r.port in
    further_on_ok c.add_sender.result _ _ last (spaced c.args.number) (spaced r.seconds ++ sender) c.in_ok-add_number.ensures
    (further_on_ok c.add_sender.result _ _ last (spaced r.seconds) sender c.in_ok-add_number-2.ensures c.add_sender.ensures)
