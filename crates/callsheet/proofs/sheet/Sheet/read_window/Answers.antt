use Rattle.std.proofs.Common.{◌≡◌, length, vec_items, string_bytes, sym, ap, ◌∙◌, arith}
use Rattle.capture.specs.Records.{place_of}
use Rattle.callsheet.specs.Windows.{window}
use Rattle.callsheet.proofs.Rests.{read_from, window_leaves}
use Rattle.callsheet.proofs.sheet.Sheet.read_window.Goals as goal

pub overflow_sub-read : goal.overflow_sub-read
overflow_sub-read c =
    let e = read_from c.args.last _ _ _ _ _ _ _ c.clear.ensures.bytes c.as_slice.ensures.value c.in-Ok.ensures in
    let left = window_leaves c.args.last _ _ _ _ e in
    omega (arith, left.fits)

pub returns-in-Ok-clause-reads : goal.returns-in-Ok-clause-reads
returns-in-Ok-clause-reads c =
    let e = read_from c.args.last _ _ _ _ _ _ _ c.clear.ensures.bytes c.as_slice.ensures.value c.in-Ok.ensures in
    let left = window_leaves c.args.last _ _ _ _ e in
    let all : c.len.result ≡ length (vec_items c.args.self.now.unread) = omega arith in
    e ∙ sym (ap (λ l. window (string_bytes c.add_window.new.text) c.in-Ok.more (place_of l c.add_window.new.records.before)) (c.drop-drain.ensures.items ∙ c.drain.ensures.kept ∙ rw all left.rest))
