use Rattle.std.proofs.Common.{◌≡◌, [], ◌∷◌, Ok, true, None, refl, subst, sym, ◌∙◌, arith, rules}
use Rattle.datagram.specs.Structures.{Content, i_am_alive}
use Rattle.datagram.proofs.Passing.{clash}
use Rattle.writer.specs.Bodies.{under_no_call}
use Rattle.writer.specs.Drafts.{draft_says, item, add_of, Does, done}
use Rattle.writer.specs.Values.{plainly}
use Rattle.endpoint.specs.Parts.{Holding}
use Rattle.endpoint.proofs.Writing.{open_holds, add_holds, close_wrote}
use Rattle.endpoint.proofs.calling.try_write_alive.Goals as goal
use Rattle.endpoint.proofs.calling.try_write_alive.Goals.{After-add_alive}

abbrev call : Content
call = i_am_alive (record { validity = 0; wants_reply = true; cookie = None })

added : (c : After-add_alive) → (c.add_alive.result ≡ Ok tt) × Holding c.args.out.now c.args.number (call ∷ []) c.add_alive.new.self
added c =
    let w = c.over-writer.result in
    let over : w.buffer.now ≡ c.args.out.now = search rules in
    let o = open_holds w c.open.new.self c.args.number c.open.result (search rules) (search rules) (omega (arith, c.requires.number)) c.open.ensures.does in
    let add = subst (λ a. Does c.open.new.self (add_of (draft_says c.open.new.self) (item (under_no_call (i_am_alive (plainly a))))) done c.add_alive.result c.add_alive.new.self) c.call.ensures c.add_alive.ensures.does in
    let a = add_holds call c.open.new.self c.add_alive.new.self c.add_alive.result refl add w.buffer.now c.args.number [] o.1 (record { inside = refl; room = omega arith }) in
    (a.0, subst (λ b. Holding b c.args.number (call ∷ []) c.add_alive.new.self) over a.1)

pub returns-in_err-add_alive : goal.returns-in_err-add_alive
returns-in_err-add_alive c = absurd (clash (sym c.in_err-add_alive.was ∙ (added (goal.at.returns-in_err-add_alive c).After-add_alive).0))

pub returns : goal.returns
returns c =
    let closed = close_wrote c.args.out.now c.args.number (call ∷ []) c.add_alive.new.self c.close.new.self c.close.result (added (goal.at.returns c).After-add_alive).1 (omega arith) c.close.ensures.does in
    search rules
