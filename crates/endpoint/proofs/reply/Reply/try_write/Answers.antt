use Rattle.std.proofs.Common.{◌≡◌, [], Ok, subst, sym, ◌∙◌, arith, rules}
use Rattle.datagram.proofs.Passing.{clash}
use Rattle.writer.specs.Bodies.{settled}
use Rattle.endpoint.specs.Parts.{echoes_say, settling_says, reply_says, Writable, Holding, Adds}
use Rattle.endpoint.proofs.Writing.{open_holds, adds_then, never_refused, reply_writable, reply_wrote}
use Rattle.endpoint.proofs.reply.Reply.try_write.Goals as goal
use Rattle.endpoint.proofs.reply.Reply.try_write.Goals.{After-open, After-add_echoes}

writable : (c : After-open) → Writable (reply_says c.args.self.now)
writable c = reply_writable c.args.number (reply_says c.args.self.now) c.requires.inside c.requires.fits

opened : (c : After-open) → Holding c.args.out.now c.args.number [] c.open.new.self
opened c =
    let w = c.over-writer.result in
    let over : w.buffer.now ≡ c.args.out.now = search rules in
    let o = open_holds w c.open.new.self c.args.number c.open.result (search rules) (search rules) (omega (arith, c.requires.number)) c.open.ensures.does in
    subst (λ b. Holding b c.args.number [] c.open.new.self) over o.1

pub returns-in_err-add_to : goal.returns-in_err-add_to
returns-in_err-add_to c =
    let r = c.args.self.now in
    absurd (never_refused (settled (settling_says r.settling)) (echoes_say r.echoes) c.open.new.self c.add_to.new.writer c.add_to.result _ c.args.out.now c.args.number [] c.add_to.ensures.adds c.in_err-add_to.was
    (opened (goal.at.returns-in_err-add_to c).After-open) (writable (goal.at.returns-in_err-add_to c).After-open))

added : (c : After-add_echoes) → Adds (reply_says c.args.self.now) c.open.new.self c.add_echoes.result c.add_echoes.new.writer
added c =
    let r = c.args.self.now in
    adds_then (settled (settling_says r.settling)) (echoes_say r.echoes) c.open.new.self c.add_to.new.writer c.add_echoes.new.writer c.add_echoes.result
    (subst (λ a. Adds (settled (settling_says r.settling)) c.open.new.self a c.add_to.new.writer) c.in_ok-add_to.was c.add_to.ensures.adds) c.add_echoes.ensures.adds

holding : (c : After-add_echoes) → Holding c.args.out.now c.args.number [] c.open.new.self → Writable (reply_says c.args.self.now) → (c.add_echoes.result ≡ Ok tt) × Holding c.args.out.now c.args.number (reply_says c.args.self.now) c.add_echoes.new.writer
holding c o can = added c c.args.out.now c.args.number [] o can

pub returns-in_err-add_echoes : goal.returns-in_err-add_echoes
returns-in_err-add_echoes c =
    let begun = (goal.at.returns-in_err-add_echoes c).After-open in
    absurd (clash (sym c.in_err-add_echoes.was ∙ (holding (goal.at.returns-in_err-add_echoes c).After-add_echoes (opened begun) (writable begun)).0))

pub returns : goal.returns
returns c =
    let begun = (goal.at.returns c).After-open in
    let h = holding (goal.at.returns c).After-add_echoes (opened begun) (writable begun) in
    let closed = reply_wrote c.args.out.now c.args.number (reply_says c.args.self.now) c.add_echoes.new.writer c.close.new.self c.close.result h.1 c.requires.some c.close.ensures.does in
    search rules
