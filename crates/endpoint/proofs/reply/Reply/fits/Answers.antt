use Rattle.std.proofs.Common.{◌≡◌, ◌+◌, nat_le, arith, refl, ap, sym, ◌∙◌, rules}
use Rattle.std.proofs.lemmas.Iterator.Consumers.{YieldsList-from_first, fold_from_yields_List}
use Rattle.std.specs.List.{fold}
use Rattle.writer.specs.Bodies.{settled}
use Rattle.endpoint.specs.Parts.{octets_in, echo_says, echoes_say, settling_says, reply_says}
use Rattle.endpoint.proofs.Sizes.{octets_append, reply_fits, add_size, sizes_fit}
use Rattle.endpoint.proofs.reply.Reply.fits.Goals as goal
use borrow.Author.Tests.{tests}

pub returns : goal.returns
returns c n =
    let r = c.args.self.now in
    let first = 5 + c.size.result in
    let sum : c.fold-octets.result ≡ fold add_size first (echoes_say r.echoes) =
    fold_from_yields_List _ add_size _ c.fold-octets.result c.fold-octets.ensures.ran (YieldsList-from_first echo_says echoes_say {s = r.echoes} _ refl) (λ a x b q k. search (rules, tests)) in
    let all : first + octets_in (echoes_say r.echoes) ≡ 5 + octets_in (reply_says r) = omega (arith, c.size.ensures, octets_append (settled (settling_says r.settling)) (echoes_say r.echoes)) in
    ap (λ k. nat_le k 1024) sum ∙ sizes_fit (echoes_say r.echoes) first ∙ ap (λ k. nat_le k 1024) all ∙ sym (reply_fits n (reply_says r))
