use Rattle.std.proofs.Common.{true, ◌≡◌, length, refl, inl, rules, arith}
use Rattle.std.proofs.lemmas.Iterator.Consumers.{YieldsList-from_first, count_from_yields_List}
use Rattle.std.proofs.lemmas.Iterator.Search.{all_from_yields_List}
use Rattle.datagram.specs.Views.{payload_says, body_says}
use Rattle.endpoint.specs.Sends.{is_body_size, is_plain}
use Rattle.endpoint.proofs.Bodies.{is_read, left, sizes}
use Rattle.endpoint.proofs.body.check_body.Goals as goal
use Rattle.writer.specs.Values.{every}
use borrow.Author.Tests.{tests}

pub returns-then-not-all-clause-answer : goal.returns-then-not-all-clause-answer
returns-then-not-all-clause-answer c =
    let body = c.args.body.now in
    let ps = body_says c.in_ok-payloads.payloads in
    let sized : is_body_size (length body) ≡ true = search rules in
    let found : c.all.result ≡ every (is_plain body) ps =
    all_from_yields_List (is_plain body) c.all.new.self _ c.all.result c.all.ensures.ran (YieldsList-from_first payload_says body_says {s = c.in_ok-payloads.payloads} _ refl) (λ x b q k. search (rules, tests)) in
    rw (left body ps sized c.in_ok-payloads.ensures, ← found, c.if-not-all.true) refl

pub count-requires-clause-fits : goal.count-requires-clause-fits
count-requires-clause-fits c =
    let body = c.args.body.now in
    let ps = body_says c.in_ok-payloads.payloads in
    let sized : is_body_size (length body) ≡ true = search rules in
    let few = (sizes body ps sized c.in_ok-payloads.ensures).few in
    inl (omega arith)

pub returns-clause-answer : goal.returns-clause-answer
returns-clause-answer c =
    let body = c.args.body.now in
    let ps = body_says c.in_ok-payloads.payloads in
    let sized : is_body_size (length body) ≡ true = search rules in
    let found : c.all.result ≡ every (is_plain body) ps =
    all_from_yields_List (is_plain body) c.all.new.self _ c.all.result c.all.ensures.ran (YieldsList-from_first payload_says body_says {s = c.in_ok-payloads.payloads} _ refl) (λ x b q k. search (rules, tests)) in
    let counted : c.count.result ≡ length ps = count_from_yields_List _ c.count.result c.count.ensures.ran (YieldsList-from_first payload_says body_says {s = c.in_ok-payloads.payloads} _ refl) in
    rw (left body ps sized c.in_ok-payloads.ensures, ← found, c.if-not-all.false, is_read body ps sized c.in_ok-payloads.ensures, counted) refl

pub returns-clause-size : goal.returns-clause-size
returns-clause-size c =
    let body = c.args.body.now in
    let ps = body_says c.in_ok-payloads.payloads in
    let sized : is_body_size (length body) ≡ true = search rules in
    let counted : c.count.result ≡ length ps = count_from_yields_List _ c.count.result c.count.ensures.ran (YieldsList-from_first payload_says body_says {s = c.in_ok-payloads.payloads} _ refl) in
    let z = sizes body ps sized c.in_ok-payloads.ensures in
    rw counted (z.some, z.few, z.least, z.most)
