-- A run's turns and its ends.
use Rattle.std.proofs.Common.{◌≡◌, ◌<◌, ◌≤◌, ℕ, List, min, length, get_or, take, drop, sym, ap, ◌∙◌, rules, arith}
use Rattle.datagram.specs.Results.{map_ok}
use Rattle.endpoint.specs.Views.{end_says, arrival_says}
use Rattle.bridge.specs.Deliveries.{code, datagrams}
use Rattle.bridge.proofs.DeliveryLaws.{arrived, turned, end, whole, short, as_far}
use Rattle.bridge.proofs.deliveries.run.Goals as goal

pub loop-i-preserved : goal.loop-i-preserved
loop-i-preserved g c =
    let kind = g.B.ArrivalBook in
    let senders = c.args.senders.now in
    let sizes = c.args.sizes.now in
    let ds : List (List ℕ) = datagrams sizes c.args.octets.now in
    let buffer = c.loop-i.answers in
    let rest = c.loop-i.rest.now in
    let i = c.loop-i.i in
    let in-senders : i < length senders = search rules in
    let in-sizes : i < length sizes = search rules in
    let in_buffer : i < length buffer = search rules in
    let fits : get_or sizes i 0 ≤ length rest = search rules in
    let front : c.in-Some.datagram.now ≡ take (get_or sizes i 0) rest = search rules in
    let back : c.in-Some.later.now ≡ drop (get_or sizes i 0) rest = search rules in
    let next = whole sizes ds i rest c.in-Some.datagram.now c.in-Some.later.now c.loop-i.invariant.1 in-sizes fits front back in
    let e = end_says kind.seen c.loop-i.endpoint in
    let e' = end_says kind.seen c.arrive.new.self in
    let did = arrived kind.depth e e' (get_or senders i 0) (length c.loop-i.output) c.neighbour.result c.in-Some.datagram.now (map_ok arrival_says c.arrive.result)
    c.loop-i.output c.arrive.new.output c.neighbour.ensures c.neighbour.array_long c.arrive.ensures in (
      turned kind.depth e e' senders ds c.in-Some.datagram.now buffer i c.code_of.result in-senders next.some in_buffer next.is did.0 (c.code_of.ensures ∙ ap code did.1)
          ∙ c.loop-i.invariant.0,
      next.left,
    )

pub returns-in_default : goal.returns-in_default
returns-in_default g c =
    let kind = g.B.ArrivalBook in
    let senders = c.args.senders.now in
    let sizes = c.args.sizes.now in
    let ds : List (List ℕ) = datagrams sizes c.args.octets.now in
    let buffer = c.loop-i.answers in
    let rest = c.loop-i.rest.now in
    let i = c.loop-i.i in
    let in-senders : i < length senders = search rules in
    let in-sizes : i < length sizes = search rules in
    let in_buffer : i < length buffer = search rules in
    let cut_short : length rest < get_or sizes i 0 = search rules in
    let none = short sizes ds i rest c.loop-i.invariant.1 in-sizes cut_short in
    record {
      counts = omega (arith, none, in-senders, in_buffer, c.loop-i.auto.answers);
      writes = sym (end kind.depth (end_says kind.seen c.loop-i.endpoint) senders ds buffer i (omega (arith, none))) ∙ c.loop-i.invariant.0;
    }

pub returns : goal.returns
returns g c =
    let kind = g.B.ArrivalBook in
    let senders = c.args.senders.now in
    let sizes = c.args.sizes.now in
    let ds : List (List ℕ) = datagrams sizes c.args.octets.now in
    let buffer = c.loop-i.answers in
    let i = c.loop-i.i in
    let count : c.min-count.result ≡ min (min (length senders) (length sizes)) (length buffer) = search rules in
    let ended : i ≡ c.min-count.result = omega (arith, c.loop-i.auto.i-end, c.loop-i-test.false) in
    let far = as_far sizes ds i c.loop-i.rest.now (length senders) (length buffer) c.loop-i.invariant.1 (ended ∙ count) in
    record {
      counts = omega (arith, ended, far, c.loop-i.auto.answers);
      writes = sym (end kind.depth (end_says kind.seen c.loop-i.endpoint) senders ds buffer i (omega (arith, far))) ∙ c.loop-i.invariant.0;
    }
