-- A body that can be read: how many payloads it has, and the questions that are left.
use Rattle.std.proofs.Common.{◌≡◌, ℕ, zero, suc, ◌+◌, ◌*◌, ◌≤◌, true, cond, leb, List, [], ◌∷◌, length, drop, Some, None, Ok, sym, refl, arith, length-drop}
use Rattle.std.proofs.lemmas.Bool.{leb-true, and_parts}
use Rattle.datagram.specs.Bodies.{body_from, body_payloads, read_body}
use Rattle.datagram.specs.Payloads.{Payload, past, payload_at}
use Rattle.datagram.specs.Results.{map_ok}
use Rattle.datagram.proofs.Bodies.{payload_lies}
use Rattle.datagram.proofs.Passing.{passed, bound, mapped_back}
use Rattle.endpoint.specs.declared.refusal.Refusal.TheVariants.{NotOnlyMessages}
use Rattle.endpoint.specs.Sends.{is_plain, is_body_size, body_asks}
use Rattle.endpoint.specs.Steps.{first_no}
use Rattle.writer.specs.Values.{every}

-- a payload has five octets at least
most_from : (n : ℕ) (b : List ℕ) (at : ℕ) (ps : List Payload) → body_from n b at ≡ Ok ps → 5 * length ps ≤ length b
most_from zero b at ps e = let same : ps ≡ [] = cc in rw same (omega arith)
most_from (suc n) [] at ps e = let same : ps ≡ [] = cc in rw same (omega arith)
most_from (suc n) (x ∷ b) at ps e =
    let p = bound (payload_at (x ∷ b) at) (λ p. map_ok (λ ps. p ∷ ps) (body_from n (drop (5 + length p.octets) (x ∷ b)) (past p))) ps e in
    let more = mapped_back (λ ps. p.0 ∷ ps) (body_from n (drop (5 + length p.0.octets) (x ∷ b)) (past p.0)) ps p.2 in
    let later = most_from n (drop (5 + length p.0.octets) (x ∷ b)) (past p.0) more.0 more.1 in
    let size = (payload_lies (x ∷ b) at p.0 p.1).1 in
    let left = length-drop (5 + length p.0.octets) (x ∷ b) in
    rw (sym more.2) (omega arith)

some_in : (b : List ℕ) (ps : List Payload) → 1 ≤ length b → body_payloads b ≡ Ok ps → 1 ≤ length ps
some_in [] ps h e = absurd (omega arith)
some_in (x ∷ b) ps h e =
    let p = bound (payload_at (x ∷ b) 5) (λ p. map_ok (λ ps. p ∷ ps) (body_from (length b) (drop (5 + length p.octets) (x ∷ b)) (past p))) ps e in
    let more = mapped_back (λ ps. p.0 ∷ ps) (body_from (length b) (drop (5 + length p.0.octets) (x ∷ b)) (past p.0)) ps p.2 in
    rw (sym more.2) (omega arith)

module _ (body : List ℕ) (ps : List Payload) (sized : is_body_size (length body) ≡ true) (reads : Ok ps ≡ read_body body) where
  low : 1 ≤ length body
  low = leb-true 1 (length body) (and_parts (leb 1 (length body)) (leb (length body) 507) sized).0

  high : length body ≤ 507
  high = leb-true (length body) 507 (and_parts (leb 1 (length body)) (leb (length body) 507) sized).1

  pub is_read : body_payloads body ≡ Ok ps
  is_read = (passed (leb (5 + length body) 1024) _ (body_payloads body) ps (sym reads)).1

  pub left : first_no (body_asks body) ≡ cond (every (is_plain body) ps) None (Some NotOnlyMessages)
  left = rw (sized, is_read) refl

  pub record Sizes : Type 0 where
    pub some : 1 ≤ length ps
    pub few : length ps ≤ 256
    pub least : 5 ≤ length body
    pub most : length body ≤ 507

  pub sizes : Sizes
  sizes =
      let s = some_in body ps low is_read in
      let m = most_from (length body) body 5 ps is_read in
      record { some = s; few = (let h = high in omega arith); least = omega arith; most = high }
