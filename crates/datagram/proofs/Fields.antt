-- A payload that passes its questions is read as the definition says. Assumes nothing.
use Rattle.std.proofs.Common.{◌≡◌, ℕ, ◌+◌, ◌-◌, ◌≤◌, List, length, take, drop, Result, refl, ap, ◌∙◌, arith}
use Rattle.std.proofs.lemmas.Bool.{le-leb}
use Rattle.datagram.specs.declared.fault.Fault.{Fault}
use Rattle.datagram.specs.Layout.{type_field, crv_field, length_field}
use Rattle.datagram.specs.Payloads.{payload_at}
use Rattle.datagram.specs.Results.{map_ok}
use Rattle.datagram.specs.Structures.{Content, content_of}

-- a payload whose data is whole is read as its content r is
pub payload_reads : (d : List ℕ) (at n v : ℕ) (x : List ℕ) (r : Result Content Fault) → 5 ≤ length d → n ≡ length_field d → v ≡ crv_field d → n ≤ length d - 5 → x ≡ take n (drop 5 d) → r ≡ content_of (type_field d) x (at + 5)
    → map_ok (λ c. record { crv = v; offset = at + 5; octets = x; content = c }) r ≡ payload_at d at
payload_reads d at n v x r long is iv fits ix ir =
    let h : 5 + length_field d ≤ length d = omega arith in
    let whole : x ≡ take (length_field d) (drop 5 d) = ix ∙ ap (λ k. take k (drop 5 d)) is in
    rw (le-leb 5 (length d) long, le-leb (5 + length_field d) (length d) h) (rw (← whole, ir, iv) refl)
