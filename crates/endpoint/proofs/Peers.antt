-- Which peer a site holds.
use Rattle.std.proofs.Common.{◌≡◌, ℕ, ◌<◌, ◌≤◌, true, false, eqb, List, length, None, refl, ap, ◌∙◌, ⊎_elim}
use Rattle.std.specs.Str.{bytes_eq}
use Rattle.std.proofs.lemmas.Slice.Eq.{bytes_eq-Decides}
use Rattle.std.proofs.lemmas.List.{get_or_past}
use Rattle.std.proofs.lemmas.Bool.{cases_lt, and_parts, and_from, eqb-true, eq-eqb}
use Rattle.search.proofs.FirstLaws.{first_means}
use Rattle.endpoint.specs.declared.peer.Peer.{Peer}
use Rattle.endpoint.specs.Ends.{vacant, End, site_at, same_peer, holds_peer, place_of}

abbrev peer_of_lem : List ℕ → ℕ → Peer
peer_of_lem a n = record { address = a; port = n }

pub same_peer_lem : (a b : Peer) → same_peer a b ≡ true → a ≡ b
same_peer_lem a b h =
    let k = and_parts (bytes_eq a.address b.address) (eqb a.port b.port) h in
    ap (λ x. peer_of_lem x a.port) ((bytes_eq-Decides a.address b.address).0 k.0) ∙ ap (peer_of_lem b.address) (eqb-true a.port b.port k.1)

pub peer_same : (a : Peer) → same_peer a a ≡ true
peer_same a = and_from (bytes_eq a.address a.address) (eqb a.port a.port) ((bytes_eq-Decides a.address a.address).1 refl) (eq-eqb a.port a.port refl)

-- a peer that is at no place is held by no site
pub nowhere : (e : End) (peer : Peer) → place_of e peer ≡ None → (p : ℕ) → holds_peer peer (site_at e p) ≡ false
nowhere e peer h p =
    ⊎_elim
    (λ (within : p < length e.places). first_means (holds_peer peer) e.places None h p vacant within)
    (λ (past : length e.places ≤ p). ap (holds_peer peer) (get_or_past e.places p vacant past))
    (cases_lt p (length e.places))
