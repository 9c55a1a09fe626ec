-- The table of places in code, as the sites that it stands for.
use Rattle.std.proofs.Common.{◌≡◌, ℕ, ◌+◌, cond, List, [], ◌∷◌, map, get_or, Some, None, Option, refl, ap, ◌∙◌}
use Rattle.std.proofs.Math.ListN.{get_or-map}
use Rattle.search.specs.First.{first_from, first_under}
use Rattle.search.specs.Places.{some_under}
use Rattle.endpoint.specs.declared.peer.Peer.{Peer}
use Rattle.endpoint.specs.declared.place.Neighbour.{Neighbour}
use Rattle.endpoint.specs.Ends.{vacant, holds_peer}
use Rattle.endpoint.specs.Views.{holds, site_says}

-- a place holds a peer if its site does
holds_lem : (place : Option Neighbour) (peer : Peer) → some_under holds place peer ≡ holds_peer peer (site_says place)
holds_lem None peer = refl
holds_lem (Some n) peer = refl

found_from : (places : List (Option Neighbour)) (peer : Peer) (i : ℕ)
    → first_from (λ place. some_under holds place peer) i places ≡ first_from (holds_peer peer) i (map site_says places)
found_from [] peer i = refl
found_from (place ∷ places) peer i =
    rw (holds_lem place peer) (ap (cond (holds_peer peer (site_says place)) (Some i)) (found_from places peer (i + 1)))

pub found : (places : List (Option Neighbour)) (peer : Peer) → first_under (λ place. some_under holds place peer) places ≡ first_under (holds_peer peer) (map site_says places)
found places peer = found_from places peer 0

-- the site at a place is what the place says, and past the table both are vacant
pub site_of : (places : List (Option Neighbour)) (p : ℕ) (o : Option Neighbour) → get_or places p None ≡ o → get_or (map site_says places) p vacant ≡ site_says o
site_of places p o e = get_or-map site_says places p None ∙ ap site_says e
