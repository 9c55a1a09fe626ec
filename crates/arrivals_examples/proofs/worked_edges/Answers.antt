-- The edges, computed by the definitions.
use Rattle.std.proofs.Common.{refl}
use Rattle.arrivals.specs.Meaning.{steps_up, ahead, behind, near, new_book, judged_number, judged_at, judged, with_fresh, noted_at, noted}
use Rattle.arrivals_examples.proofs.worked_edges.Goals as goal

pub returns : goal.returns
unfolding steps_up ahead behind near new_book judged_number judged_at judged with_fresh noted_at noted
returns c = record { half = ((refl, refl), (refl, refl)); mask = (refl, refl); list = (refl, refl) }
