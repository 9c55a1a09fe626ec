-- A new table is blank at every place.
use Rattle.std.proofs.Common.{None, ap}
use mathlib.Core.Path.{fun_ext}
use Rattle.arrivals.specs.Meaning.{new_book}
use Rattle.arrivals.specs.Tables.{place_seen}
use Rattle.arrivals.proofs.PlaceLaws.{get_d_same}
use Rattle.arrivals.proofs.table.TableArrivalBook.new.Goals as goal

pub returns : goal.returns
unfolding new_book
returns g c = fun_ext (λ q. ap (place_seen g.W.Window.seen) (get_d_same 32 q None))
