use Rattle.std.proofs.Common.{refl}
use Rattle.endpoint.specs.Calls as calls
use Rattle.trunk.proofs.party.Party.take.Goals as goal

pub returns-in-Enrol : goal.returns-in-Enrol
returns-in-Enrol g c = rw c.in-Enrol.is (record { call = calls.enrols c.in-Enrol.place c.in-Enrol.time c.in-Enrol.peer c.in-Enrol.role; is = refl; enters = c.enrol.ensures })

pub returns-in_ok-send-in-Send : goal.returns-in_ok-send-in-Send
returns-in_ok-send-in-Send g c = rw c.in-Send.is (record { call = _; is = refl; enters = rw c.deref.ensures.value at c.in_ok-send-in-Send.ensures })

pub returns-in_ok-tick-in-Tick : goal.returns-in_ok-tick-in-Tick
returns-in_ok-tick-in-Tick g c = rw c.in-Tick.is (record { call = calls.ticks c.in-Tick.place c.in-Tick.time c.in-Tick.room; is = refl; enters = c.in_ok-tick-in-Tick.ensures })
