use Rattle.std.proofs.Common.{◌≡◌, ◌++◌, map, vec_items}
use Rattle.endpoint.specs.Parts.{messages_say}
use Rattle.trunk.specs.Acts.{said_by}
use Rattle.trunk.specs.Views.{handed_says}
use Rattle.trunk.proofs.log.hand_out.Given as goal

abbrev pub invariant-loop-payload : goal.invariant-loop-payload
invariant-loop-payload l = map handed_says (vec_items l.all) ++ map said_by (messages_say l.payload-iterator) ≡ map said_by (messages_say l.initial.messages)
