use Rattle.std.proofs.Common.{flat_map, map, take}
use Rattle.std.specs.Fmt.{HasWritten, IsPlainFormatter}
use Rattle.trunk.specs.Views.{handed_says}
use Rattle.rehearsal.specs.Transcript.{payload_text}
use Rattle.rehearsal.proofs.answer.PayloadTextsDisplay.fmt.Given as goal

abbrev pub invariant-loop-handed : goal.invariant-loop-handed
invariant-loop-handed g l =
    IsPlainFormatter l.initial.f
    → HasWritten g.W.Write.write_str_gives l.initial.f (flat_map payload_text (map handed_says (take l.handed-index l.handed-items))) l.f
