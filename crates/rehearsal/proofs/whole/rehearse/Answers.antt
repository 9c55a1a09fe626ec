use Rattle.std.proofs.Common.{sym, ap, ◌∙◌, map, vec_items}
use Rattle.trunk.specs.Views.{turn_says, entry_says}
use Rattle.rehearsal.specs.Scripts.{script_says}
use Rattle.rehearsal.specs.Transcript.{transcript}
use Rattle.rehearsal.proofs.whole.rehearse.Goals as goal

pub returns-in-Ok : goal.returns-in-Ok
returns-in-Ok c = record {
  script = script_says c.in_ok-script.script;
  reads = sym c.in_ok-script.ensures;
  reports = map entry_says (vec_items c.in-Ok.log);
  runs = c.in-Ok.ensures;
  says =
      c.in_ok-text-in-Ok.ensures
      ∙ ap (λ ts. transcript (map turn_says ts) (map entry_says c.as_slice.result.now)) c.as_slice-turns.ensures.value
      ∙ ap (λ es. transcript (map turn_says (vec_items c.in_ok-script.script.calls.turns)) (map entry_says es)) c.as_slice.ensures.value;
}
