use Rattle.std.proofs.Common.{[], rules}
use Rattle.std.proofs.Output.{writes_in_calls_nil, has_written_append}
use Rattle.callsheet.proofs.Pieces.{line_more}
use Rattle.callsheet.proofs.lines.write_payloads.Goals as goal

pub loop-payload-init : goal.loop-payload-init
loop-payload-init g c = (tt, tt, λ plain. record { written = []; wrote = record { wrote = writes_in_calls_nil _ _; plain = plain }; all = search rules })

pub loop-payload-preserved : goal.loop-payload-preserved
loop-payload-preserved g c = (
  tt,
  tt,
  λ plain.
      let h = c.loop-payload.invariant.2 plain in
      record {
        written = _;
        wrote = has_written_append _ _ _ _ _ _ h.wrote (c.writeln.ensures.writes h.wrote.plain (search rules));
        all = line_more _ h.written _ _ _ _ _ c.in-Some.ensures.steps (search rules) (search rules) (search rules) h.all;
      },
)
