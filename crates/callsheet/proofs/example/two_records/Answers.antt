use Rattle.std.proofs.Common.{[], ◌∷◌, ◌++◌, take, drop, codes, refl, ap, ◌∙◌}
use Rattle.std.specs.Fmt.{digits}
use Rattle.capture.specs.declared.stop.Question.TheVariants.{HoldsRecord}
use Rattle.capture.specs.Records.{Sent, place_of, sent_of}
use Rattle.capture.specs.Stops.{stop}
use Rattle.callsheet.specs.Examples.{two_records_octets}
use Rattle.callsheet.specs.Text.{column_line}
use Rattle.callsheet.proofs.Steps.{lines_step, lines_none, lines_stop}
use Rattle.callsheet.proofs.example.two_records.Goals as goal

abbrev first : Sent
first = sent_of (take 24 (drop 2 two_records_octets))

abbrev second : Sent
second = sent_of (drop 28 two_records_octets)

-- step by step, since the definition would otherwise compute through 999,999 records
pub returns : goal.returns
unfolding digits
returns c = record {
  octets = refl;
  examples = record {
    two_records = ap (λ t. column_line ++ t) (lines_step (place_of two_records_octets 0) (place_of (drop 26 two_records_octets) 1) first refl refl
        ∙ ap (λ t. codes "1 60 10.0.0.7:1720 5 1 1 2\n" ++ t) (lines_step (place_of (drop 26 two_records_octets) 1) (place_of [] 2) second refl refl
        ∙ ap (λ t. codes "2 61 10.0.0.7:1720 fault 21 3\n" ++ t) (lines_none (place_of [] 2) refl)));
    half_a_length = ap (λ t. column_line ++ t) (lines_stop (place_of (0x18 ∷ []) 0) (stop HoldsRecord 1) refl);
    no_octets = ap (λ t. column_line ++ t) (lines_none (place_of [] 0) refl);
  };
}
