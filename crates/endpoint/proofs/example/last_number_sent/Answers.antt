-- The examples, by computing them.
use Rattle.std.proofs.Common.{refl}
use Rattle.arrivals.specs.Meaning.{judged, judged_at, judged_number, new_book}
use Rattle.endpoint.specs.Arrives.{arrive_within}
use Rattle.endpoint.specs.Enrols.{enrol}
use Rattle.endpoint.specs.Sends.{send_within}
use Rattle.endpoint.specs.Ticks.{tick_within}
use Rattle.endpoint.proofs.example.last_number_sent.Goals as goal

pub returns : goal.returns
unfolding judged judged_at judged_number new_book enrol send_within tick_within arrive_within
returns c = record {
  octets = refl;
  examples = record {
    sends = refl;
    answers = refl;
    wraps = refl;
    one_at_a_time = refl;
    longest_body = refl;
    too_long_body = refl;
    before_the_first = refl;
    first = refl;
    first_octets = refl;
    second = refl;
    second_octets = refl;
    third = refl;
    third_octets = refl;
    before_the_end = refl;
    gives_up = refl;
    arrives = refl;
    replies = refl;
    settles = refl;
    not_yet_silent = refl;
    silent = refl;
    at_rest = refl;
    kept_alive = refl;
    longest_reply = refl;
    too_long_reply = refl;
  };
}
