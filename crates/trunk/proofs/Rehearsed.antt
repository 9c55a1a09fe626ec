-- The run of sixteen calls, computed, and the law of it.
use Rattle.std.proofs.Common.{◌≡◌, ◌<◌, ◌≤◌, true, false, [], ◌∷◌, Some, None, Err, refl, subst, inl, inr, lit<, lit≤}
use Rattle.endpoint.specs.declared.refusal.Refusal.TheVariants.{StillOutstanding}
use Rattle.trunk.specs.Acts.{Side, left, right, sent_again, sends, ticks, arrives}
use Rattle.trunk.specs.Law.{Law}
use Rattle.trunk.specs.Refuted.{body_with, said, datagram_with}
use Rattle.trunk.specs.Two.{Sound, run, newly, Proper, history_of}
use Rattle.trunk.specs.Rehearsal.{start_of, depth_of, setting, first_ack, second_ack, sixteen, expected, Answers, SixteenCalls}
use Rattle.trunk.proofs.Theorem.{keep_the_law}

comes_to : history_of setting sixteen ≡ expected
unfolding Rattle.endpoint.specs.Enrols.enrol Rattle.endpoint.specs.Sends.send_within Rattle.endpoint.specs.Ticks.tick_within Rattle.endpoint.specs.Arrives.arrive_within Rattle.arrivals.specs.Meaning.new_book Rattle.arrivals.specs.Meaning.judged Rattle.arrivals.specs.Meaning.judged_at Rattle.arrivals.specs.Meaning.judged_number Rattle.arrivals.specs.Meaning.noted Rattle.arrivals.specs.Meaning.noted_at Rattle.arrivals.specs.Meaning.with_fresh Rattle.arrivals.specs.Meaning.ahead Rattle.arrivals.specs.Meaning.near Rattle.arrivals.specs.Meaning.behind Rattle.arrivals.specs.Meaning.steps_up
comes_to = refl

-- nine entries came later
refused : Answers (run setting (newly setting) sixteen).log 6 (Err StillOutstanding)
unfolding Rattle.endpoint.specs.Enrols.enrol Rattle.endpoint.specs.Sends.send_within Rattle.endpoint.specs.Ticks.tick_within Rattle.endpoint.specs.Arrives.arrive_within Rattle.arrivals.specs.Meaning.new_book Rattle.arrivals.specs.Meaning.judged Rattle.arrivals.specs.Meaning.judged_at Rattle.arrivals.specs.Meaning.judged_number Rattle.arrivals.specs.Meaning.noted Rattle.arrivals.specs.Meaning.noted_at Rattle.arrivals.specs.Meaning.with_fresh Rattle.arrivals.specs.Meaning.ahead Rattle.arrivals.specs.Meaning.near Rattle.arrivals.specs.Meaning.behind Rattle.arrivals.specs.Meaning.steps_up
refused = inr (inr (inr (inr (inr (inr (inr (inr (inr (inl (refl, refl))))))))))

set_up : Sound setting
set_up = record { apart = refl; starts = starts; deep = deep; shallow = shallow }
  where
    starts : (s : Side) → start_of s < 16777216
    starts left = lit< tt
    starts right = lit< tt

    deep : (s : Side) → 1 ≤ depth_of s
    deep left = lit≤ tt
    deep right = lit≤ tt

    shallow : (s : Side) → depth_of s ≤ 4096
    shallow left = lit≤ tt
    shallow right = lit≤ tt

-- each of the four arrivals is of the datagram that its entry names
proper : Proper setting (newly setting) sixteen
unfolding Rattle.endpoint.specs.Enrols.enrol Rattle.endpoint.specs.Sends.send_within Rattle.endpoint.specs.Ticks.tick_within Rattle.endpoint.specs.Arrives.arrive_within Rattle.arrivals.specs.Meaning.new_book Rattle.arrivals.specs.Meaning.judged Rattle.arrivals.specs.Meaning.judged_at Rattle.arrivals.specs.Meaning.judged_number Rattle.arrivals.specs.Meaning.noted Rattle.arrivals.specs.Meaning.noted_at Rattle.arrivals.specs.Meaning.with_fresh Rattle.arrivals.specs.Meaning.ahead Rattle.arrivals.specs.Meaning.near Rattle.arrivals.specs.Meaning.behind Rattle.arrivals.specs.Meaning.steps_up
proper = (
  tt,
  (
    tt,
    (
      tt,
      (
        tt,
        (
          λ e. (ticks 1000 (sent_again (datagram_with 5 0x09)), inl (refl, refl, refl), refl),
          (
            λ e. (sends true 0 (body_with 0x09) (datagram_with 5 0x09), inr (inr (inl (refl, refl, refl))), refl),
            (
              tt,
              (
                λ e. (arrives 2 false [] None (Some second_ack), inr (inl (refl, refl, refl)), refl),
                (
                  λ e. (arrives 3 true (said 0x09 ∷ []) None (Some first_ack), inr (inr (inr (inl (refl, refl, refl)))), refl),
                  (tt, (tt, (tt, (tt, (tt, (tt, (tt, tt))))))),
                ),
              ),
            ),
          ),
        ),
      ),
    ),
  ),
)

pub sixteen_calls : SixteenCalls 4 3000
sixteen_calls = record {
  set_up = set_up;
  proper = proper;
  comes_to = comes_to;
  refused = refused;
  lawful = subst (Law 4 3000) comes_to (keep_the_law setting set_up (λ n. refl) sixteen proper);
}
