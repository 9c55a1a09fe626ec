use Rattle.std.proofs.Common.{◌≡◌, [], ◌∷◌, ◌++◌, map, Ok, refl, sym, ap, subst, ◌∙◌}
use Rattle.std.proofs.lemmas.List.{map-append, append_assoc, append-nil}
use Rattle.datagram.specs.Views.{alive_says}
use Rattle.endpoint.specs.Parts.{echo_says, echoes_say, Writable, Adds}
use Rattle.endpoint.proofs.Finding.{so_far}
use Rattle.endpoint.proofs.Writing.{adds_none, adds_then, alive_adds, never_refused}
use Rattle.endpoint.proofs.echoes.add_echoes.Goals as goal
use Rattle.endpoint.proofs.echoes.add_echoes.Goals.{After-add_alive}

pub loop-echo-init : goal.loop-echo-init
loop-echo-init c = (refl, adds_none c.args.writer.now)

-- one more was added, or refused
added : (c : After-add_alive) → Adds (map echo_says (c.loop-echo.yielded ++ c.in-Some.echo ∷ [])) c.args.writer.now c.add_alive.result c.add_alive.new.self
added c =
    let w = c.args.writer.now in
    let one = alive_adds (alive_says c.in-Some.echo) c.loop-echo.writer c.add_alive.new.self c.add_alive.result c.add_alive.ensures.does in
    let all = adds_then (map echo_says c.loop-echo.yielded) (echo_says c.in-Some.echo ∷ []) w c.loop-echo.writer c.add_alive.new.self c.add_alive.result c.loop-echo.invariant.1 one in
    subst (λ cs. Adds cs w c.add_alive.result c.add_alive.new.self) (sym (map-append echo_says c.loop-echo.yielded (c.in-Some.echo ∷ []))) all

pub loop-echo-preserved : goal.loop-echo-preserved
loop-echo-preserved c =
    let all = added (goal.at.loop-echo-preserved c).After-add_alive in (
      c.add_alive.ensures.same ∙ c.loop-echo.invariant.0,
      subst (λ r. Adds (map echo_says (c.loop-echo.yielded ++ c.in-Some.echo ∷ [])) c.args.writer.now r c.add_alive.new.self) c.in_ok-add_alive.was all,
    )

-- those that were added, and those to come, are all
all_came : (c : After-add_alive) → echoes_say c.args.echoes ≡ map echo_says (c.loop-echo.yielded ++ c.in-Some.echo ∷ []) ++ echoes_say c.next.new.self
all_came c =
    let before = so_far echo_says echoes_say c.loop-echo.yielded c.into_iter-echo-iterator.result c.loop-echo.echo-iterator c.loop-echo.yielded_by in
    ap echoes_say (sym c.into_iter-echo-iterator.ensures.into_iter_gives) ∙ before ∙ ap (λ l. map echo_says c.loop-echo.yielded ++ l) c.in-Some.ensures.steps
    ∙ sym (append_assoc (map echo_says c.loop-echo.yielded) (echo_says c.in-Some.echo ∷ []) (echoes_say c.next.new.self))
    ∙ ap (λ l. l ++ echoes_say c.next.new.self) (sym (map-append echo_says c.loop-echo.yielded (c.in-Some.echo ∷ [])))

pub returns-in_err-add_alive : goal.returns-in_err-add_alive
returns-in_err-add_alive c =
    let turn = (goal.at.returns-in_err-add_alive c).After-add_alive in
    let came = map echo_says (c.loop-echo.yielded ++ c.in-Some.echo ∷ []) in
    let w = c.args.writer.now in
    record {
      same = c.add_alive.ensures.same ∙ c.loop-echo.invariant.0;
      adds = λ b n ds h can. absurd (never_refused came (echoes_say c.next.new.self) w c.add_alive.new.self c.add_alive.result _ b n ds (added turn) c.in_err-add_alive.was h (subst (λ l. Writable (ds ++ l)) (all_came turn) can));
    }

pub returns : goal.returns
returns c =
    let before = so_far echo_says echoes_say c.loop-echo.yielded c.into_iter-echo-iterator.result c.loop-echo.echo-iterator c.loop-echo.yielded_by in
    let all = ap echoes_say (sym c.into_iter-echo-iterator.ensures.into_iter_gives) ∙ before ∙ ap (λ l. map echo_says c.loop-echo.yielded ++ l) c.in-None.ensures.steps.0 ∙ append-nil (map echo_says c.loop-echo.yielded) in
    record {
      same = c.loop-echo.invariant.0;
      adds = subst (λ l. Adds l c.args.writer.now (Ok tt) c.loop-echo.writer) (sym all) c.loop-echo.invariant.1;
    }
