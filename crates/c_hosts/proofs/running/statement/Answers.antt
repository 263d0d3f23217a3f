use Rattle.c_hosts.proofs.Common.{◌≡◌, [], sym, refl, ap, ◌∙◌, append-nil, step_in, step_at, trail_before}
use Rattle.c_hosts.proofs.Replies.{asks_nothing}
use Rattle.c_hosts.proofs.Runs.{behind_none}
use Rattle.c_hosts.proofs.running.statement.Goals as goal

pub returns-in_ok-answer-in-Asks-clause-ran : goal.returns-in_ok-answer-in-Asks-clause-ran
returns-in_ok-answer-in-Asks-clause-ran g c =
    let ran = c.in_ok-answer-in-Asks.ensures.ran in (
      ran.0,
      ran.1,
      λ names p later told thread.
          c.in-Ok.ensures.step names p (trail_before ran.0 later told) thread.units_are thread.types_are thread.stored
          ∙ ap (λ o. step_in names p (trail_before ran.0 later told) o c.step.new.self) c.in-Asks.is
          ∙ ran.2 names p later told thread.units_are thread.hosts_are (c.in-Ok.ensures.stored names thread.stored),
    )

pub returns-in_default : goal.returns-in_default
returns-in_default g c = record {
  ran = (
    [],
    record { written = sym (append-nil c.args.hosts.now.journal); answered = refl },
    λ names p later told thread.
        c.in-Ok.ensures.step names p (trail_before [] later told) thread.units_are thread.types_are thread.stored
        ∙ sym (asks_nothing names p (trail_before [] later told) c.in-Ok.step c.step.new.self c.in_default.not-Asks)
        ∙ sym (c.ending_of.ensures names p (trail_before [] later told) c.step.new.self)
        ∙ ap (λ trail. step_at names p trail c.ending_of.result c.step.new.self) (sym (behind_none later told)),
  );
  wanting = tt;
  stored = c.in-Ok.ensures.stored;
}
