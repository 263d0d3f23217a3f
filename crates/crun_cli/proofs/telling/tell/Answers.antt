use Rattle.crun_cli.proofs.Common.{drop, Ok, Err, phase_of, hosts_of, then_writes, asks_lines, outcome_line}
use Rattle.program_words.proofs.Written.{stops_writing}
use Rattle.crun_cli.proofs.telling.tell.Goals as goal

pub tell_journal-requires : goal.tell_journal-requires
tell_journal-requires g c = record { from = c.requires.from }

pub tell_outcome-requires : goal.tell_outcome-requires
tell_outcome-requires g c = record { counted = c.requires.counted }

pub returns-in-Ok-tell_outcome : goal.returns-in-Ok-tell_outcome
returns-in-Ok-tell_outcome g c =
    let s = c.args.session.now in
    then_writes c.in-Ok.field-0 (Ok c.in-Ok-tell_outcome.field-0) _ _ _ _ _ _
    (asks_lines (hosts_of g.H.HostModule s.hosts) (drop c.args.from s.journal)) (outcome_line (phase_of c.args.phase) c.args.outcome)
    c.in-Ok.ensures c.in-Ok-tell_outcome.ensures

pub returns-in-Err-tell_outcome : goal.returns-in-Err-tell_outcome
returns-in-Err-tell_outcome g c =
    let s = c.args.session.now in
    then_writes c.in-Ok.field-0 (Err c.in-Err-tell_outcome.answer) _ _ _ _ _ _
    (asks_lines (hosts_of g.H.HostModule s.hosts) (drop c.args.from s.journal)) (outcome_line (phase_of c.args.phase) c.args.outcome)
    c.in-Ok.ensures c.in-Err-tell_outcome.ensures

pub returns-in-Err : goal.returns-in-Err
returns-in-Err g c =
    let s = c.args.session.now in
    stops_writing c.in-Err.answer _ _ _ _ (asks_lines (hosts_of g.H.HostModule s.hosts) (drop c.args.from s.journal))
    (outcome_line (phase_of c.args.phase) c.args.outcome) c.in-Err.ensures
