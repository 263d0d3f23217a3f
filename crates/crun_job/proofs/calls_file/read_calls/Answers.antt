use Rattle.crun_job.proofs.Common.{map, ap, ◌∙◌, subst, take_all, length-map, unit_of, seen_lines, AreCalls, calls_seen}
use Rattle.crun_job.proofs.Calls.{all_fit}
use Rattle.crun_job.proofs.Lines.{one_more, refused_here}
use Rattle.crun_job.proofs.calls_file.read_calls.Goals as goal

pub returns-in-None-clause-first : goal.returns-in-None-clause-first
returns-in-None-clause-first c =
    let units = map unit_of c.args.linked.now.0 in
    let items = c.deref-line-items.result.now in
    refused_here units items c.loop-line.line-index _ c.loop-line-test.true c.loop-line.calls.items c.loop-line.invariant
    _ (ap seen_lines c.deref-line-items.ensures.value ∙ c.in_ok-lines.ensures)
    (rw c.in-None.is at c.in_ok-call.ensures.none)

pub loop-line-preserved : goal.loop-line-preserved
loop-line-preserved c =
    let units = map unit_of c.args.linked.now.0 in
    let items = c.deref-line-items.result.now in
    one_more units items c.loop-line.line-index _ c.loop-line-test.true c.loop-line.calls.items c.loop-line.invariant
    c.in-Some.call c.push.new.self.items (rw c.in-Some.is at c.in_ok-call.ensures.some) c.in_ok-push-in-Some.ensures.items

pub returns-clause-calls : goal.returns-clause-calls
returns-clause-calls c =
    let units = map unit_of c.args.linked.now.0 in
    let items = c.deref-line-items.result.now in
    subst (λ ls. AreCalls units ls (calls_seen c.loop-line.calls.items))
    (take_all c.loop-line.line-index (seen_lines items) (rw length-map c.loop-line-test.false)
    ∙ ap seen_lines c.deref-line-items.ensures.value ∙ c.in_ok-lines.ensures) c.loop-line.invariant

pub returns-clause-fit : goal.returns-clause-fit
returns-clause-fit c = all_fit (map unit_of c.args.linked.now.0) _ c.loop-line.calls.items c.loop-line.invariant
