use Rattle.host_replay.proofs.Common.{◌≡◌, ◌+◌, [], ◌∷◌, ◌++◌, length, sym, ap, ◌∙◌, subst, rules, length-map, texts, IsRefused, Read}
use Rattle.host_replay.proofs.Common.{empty, ended, recorded}
use Rattle.host_replay.proofs.Lines.{ended_any, part_read, refused_part, rest_read, rest_refused, take_all, with_newlines}
use Rattle.host_replay.proofs.read.read_lines.Goals as goal

pub returns-in-Ok-false-clause-line : goal.returns-in-Ok-false-clause-line
returns-in-Ok-false-clause-line c = λ k is.
    let number : c.loop-k.k + 1 ≡ k = cc in
    subst (IsRefused (ended (texts c.args.lines.now ++ c.args.rest.now ∷ []))) number
    (refused_part _ (texts c.args.lines.now) (ended (c.args.rest.now ∷ [])) c.loop-k.k c.part_at.result.now (recorded c.loop-k.reading.file)
    (ended_any (texts c.args.lines.now) c.args.rest.now) c.part_at.ensures c.loop-k.invariant.read
    (c.in-Ok-false.ensures.no c.in-Ok-false.field-0-test))

pub loop-k-preserved : goal.loop-k-preserved
loop-k-preserved c = record {
  known = c.in-Ok-true.ensures.known c.in-Ok-true.field-0-test;
  read = part_read (texts c.args.lines.now) c.loop-k.k c.part_at.result.now (recorded c.loop-k.reading.file) (recorded c.step.new.self.file)
      c.part_at.ensures c.loop-k.invariant.read (c.in-Ok-true.ensures.yes c.in-Ok-true.field-0-test);
}

pub returns-then-not-is_empty-clause-line : goal.returns-then-not-is_empty-clause-line
returns-then-not-is_empty-clause-line c = λ k is.
    let number : length c.args.lines.now + 1 ≡ k = cc in
    let some : length c.args.rest.now ≡ 0 → ⊥ = λ none. search (rules, none) in
    let all : c.loop-k.k ≡ length c.args.lines.now = search rules in
    let count = length-map c.args.lines.now _ in
    let read : Read empty (with_newlines (texts c.args.lines.now)) (recorded c.loop-k.reading.file) =
    subst (λ ls. Read empty (with_newlines ls) (recorded c.loop-k.reading.file))
    (take_all (texts c.args.lines.now) c.loop-k.k (all ∙ sym count)) c.loop-k.invariant.read in
    subst (IsRefused (ended (texts c.args.lines.now ++ c.args.rest.now ∷ []))) (ap (λ n. n + 1) count ∙ number)
    (rest_refused (texts c.args.lines.now) c.args.rest.now (recorded c.loop-k.reading.file) some read c.requires.no_newline)

pub returns-clause-journal : goal.returns-clause-journal
returns-clause-journal c =
    let none : length c.args.rest.now ≡ 0 = search rules in
    let all : c.loop-k.k ≡ length c.args.lines.now = search rules in
    let read : Read empty (with_newlines (texts c.args.lines.now)) (recorded c.loop-k.reading.file) =
    subst (λ ls. Read empty (with_newlines ls) (recorded c.loop-k.reading.file))
    (take_all (texts c.args.lines.now) c.loop-k.k (all ∙ sym (length-map c.args.lines.now _)))
    c.loop-k.invariant.read in
    rest_read (texts c.args.lines.now) c.args.rest.now (recorded c.loop-k.reading.file) none read
