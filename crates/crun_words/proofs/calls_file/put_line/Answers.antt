use Rattle.crun_words.proofs.Common.{◌≡◌, ◌<◌, length, refl, rules, NumberedLine}
use Rattle.crun_words.proofs.NumberedLines.{pushed, skipped}
use Rattle.crun_words.proofs.calls_file.put_line.Goals as goal

pub returns-then-is_empty : goal.returns-then-is_empty
returns-then-is_empty c =
    let none : length c.args.text.now ≡ 0 = search rules in
    skipped c.args.lines.now.items c.args.number c.args.text.now none

pub returns : goal.returns
returns c =
    let line : NumberedLine = record { number = c.args.number; text = c.args.text } in
    let some : 0 < length c.args.text.now = search rules in
    pushed c.args.lines.now.items c.push.new.self.items line c.args.number c.args.text.now some refl c.in_ok-push.ensures.items
