use Rattle.host_replay.proofs.Common.{◌≡◌, ◌≤◌, List, ◌++◌, length, flat_map, ap, ◌∙◌, subst, take_all, rules, AllByRecursion, Asked}
use Rattle.host_replay.proofs.Common.{modules_of, recorded, entry_text, journal_text, module_text, HasNumbers}
use Rattle.host_replay.proofs.Spelled.{read_back}
use Rattle.host_replay.proofs.file.JournalFile.text.Goals as goal

pub returns-clause-read_back : goal.returns-clause-read_back
returns-clause-read_back c = λ distinct.
    let entries = c.args.self.now.entries.items in
    let past : length c.args.self.now.entries.items ≤ c.loop-entry.entry-index = search rules in
    let all = take_all c.loop-entry.entry-index entries past in
    let text : c.loop-entry.text ≡ journal_text (recorded c.args.self.now) =
    c.loop-entry.invariant.text
    ∙ ap (λ (es : List Asked). flat_map module_text (modules_of c.args.self.now.modules.items)
    ++ flat_map (entry_text (modules_of c.args.self.now.modules.items)) es) all in
    read_back (recorded c.args.self.now) c.loop-entry.text text (record {
      names = c.loop-entry.invariant.names;
      distinct = distinct;
      fitting = c.args.self.now.fitting;
      numbers = subst (λ (es : List Asked). AllByRecursion HasNumbers es) all c.loop-entry.invariant.numbers;
    })
