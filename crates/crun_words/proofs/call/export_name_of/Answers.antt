use Rattle.std.proofs.Common.{◌≡◌, false, codes, rules, bytes_eq}
use Rattle.crun_words.proofs.Names.{none_escapes}
use Rattle.crun_words.proofs.call.export_name_of.Goals as goal

pub returns-clause-none : goal.returns-clause-none
returns-clause-none c =
    let differs : bytes_eq c.args.word.now (codes "Z") ≡ false = search rules in
    none_escapes c.in_ok-found.found c.args.word.now differs c.in_ok-found.ensures.none
