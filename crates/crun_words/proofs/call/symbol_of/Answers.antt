use Rattle.std.proofs.Common.{◌≡◌, length, rules}
use Rattle.crun_words.proofs.Names.{no_module}
use Rattle.crun_words.proofs.call.symbol_of.Goals as goal

pub returns-then-is_empty-clause-none : goal.returns-then-is_empty-clause-none
returns-then-is_empty-clause-none c = λ symbol is.
    let none : length c.args.module_word.now ≡ 0 = search rules in
    no_module c.args.module_word.now c.args.export_word.now symbol none is
