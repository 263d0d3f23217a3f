use Rattle.c_init.proofs.Common.{map, sym, ap, ◌∙◌, NamedModule, func_imports, import_symbol}
use Rattle.c_init.proofs.Countable.{few_entries}
use Rattle.c_init.proofs.FewParts.{few_parts}
use Rattle.c_init.proofs.source.Source.new.Goals as goal

pub invariant_of-result-clause-few_entries : goal.invariant_of-result-clause-few_entries
invariant_of-result-clause-few_entries c =
    few_entries c.module-tree.result.now c.module-tree.ensures.valid c.module-tree.ensures.within

pub invariant_of-result-clause-few_parts : goal.invariant_of-result-clause-few_parts
invariant_of-result-clause-few_parts c = few_parts c.module-tree.result.now c.module-tree.ensures.within

pub invariant_of-result-clause-spaces_are : goal.invariant_of-result-clause-spaces_are
invariant_of-result-clause-spaces_are c = c.in_ok-spaces.ensures

pub invariant_of-result-clause-func_symbols_are : goal.invariant_of-result-clause-func_symbols_are
invariant_of-result-clause-func_symbols_are c =
    c.in_ok-func_symbols.ensures
    ∙ ap (λ (m : NamedModule). map import_symbol (func_imports m.tree)) (c.symbols.ensures ∙ c.in_ok-spaces.ensures)

pub invariant_of-result-clause-checked_is : goal.invariant_of-result-clause-checked_is
invariant_of-result-clause-checked_is c = sym c.module-tree.ensures.same
