use Rattle.c_symbols.proofs.Common.{List, map, ap, ◌∙◌, pair_of}
use Rattle.c_symbols.specs.declared.indexes.Symbol.{Symbol}
use Rattle.c_symbols.proofs.Founds.{found_as}
use Rattle.c_symbols.proofs.symbols.Symbols.new.Goals as goal

pub invariant_of-result : goal.invariant_of-result
invariant_of-result c = record {
  exported_are = c.in_ok-exported.ensures;
  imported_are = c.in_ok-imported.ensures;
  found = found_as c.in_ok-types.types _ _ _ _
      (ap (λ (ss : List Symbol). map pair_of ss) c.as_slice.ensures.value ∙ c.in_ok-exported.ensures)
      (ap (λ (ss : List Symbol). map pair_of ss) c.as_slice-2.ensures.value ∙ c.in_ok-imported.ensures) c.in_ok-types.ensures;
}
