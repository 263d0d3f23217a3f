use Rattle.std.proofs.Common.{◌≡◌, inl, inr, Some, [], ◌∷◌, refl, sym, ap, codes, arith}
use Rattle.std.proofs.lemmas.Fmt.{decimal_digit}
use Rattle.w2c_base.specs.declared.value.Value.TheVariants as value
use Rattle.w2c_base.specs.Lookup.{named}
use Rattle.c_meaning.specs.State as state
use Rattle.w2c_base.specs.declared.value.ValType.TheVariants.{I32}
use Rattle.c_tree.specs.DefinedNames.{global_name}
use Rattle.wasm_meaning.specs.Samples as wasm
use Rattle.alike.specs.Alike.{SameElement}
use Rattle.alike.specs.Samples.{linked, own, static_func, exported_func}
use Rattle.alike.proofs.cases.alike_ends.Goals as goal

static_element : SameElement linked own (record { func = static_func (codes "f0"); signature = 4 })
static_element = record {
  function = inl (record { index = 0; name_is = sym (ap (λ digits. 102 ∷ digits) (decimal_digit 0 (omega arith))); func_is = refl });
  ty = record { params = []; result = Some I32 };
  ty_is = refl;
  signature = refl;
}

exported_element : SameElement linked own (record { func = exported_func; signature = 4 })
exported_element = record {
  function = inr (record {
    exporter = record { name = codes "m"; tree = wasm.two_constants };
    export_name = codes "f";
    exporter_is = refl;
    name_is = refl;
    func_is = refl;
  });
  ty = record { params = []; result = Some I32 };
  ty_is = refl;
  signature = refl;
}

abbrev five : state.CValue
five = state.Number (value.I32 5)

global_is : named (global_name 0) ((codes "g0", five) ∷ []) ≡ Some five
global_is = rw (decimal_digit 0 (omega arith)) refl

pub returns-clause-static_name : goal.returns-clause-static_name
returns-clause-static_name c = record {
  phase = refl;
  outcome = tt;
  values = refl;
  asks = refl;
  objects = (record { memory = refl; table = (static_element, (tt, tt)); globals = λ past. (global_is, tt) }, tt);
}

pub returns-clause-exported_name : goal.returns-clause-exported_name
returns-clause-exported_name c = record {
  phase = refl;
  outcome = refl;
  values = refl;
  asks = refl;
  objects = (record { memory = refl; table = (exported_element, (tt, tt)); globals = λ past. (global_is, tt) }, tt);
}

pub returns-clause-memory_without_bytes : goal.returns-clause-memory_without_bytes
returns-clause-memory_without_bytes c = record {
  phase = refl;
  outcome = tt;
  values = refl;
  asks = refl;
  objects = (record { memory = refl; table = (static_element, (tt, tt)); globals = λ past. (global_is, tt) }, tt);
}
