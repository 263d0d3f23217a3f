use Rattle.wasm_valid.proofs.Common.{flat_map-append, flat_map-map}
use Rattle.wasm_valid.proofs.Entered.{entered-append}
use Rattle.wasm_valid.proofs.expressions.enter_expressions.Goals as goal

pub returns : goal.returns
returns c = simp (flat_map-append, flat_map-map, entered-append) (cc)
