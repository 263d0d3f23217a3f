-- An access is of at most eight bytes.
use Rattle.c_helpers.proofs.Common.{◌≤◌, arith, load_access, store_access, LoadOp, StoreOp}
use Rattle.wasm_tree.specs.declared.operators.LoadOp.TheVariants as load
use Rattle.wasm_tree.specs.declared.operators.StoreOp.TheVariants as store

pub load_short : (op : LoadOp) → (load_access op).width ≤ 8
load_short load.I32Load = omega arith
load_short _ = omega arith

pub store_short : (op : StoreOp) → (store_access op).width ≤ 8
store_short store.I32Store = omega arith
store_short _ = omega arith
