-- Code inside an instruction is smaller than the list in which the instruction stands.
use Rattle.std.specs.Prelude.{◌≤◌, max, List, [], ◌∷◌, Some, None}
use Rattle.std.proofs.Common.{arith}
use denote.Param.Weighed.{most}
use Rattle.wasm_tree.specs.declared.code.Instr.{Instr}
use Rattle.wasm_tree.specs.declared.operators.Kind.{Kind}
use Rattle.wasm_tree.specs.declared.operators.Kind.TheVariants as kind
use Rattle.wasm_tree.specs.declared.code.Code.TheDeep.{deep-Instr, deep-Kind}
use Rattle.wasm_tree.specs.Size.{code_size, kind_size}
use Rattle.wasm_tree.specs.Views.{code_tree, kind_tree}

kind_falls : (k : Kind) → deep-Kind k ≤ kind_size (kind_tree k)
kind_falls (kind.Block r c e) = omega arith
kind_falls (kind.Loop r c e) = omega arith
kind_falls (kind.If r c None e) = omega arith
kind_falls (kind.If r c (Some o) e) = omega arith
kind_falls _ = omega arith

pub falls : (is : List Instr) → max (most deep-Instr is) 0 ≤ code_size (code_tree is)
falls [] = omega arith
falls (i ∷ is) = omega (arith, kind_falls i.kind, falls is)
