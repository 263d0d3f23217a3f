-- The numbers of the init function's expressions fit their types.
use Rattle.unit_rules.proofs.Common.{◌≡◌, ℕ, suc, ◌^◌, ◌<◌, ◌≤◌, List, [], ◌∷◌, length, slice_get, Some, None, Option, refl}
use Rattle.unit_rules.proofs.Common.{arith, AllByRecursion, all_behind, all_front, if_found, code_of, FuncType, TrapKind, func_space, Code}
use Rattle.unit_rules.proofs.Common.{func_type_in, memory_space, table_space, type_in, GlobalGet, I32Const, I64Const, end_code, then_code}
use Rattle.unit_rules.proofs.Common.{NamedModule, IsMaximum, Limits, Module, FitsExpr, constant_expr, max_number, place_expr, signature}
use Rattle.unit_rules.proofs.Common.{IsAccepted, global_fits, pattern_fits, signature_below, accepted_limits, few_params}
use Rattle.c_tree.specs.Tree as tree
use Rattle.w2c_base.specs.declared.trap.TrapKind.TheVariants as trap

pub zero_fits : 0 < 2 ^ 64
zero_fits = omega arith

pub one_fits : 1 < 2 ^ 64
one_fits = omega arith

pub wider : (n : ℕ) → n < 2 ^ 32 → n < 2 ^ 64
wider n less = omega (arith, less)

-- the limits of a table or a memory are numbers of 32 bits
abbrev pub AreLimits : Limits → Type 0
AreLimits l = (l.min < 2 ^ 32) × IsMaximum l.max

pub code_fits : (kind : TrapKind) → code_of kind < 2 ^ 32
code_fits trap.ImportLimits = omega arith
code_fits trap.SegmentOut = omega arith
code_fits _ = omega arith

module _ (m : NamedModule) (a : IsAccepted m) where
  abbrev t : Module
  t = m.tree

  -- ---- expressions, within so many others

  pub constant_fits : (d : ℕ) (code : Code) → FitsExpr (suc d) (constant_expr t code)
  constant_fits d (then_code place (I32Const z) end_code) = pattern_fits 32 z
  constant_fits d (then_code place (I64Const z) end_code) = pattern_fits 64 z
  constant_fits d (then_code place (GlobalGet index) end_code) = global_fits d t index
  constant_fits d _ = omega arith

  pub place_fits : (d : ℕ) (offset : Code) (number : tree.Expr) → FitsExpr (suc (suc d)) number
      → FitsExpr (suc (suc (suc d))) (place_expr t offset number)
  place_fits d offset number fits = (constant_fits d offset, fits)

  pub signature_fits : (func : ℕ) → signature (func_type_in t func) < 2 ^ 64
  signature_fits func = by (slice_get (func_space t) func)
    where
      of_type : (o : Option FuncType) → ((ty : FuncType) → o ≡ Some ty → length ty.params ≤ 60) → signature o < 2 ^ 64
      of_type None h = omega arith
      of_type (Some ty) h = signature_below ty.params ty.result (h ty refl)

      by : (o : Option ℕ) → signature (if_found o (type_in t)) < 2 ^ 64
      by None = omega arith
      by (Some x) = of_type (type_in t x) (few_params t (accepted_limits a) x)

  -- ---- limits

  pub maximum_fits : (o : Option ℕ) → IsMaximum o → max_number o < 2 ^ 64
  maximum_fits None h = omega arith
  maximum_fits (Some n) h = omega (arith, h)

  limits_of : (xs : List Limits) (most : ℕ) → most < 2 ^ 32 → AllByRecursion (λ (l : Limits). l.min ≤ most) xs
      → AllByRecursion (λ (l : Limits). IsMaximum l.max) xs → AllByRecursion AreLimits xs
  limits_of [] most small low high = tt
  limits_of (l ∷ xs) most small low high = ((omega (arith, small, low.0), high.0), limits_of xs most small low.1 high.1)

  pub tables_limits : AllByRecursion AreLimits (table_space t)
  tables_limits = limits_of (table_space t) 1000000 (omega arith) (accepted_limits a).tables
      (all_front (λ (l : Limits). IsMaximum l.max) (table_space t) (memory_space t) (accepted_limits a).maxima)

  pub memories_limits : AllByRecursion AreLimits (memory_space t)
  memories_limits = limits_of (memory_space t) 16384 (omega arith) (accepted_limits a).memories
      (all_behind (λ (l : Limits). IsMaximum l.max) (table_space t) (memory_space t) (accepted_limits a).maxima)
