use Rattle.std.proofs.Common.{◌≡◌, ℕ, ◌+◌, List, [], ◌∷◌, Option, Some, None, inl, inr, refl, sym, ap, ◌∙◌, subst, codes, zero, suc, arith}
use Rattle.std.proofs.lemmas.Fmt.{decimal_digit}
use Rattle.w2c_base.specs.Lookup.{named}
use Rattle.w2c_base.specs.declared.value.Value.TheVariants.{I32, I64}
use Rattle.w2c_base.specs.Trap.{code_of}
use Rattle.w2c_base.specs.declared.signature.FuncType.{FuncType}
use Rattle.w2c_base.specs.Signature.{sig_number_of}
use Rattle.c_tree.specs.DefinedNames.{func_name, global_name}
use Rattle.wasm_meaning.specs.LinkedSet.{FuncAddress, ModuleFunc, HostFunc}
use Rattle.c_meaning.specs.State as state
use Rattle.alike.proofs.cases.unlike_ends.Goals as goal

-- numbers by which the two sides are told apart
abbrev byte_at : ℕ → List ℕ → ℕ
byte_at k [] = 0
byte_at zero (b ∷ bytes) = b
byte_at (suc k) (b ∷ bytes) = byte_at k bytes

abbrev number_of : Option state.CValue → ℕ
number_of (Some (state.Number (I32 n))) = n
number_of (Some (state.Number (I64 n))) = 100 + n
number_of _ = 0

abbrev index_of : FuncAddress → ℕ
index_of (ModuleFunc owner index) = index
index_of (HostFunc host function) = 100

abbrev signature_of : Option FuncType → ℕ
signature_of None = 0
signature_of (Some ty) = sig_number_of ty.params ty.result

-- the global's variable, under its name written out
held : (v : state.CValue) (w : Option state.CValue) → named (global_name 0) ((codes "g0", v) ∷ []) ≡ w → Some v ≡ w
held v w e =
    let name : global_name 0 ≡ codes "g0" = ap (λ digits. 103 ∷ digits) (decimal_digit 0 (omega arith)) in
    subst (λ (n : state.Name). named n ((codes "g0", v) ∷ []) ≡ w) name e

pub returns-clause-byte : goal.returns-clause-byte
returns-clause-byte c a = let e = ap (byte_at 1) a.objects.0.memory in absurd (omega (arith, e))

pub returns-clause-memory_of_the_unit_alone : goal.returns-clause-memory_of_the_unit_alone
returns-clause-memory_of_the_unit_alone c a = let e = ap (byte_at 0) a.objects.0.memory in absurd (omega (arith, e))

pub returns-clause-memory_of_the_module_alone : goal.returns-clause-memory_of_the_module_alone
returns-clause-memory_of_the_module_alone c a = absurd a.objects.0.memory

pub returns-clause-global : goal.returns-clause-global
returns-clause-global c a = let e = ap number_of (held _ _ (a.objects.0.globals refl).0) in absurd (omega (arith, e))

pub returns-clause-type_of_a_global : goal.returns-clause-type_of_a_global
returns-clause-type_of_a_global c a = let e = ap number_of (held _ _ (a.objects.0.globals refl).0) in absurd (omega (arith, e))

pub returns-clause-function : goal.returns-clause-function
returns-clause-function c a = elim a.objects.0.table.0.function [
  | inl static ↦
      let is : 0 ≡ static.index = ap index_of static.func_is in
      let name = static.name_is ∙ ap func_name (sym is) ∙ ap (λ digits. 102 ∷ digits) (decimal_digit 0 (omega arith)) in
      let e = ap (byte_at 1) name in
      absurd (omega (arith, e))
  | inr exported ↦ let e = ap (byte_at 0) exported.name_is in absurd (omega (arith, e))
]

pub returns-clause-host_function : goal.returns-clause-host_function
returns-clause-host_function c a = let e = ap index_of a.objects.0.table.0.function in absurd (omega (arith, e))

pub returns-clause-signature : goal.returns-clause-signature
returns-clause-signature c a =
    let same = a.objects.0.table.0 in
    let e = same.signature ∙ sym (ap signature_of same.ty_is) in
    absurd (omega (arith, e))

pub returns-clause-kind_of_a_trap : goal.returns-clause-kind_of_a_trap
returns-clause-kind_of_a_trap c a = let e = ap code_of a.outcome in absurd (omega (arith, e))

pub returns-clause-trap_for_an_end : goal.returns-clause-trap_for_an_end
returns-clause-trap_for_an_end c a = absurd a.outcome
