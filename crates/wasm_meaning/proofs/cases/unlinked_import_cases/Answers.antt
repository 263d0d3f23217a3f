use Rattle.wasm_meaning.proofs.Common.{◌≡◌, ℕ, ◌+◌, Bool, true, false, List, [], ◌∷◌, if◌then◌else◌, Some, None, codes, Option, sym, refl}
use Rattle.wasm_meaning.proofs.Common.{ap, ◌∙◌, arith, if_found, sig_number_of, bits, FuncType, ValType, I32, I64, ImportKind, ImportFunc}
use Rattle.wasm_meaning.proofs.Common.{ImportGlobal, External, FuncAddress, GlobalAddress, IsFunc, IsGlobal, IsLinked, IsMemory, IsTable}
use Rattle.wasm_meaning.proofs.Common.{LinkedSet, as_func, as_global, func_type, global_type, import_at, module_at, type_at, imports_func}
use Rattle.wasm_meaning.proofs.Common.{imports_memory, imports_one_global, imports_table}
use Rattle.wasm_tree.specs.declared.entries.TypeEntry.{TypeEntry}
use Rattle.wasm_meaning.specs.Samples as sample
use Rattle.wasm_meaning.proofs.cases.unlinked_import_cases.Goals as goal

-- what an import of the module with this number stands for
abbrev meaning : LinkedSet → ℕ → List ℕ → List ℕ → ImportKind → Option External
meaning s p module_name name kind = import_at s p (record { «module» = module_name; field = name; kind = kind; place = 0 })

-- ---- functions, whose types are told apart by numbers

abbrev signature_of : Option FuncType → ℕ
signature_of None = 0
signature_of (Some ty) = sig_number_of ty.params ty.result

abbrev func_number : LinkedSet → Option External → ℕ
func_number s x = signature_of (if_found (if_found x as_func) (func_type s))

abbrev IsOfType : LinkedSet → Option External → Option FuncType → Type 0
IsOfType s x wanted = (f : FuncAddress) × (ty : FuncType) × (x ≡ Some (IsFunc f)) × (wanted ≡ Some ty) × (func_type s f ≡ Some ty)

types_agree : (s : LinkedSet) (x : Option External) (wanted : Option FuncType) → IsOfType s x wanted → func_number s x ≡ signature_of wanted
types_agree s x wanted h = ap (func_number s) h.2 ∙ ap signature_of (h.4 ∙ sym h.3)

-- in a linked set, a function that a module imports alone has the type that is wanted
func_agrees : (s : LinkedSet) → IsLinked s → (p : ℕ) (module_name name : List ℕ) (ty : TypeEntry)
    → module_at s p ≡ Some (imports_func module_name name ty)
    → func_number s (meaning s p module_name name (ImportFunc 0)) ≡ signature_of (type_at s p 0)
func_agrees s linked p module_name name ty is =
    types_agree s (meaning s p module_name name (ImportFunc 0)) (type_at s p 0)
    (linked.imports_resolve p (imports_func module_name name ty) is).0

pub returns-clause-another_result : goal.returns-clause-another_result
returns-clause-another_result c linked =
    let e = func_agrees _ linked 1 (codes "a") (codes "f") (sample.func_type [] (Some I64)) refl in
    absurd (omega (arith, e))

pub returns-clause-a_parameter_more : goal.returns-clause-a_parameter_more
returns-clause-a_parameter_more c linked =
    let e = func_agrees _ linked 1 (codes "a") (codes "f") (sample.func_type (I32 ∷ []) (Some I32)) refl in
    absurd (omega (arith, e))

pub returns-clause-no_such_export : goal.returns-clause-no_such_export
returns-clause-no_such_export c linked =
    let e = func_agrees _ linked 1 (codes "a") (codes "g") (sample.func_type [] (Some I32)) refl in
    absurd (omega (arith, e))

pub returns-clause-no_such_module : goal.returns-clause-no_such_module
returns-clause-no_such_module c linked =
    let e = func_agrees _ linked 1 (codes "c") (codes "f") (sample.func_type [] (Some I32)) refl in
    absurd (omega (arith, e))

pub returns-clause-later_module : goal.returns-clause-later_module
returns-clause-later_module c linked =
    let e = func_agrees _ linked 0 (codes "b") (codes "f") (sample.func_type [] (Some I32)) refl in
    absurd (omega (arith, e))

pub returns-clause-own_export : goal.returns-clause-own_export
returns-clause-own_export c linked =
    let e = types_agree (sample.alone sample.imports_its_own) None (Some (record { params = []; result = Some I32 }))
    (linked.imports_resolve 0 sample.imports_its_own refl).0 in
    absurd (omega (arith, e))

pub returns-clause-host_function_of_another_type : goal.returns-clause-host_function_of_another_type
returns-clause-host_function_of_another_type c linked =
    let e = func_agrees _ linked 0 (codes "env") (codes "tick") (sample.func_type [] (Some I32)) refl in
    absurd (omega (arith, e))

pub returns-clause-no_such_function_of_the_host : goal.returns-clause-no_such_function_of_the_host
returns-clause-no_such_function_of_the_host c linked =
    let e = func_agrees _ linked 0 (codes "env") (codes "tock") (sample.func_type [] (Some I64)) refl in
    absurd (omega (arith, e))

pub returns-clause-global_for_a_function : goal.returns-clause-global_for_a_function
returns-clause-global_for_a_function c linked =
    let e = func_agrees _ linked 1 (codes "a") (codes "g") (sample.func_type [] (Some I32)) refl in
    absurd (omega (arith, e))

-- ---- globals

abbrev type_number : Option (ValType × Bool) → ℕ
type_number None = 0
type_number (Some g) = bits g.0 + (if g.1 then 1 else 0)

abbrev global_number : LinkedSet → Option External → ℕ
global_number s x = type_number (if_found (if_found x as_global) (global_type s))

abbrev IsOfGlobal : LinkedSet → Option External → ValType → Bool → Type 0
IsOfGlobal s x ty mutable = (g : GlobalAddress) × (x ≡ Some (IsGlobal g)) × (global_type s g ≡ Some (ty, mutable))

global_agrees : (s : LinkedSet) → IsLinked s → (name : List ℕ) (ty : ValType) (mutable : Bool)
    → module_at s 1 ≡ Some (imports_one_global name ty mutable)
    → global_number s (meaning s 1 (codes "a") name (ImportGlobal ty mutable)) ≡ type_number (Some (ty, mutable))
global_agrees s linked name ty mutable is =
    let h : IsOfGlobal s (meaning s 1 (codes "a") name (ImportGlobal ty mutable)) ty mutable =
    (linked.imports_resolve 1 (imports_one_global name ty mutable) is).0 in
    ap (global_number s) h.1 ∙ ap type_number h.2

pub returns-clause-global_of_another_type : goal.returns-clause-global_of_another_type
returns-clause-global_of_another_type c linked = let e = global_agrees _ linked (codes "g") I64 true refl in absurd (omega (arith, e))

pub returns-clause-global_that_changes : goal.returns-clause-global_that_changes
returns-clause-global_that_changes c linked = let e = global_agrees _ linked (codes "g") I32 false refl in absurd (omega (arith, e))

pub returns-clause-function_for_a_global : goal.returns-clause-function_for_a_global
returns-clause-function_for_a_global c linked = let e = global_agrees _ linked (codes "inc") I32 true refl in absurd (omega (arith, e))

-- ---- tables and memories, which have no types

abbrev kind_of : Option External → ℕ
kind_of None = 0
kind_of (Some (IsFunc f)) = 1
kind_of (Some (IsTable owner)) = 2
kind_of (Some (IsMemory owner)) = 3
kind_of (Some (IsGlobal g)) = 4

pub returns-clause-table_for_a_memory : goal.returns-clause-table_for_a_memory
returns-clause-table_for_a_memory c linked =
    let e = ap kind_of (linked.imports_resolve 1 (imports_memory (codes "t") 0) refl).0.1 in
    absurd (omega (arith, e))

pub returns-clause-no_such_table : goal.returns-clause-no_such_table
returns-clause-no_such_table c linked =
    let e = ap kind_of (linked.imports_resolve 1 (imports_table 0 None) refl).0.1 in
    absurd (omega (arith, e))
