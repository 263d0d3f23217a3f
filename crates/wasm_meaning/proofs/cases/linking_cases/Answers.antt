use Rattle.wasm_meaning.proofs.Common.{◌≡◌, ℕ, zero, suc, ◌+◌, ◌<◌, ◌≤◌, true, false, ◌≢◌, List, [], ◌∷◌, ◌++◌, map, length, get_or, Some}
use Rattle.wasm_meaning.proofs.Common.{None, codes, bytes_eq, sym, refl, ap, ◌∙◌, subst, arith, AllByRecursion, range_with_len, AreDistinct}
use Rattle.wasm_meaning.proofs.Common.{Host, FuncType, I32, I64, HostFunc, IsLinked, LinkedSet, ModuleFunc, NamedModule, Resolves}
use Rattle.wasm_meaning.proofs.Common.{module_at, exports_table, host_ticks, imports_func, imports_memory, imports_table}
use Rattle.std.proofs.lemmas.Slice.Eq.{bytes_eq-Decides}
use Rattle.wasm_tree.specs.declared.tree.Module.{Module}
use Rattle.wasm_meaning.specs.Samples.{behind_another_host, both, empty_modules, names_up_to, env, no_module, hands_on_tick, func_type}
use Rattle.wasm_meaning.specs.Samples.{exports_global, imports_global, exports_memory}
use Rattle.wasm_meaning.proofs.cases.linking_cases.Goals as goal

some_same : (m n : Module) → Some m ≡ Some n → m ≡ n
some_same m n e = cc

differ : (name other : List ℕ) → bytes_eq name other ≡ false → name ≢ other
differ name other f e =
    let t : bytes_eq name other ≡ true = (bytes_eq-Decides name other).1 e in
    let none : false ≡ true = sym f ∙ t in
    absurd (grind arith)

-- ---- one module

abbrev one : List Host → Module → LinkedSet
one hosts m = record { modules = record { name = codes "m"; tree = m } ∷ []; hosts = hosts }

of_one : (hosts : List Host) (m : Module) → AllByRecursion (Resolves (one hosts m) 0) m.imports
    → (p : ℕ) (n : Module) → module_at (one hosts m) p ≡ Some n → AllByRecursion (Resolves (one hosts m) p) n.imports
of_one hosts m all zero n e = subst (λ (n : Module). AllByRecursion (Resolves (one hosts m) 0) n.imports) (some_same m n e) all
of_one hosts m all (suc p) n e = absurd (grind arith)

abbrev ticks : FuncType
ticks = record { params = []; result = Some I64 }

pub returns-clause-host_function : goal.returns-clause-host_function
returns-clause-host_function c = record {
  at_most_16 = omega arith;
  names_differ = ((differ (codes "m") (codes "env") refl, tt), (tt, tt));
  functions_differ = ((tt, tt), tt);
  imports_resolve = of_one (env ∷ []) host_ticks ((HostFunc 0 0, ticks, refl, refl, refl), tt);
}

pub returns-clause-function_of_the_second_host : goal.returns-clause-function_of_the_second_host
returns-clause-function_of_the_second_host c = record {
  at_most_16 = omega arith;
  names_differ = (
    (differ (codes "m") (codes "quiet") refl, (differ (codes "m") (codes "env") refl, tt)),
    ((differ (codes "quiet") (codes "env") refl, tt), (tt, tt)),
  );
  functions_differ = (tt, ((tt, tt), tt));
  imports_resolve = of_one (behind_another_host host_ticks).hosts host_ticks ((HostFunc 1 0, ticks, refl, refl, refl), tt);
}

-- ---- two modules

of_both : (a b : Module) → AllByRecursion (Resolves (both a b) 0) a.imports → AllByRecursion (Resolves (both a b) 1) b.imports
    → (p : ℕ) (n : Module) → module_at (both a b) p ≡ Some n → AllByRecursion (Resolves (both a b) p) n.imports
of_both a b first second zero n e = subst (λ (n : Module). AllByRecursion (Resolves (both a b) 0) n.imports) (some_same a n e) first
of_both a b first second (suc zero) n e = subst (λ (n : Module). AllByRecursion (Resolves (both a b) 1) n.imports) (some_same b n e) second
of_both a b first second (suc (suc p)) n e = absurd (grind arith)

both_linked : (a b : Module) → AllByRecursion (Resolves (both a b) 0) a.imports → AllByRecursion (Resolves (both a b) 1) b.imports
    → IsLinked (both a b)
both_linked a b first second = record {
  at_most_16 = omega arith;
  names_differ = (
    (differ (codes "a") (codes "b") refl, (differ (codes "a") (codes "env") refl, tt)),
    ((differ (codes "b") (codes "env") refl, tt), (tt, tt)),
  );
  functions_differ = ((tt, tt), tt);
  imports_resolve = of_both a b first second;
}

pub returns-clause-host_function_handed_on : goal.returns-clause-host_function_handed_on
returns-clause-host_function_handed_on c = both_linked hands_on_tick (imports_func (codes "a") (codes "t") (func_type [] (Some I64)))
    ((HostFunc 0 0, ticks, refl, refl, refl), tt)
    ((HostFunc 0 0, ticks, refl, refl, refl), tt)

pub returns-clause-functions_and_a_global : goal.returns-clause-functions_and_a_global
returns-clause-functions_and_a_global c = both_linked exports_global (imports_global None) tt (
  (record { owner = 0; number = 0 }, refl, refl),
  (
    (ModuleFunc 0 0, record { params = []; result = Some I32 }, refl, refl, refl),
    ((ModuleFunc 0 1, record { params = []; result = None }, refl, refl, refl), tt),
  ),
)

pub returns-clause-table : goal.returns-clause-table
returns-clause-table c = both_linked (exports_table None) (imports_table 3 (Some 3)) tt ((0, refl), tt)

pub returns-clause-memory : goal.returns-clause-memory
returns-clause-memory c = both_linked exports_memory (imports_memory (codes "m") 1) tt ((0, refl), tt)

-- ---- sixteen modules

-- the names of so many modules from a number on, and behind them a host's
abbrev all_names : ℕ → ℕ → List (List ℕ)
all_names from count =
    map (λ (m : NamedModule). m.name) (empty_modules (map (λ k. k ∷ []) (range_with_len from count)) []).modules
    ++ codes "env" ∷ []

others_differ : (k from count : ℕ) → k < from → AllByRecursion (λ other. (k ∷ []) ≢ other) (all_names from count)
others_differ k from zero less =
    (λ e. let counts : length (k ∷ []) ≡ 3 = ap (λ (name : List ℕ). length name) e in absurd (omega (arith, counts)), tt)
others_differ k from (suc count) less = (
  λ e. let same : k ≡ from = ap (λ (name : List ℕ). get_or name 0 0) e in absurd (omega (arith, same, less)),
  others_differ k (from + 1) count (omega (arith, less)),
)

all_differ : (from count : ℕ) → AreDistinct (all_names from count)
all_differ from zero = (tt, tt)
all_differ from (suc count) = (others_differ from (from + 1) count (omega arith), all_differ (from + 1) count)

is_empty : (names : List (List ℕ)) (hosts : List Host) (p : ℕ) (n : Module) → module_at (empty_modules names hosts) p ≡ Some n
    → no_module ≡ n
is_empty [] hosts p n e = absurd (cc)
is_empty (name ∷ names) hosts zero n e = some_same no_module n e
is_empty (name ∷ names) hosts (suc p) n e = is_empty names hosts p n e

abbrev sixteen : LinkedSet
sixteen = empty_modules (names_up_to 16) (env ∷ [])

at_most : 16 ≤ 16
at_most = omega arith

pub returns-clause-sixteen_modules : goal.returns-clause-sixteen_modules
returns-clause-sixteen_modules c = record {
  at_most_16 = at_most;
  names_differ = all_differ 0 16;
  functions_differ = ((tt, tt), tt);
  imports_resolve = λ p n e. subst (λ (n : Module). AllByRecursion (Resolves sixteen p) n.imports)
      (is_empty (names_up_to 16) (env ∷ []) p n e) tt;
}
