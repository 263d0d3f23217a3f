-- Labels, parameters and locals, definitions and types under a renaming.
use Rattle.c_renaming.proofs.Common.{◌≡◌, ℕ, ◌-◌, ◌&&◌, List, [], ◌∷◌, ◌++◌, map, Some, None, Option, option_map, sym, refl, ap, ◌∙◌}
use Rattle.c_renaming.proofs.Common.{length-map, map-append, if_found, Value, func_type_of, Num, Definition, initial_of, of_type, zero_of}
use Rattle.c_renaming.proofs.Common.{CValue, FuncPointer, Name, Number, Pointer, Running, Vars, after_label, are_of_types, bind, first_vars}
use Rattle.c_renaming.proofs.Common.{label_of, locals_of, numbers, param_names, param_types, place_of, Each, Holds, KeptStmt, KeptValue}
use Rattle.c_renaming.proofs.Common.{KeptVars, KeepsNames, Renaming, place, arith}
use Rattle.c_tree.specs.declared.tree.CType.{CType}
use Rattle.c_tree.specs.declared.tree.CType.TheVariants as type
use Rattle.c_tree.specs.declared.tree.Num.TheVariants.{N32, N64, Plain}
use Rattle.c_tree.specs.Tree as tree
use Rattle.c_renaming.specs.Renamed as renamed

pub place-running : (ρ : Renaming) (r : Running) (rest : List tree.Stmt)
    → place_of (renamed.running ρ r) (map (renamed.stmt ρ r.unit) rest) ≡ place ρ (place_of r rest)
place-running ρ r rest = λ i. record {
  unit = ρ.unit r.unit;
  item = ρ.item r.unit r.item;
  statement = length-map r.stmts (renamed.stmt ρ r.unit) i - length-map rest (renamed.stmt ρ r.unit) i;
}

-- ---- types of values

pub of_type-value : (ρ : Renaming) (ty : CType) (v : CValue) → of_type ty (renamed.value ρ v) ≡ of_type ty v
of_type-value ρ ty (Number v) = refl
of_type-value ρ ty (Pointer to) = grind arith
of_type-value ρ ty (FuncPointer to) = grind arith

are_of_types-values : (ρ : Renaming) (types : List CType) (args : List CValue)
    → are_of_types types (map (renamed.value ρ) args) ≡ are_of_types types args
are_of_types-values ρ [] [] = refl
are_of_types-values ρ [] (v ∷ args) = refl
are_of_types-values ρ (ty ∷ types) [] = refl
are_of_types-values ρ (ty ∷ types) (v ∷ args) = λ i. of_type-value ρ ty v i && are_of_types-values ρ types args i

-- ---- labels

module _ (ρ : Renaming) (names : KeepsNames ρ) (u : ℕ) where
  pub after_label-stmts : (name : Name) (stmts : List tree.Stmt)
      → after_label (ρ.label u name) (map (renamed.stmt ρ u) stmts) ≡ option_map (map (renamed.stmt ρ u)) (after_label name stmts)
  after_label-stmts name [] = refl
  after_label-stmts name (tree.Label x ∷ stmts) = grind (arith, names.labels u x name, after_label-stmts name stmts)
  after_label-stmts name (_ ∷ stmts) = after_label-stmts name stmts

  pub after_label-kept : (name : Name) (stmts : List tree.Stmt) → Each (KeptStmt ρ u) stmts
      → Holds (Each (KeptStmt ρ u)) (after_label name stmts)
  after_label-kept name [] kept = tt
  after_label-kept name (tree.Label x ∷ stmts) kept = grind (arith, after_label-kept name stmts kept.1)
  after_label-kept name (_ ∷ stmts) kept = after_label-kept name stmts kept.1

  pub label_of-cases : (v : Value) (cases : List tree.Case) (default : Name)
      → label_of v (map (renamed.case ρ u) cases) (ρ.label u default) ≡ ρ.label u (label_of v cases default)
  label_of-cases v [] default = refl
  label_of-cases v (c ∷ cases) default = grind (arith, label_of-cases v cases default)

-- ---- parameters and locals

module _ (ρ : Renaming) (u : ℕ) where
  param_names-params : (params : List tree.Param) → param_names (map (renamed.param ρ u) params) ≡ map (ρ.var u) (param_names params)
  param_names-params [] = refl
  param_names-params ((ty, None) ∷ params) = param_names-params params
  param_names-params ((ty, Some name) ∷ params) = ap (λ l. ρ.var u name ∷ l) (param_names-params params)

  param_types-params : (params : List tree.Param) → param_types (map (renamed.param ρ u) params) ≡ param_types params
  param_types-params [] = refl
  param_types-params ((ty, None) ∷ params) = param_types-params params
  param_types-params ((ty, Some name) ∷ params) = ap (λ l. ty ∷ l) (param_types-params params)

  one_more : (e : Name × CValue) (o : Option Vars)
      → option_map (λ l. renamed.entry ρ u e ∷ l) (option_map (renamed.vars ρ u) o)
      ≡ option_map (renamed.vars ρ u) (option_map (λ l. e ∷ l) o)
  one_more e None = refl
  one_more e (Some l) = refl

  bind-names : (names : List Name) (args : List CValue)
      → bind (map (ρ.var u) names) (map (renamed.value ρ) args) ≡ option_map (renamed.vars ρ u) (bind names args)
  bind-names [] [] = refl
  bind-names (name ∷ names) (v ∷ args) = ap (option_map (λ l. renamed.entry ρ u (name, v) ∷ l)) (bind-names names args)
      ∙ one_more (name, v) (bind names args)
  bind-names [] (v ∷ args) = refl
  bind-names (name ∷ names) [] = refl

  bind-kept : (names : List Name) (args : List CValue) → Each (KeptValue ρ) args → Holds (KeptVars ρ) (bind names args)
  bind-kept [] [] kept = tt
  bind-kept (name ∷ names) (v ∷ args) kept = grind (arith, bind-kept names args kept.1)
  bind-kept [] (v ∷ args) kept = tt
  bind-kept (name ∷ names) [] kept = tt

  -- a first value is no function or object
  abbrev pub IsPlain : CValue → Type 0
  IsPlain v = (renamed.value ρ v ≡ v) × KeptValue ρ v

  pub zero_plain : (ty : CType) → Holds IsPlain (zero_of ty)
  zero_plain type.Void = tt
  zero_plain type.Mem = tt
  zero_plain type.Tab = tt
  zero_plain _ = (refl, tt)

  pub initial_plain : (ty : CType) (number : Num) → Holds IsPlain (initial_of ty number)
  initial_plain type.U32 (N32 n) = (refl, tt)
  initial_plain type.U64 (N64 n) = (refl, tt)
  initial_plain type.U32 (Plain n) = tt
  initial_plain type.U64 (Plain n) = tt
  initial_plain ty (Plain n) = zero_plain ty
  initial_plain _ _ = tt

  with_first : (x : Name) (o : Option CValue) (rest : Option Vars) → Holds IsPlain o
      → if_found o (λ v. option_map (λ l. (ρ.var u x, v) ∷ l) (option_map (renamed.vars ρ u) rest))
      ≡ option_map (renamed.vars ρ u) (if_found o (λ v. option_map (λ l. (x, v) ∷ l) rest))
  with_first x None rest plain = refl
  with_first x (Some v) None plain = refl
  with_first x (Some v) (Some l) plain = ap (λ v. Some ((ρ.var u x, v) ∷ renamed.vars ρ u l)) (sym plain.0)

  locals_of-locals : (locals : List tree.Local)
      → locals_of (map (renamed.local ρ u) locals) ≡ option_map (renamed.vars ρ u) (locals_of locals)
  locals_of-locals [] = refl
  locals_of-locals (l ∷ locals) =
      ap (λ rest. if_found (initial_of l.0 l.2) (λ v. option_map (λ vars. (ρ.var u l.1, v) ∷ vars) rest)) (locals_of-locals locals)
      ∙ with_first l.1 (initial_of l.0 l.2) (locals_of locals) (initial_plain l.0 l.2)

  locals_of-kept : (locals : List tree.Local) → Holds (KeptVars ρ) (locals_of locals)
  locals_of-kept [] = tt
  locals_of-kept (l ∷ locals) = grind (arith, initial_plain l.0 l.2, locals_of-kept locals)

  append-kept : (xs ys : Vars) → KeptVars ρ xs → KeptVars ρ ys → KeptVars ρ (xs ++ ys)
  append-kept [] ys first second = second
  append-kept (x ∷ xs) ys first second = (first.0, append-kept xs ys first.1 second)

  bound_vars : (d : Definition) (args : List CValue)
      → if_found (bind (param_names (map (renamed.param ρ u) d.func.params)) (map (renamed.value ρ) args))
      (λ params. option_map (λ locals. params ++ locals) (locals_of (map (renamed.local ρ u) d.body.locals)))
      ≡ option_map (renamed.vars ρ u)
      (if_found (bind (param_names d.func.params) args)
      (λ params. option_map (λ locals. params ++ locals) (locals_of d.body.locals)))
  bound_vars d args = grind (arith, param_names-params, bind-names, locals_of-locals, map-append)

  pub first_vars-definition : (d : Definition) (args : List CValue)
      → first_vars (renamed.definition ρ u d) (map (renamed.value ρ) args) ≡ option_map (renamed.vars ρ u) (first_vars d args)
  first_vars-definition d args =
      search (arith, param_types-params d.func.params, are_of_types-values ρ (param_types d.func.params) args, bound_vars d args)

  pub first_vars-kept : (d : Definition) (args : List CValue) → Each (KeptValue ρ) args → Holds (KeptVars ρ) (first_vars d args)
  first_vars-kept d args kept = grind (arith, bind-kept (param_names d.func.params) args kept, locals_of-kept d.body.locals, append-kept)

  -- ---- types

  types-params : (params : List tree.Param)
      → map (λ (p : tree.Param). p.0) (map (renamed.param ρ u) params) ≡ map (λ (p : tree.Param). p.0) params
  types-params [] = refl
  types-params (p ∷ params) = ap (λ l. p.0 ∷ l) (types-params params)

  pub func_type_of-func : (f : tree.Func) → func_type_of (renamed.func ρ u f) ≡ func_type_of f
  func_type_of-func f = ap (λ params. record { params = params; result = f.result }) (types-params f.params)

-- the numbers among values
pub numbers-values : (ρ : Renaming) (args : List CValue) → numbers (map (renamed.value ρ) args) ≡ numbers args
numbers-values ρ [] = refl
numbers-values ρ (Number v ∷ args) = ap (option_map (λ others. v ∷ others)) (numbers-values ρ args)
numbers-values ρ (Pointer to ∷ args) = refl
numbers-values ρ (FuncPointer to ∷ args) = refl
