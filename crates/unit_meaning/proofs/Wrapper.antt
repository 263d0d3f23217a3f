-- A function that passes a call on: its first statement is the call, and its second gives the value back.
use Rattle.unit_meaning.proofs.Common.{◌≡◌, ℕ, zero, suc, ◌+◌, ◌^◌, ◌<◌, true, false, List, [], ◌∷◌, ◌++◌, map, length, is_some, slice_get}
use Rattle.unit_meaning.proofs.Common.{if◌then◌else◌, Some, None, Option, option_map, bytes_eq, sym, refl, ap, ◌∙◌, subst, arith, same_Some}
use Rattle.unit_meaning.proofs.Common.{decimal_injective, slice_get_within, if_found, named, with_named, is_result, type_of, types_of, I32}
use Rattle.unit_meaning.proofs.Common.{value, FuncType, ValType, Value, I64, proper_types, func_type_of, CType, bytes_differ, bytes_equal}
use Rattle.unit_meaning.proofs.Common.{named-with_named, Definition, Program, c_params_of, c_result_of, c_type_of, definition_at, primitive}
use Rattle.unit_meaning.proofs.Common.{func_named, initial_of, Reaches, Going, Pending, Progress, go_on, CValue, Frame, FuncAddress, Is}
use Rattle.unit_meaning.proofs.Common.{Machine, Number, Running, State, Stuck, UnitFunc, Vars, c_func_type, called, given, args_from}
use Rattle.unit_meaning.proofs.Common.{zero_number, named_params, param_name, params_from, passes_on, result_name, zero_like}
use Rattle.w2c_base.proofs.Numbers.{result_is_typed}
use Rattle.w2c_base.specs.declared.value.ValType.TheVariants as type
use Rattle.c_tree.specs.declared.tree.CType.TheVariants as c_type
use Rattle.c_tree.specs.Tree as tree
use Rattle.c_meaning.specs.State.{Name}
use Rattle.c_meaning.specs.Step as step
use Rattle.c_meaning.proofs.Ways as ways
use Rattle.c_meaning.proofs.Takes.{number_of_its_type, numbers_of_their_types}
use Rattle.c_tree.proofs.TypesInC.{proper_params}
use Rattle.init_meaning.specs.Zeros.{held}
use Rattle.init_meaning.proofs.Held.{put_where_held}
use Rattle.unit_meaning.proofs.Listed.{WrapsOnce}
use Rattle.c_init.proofs.Small.{some_same}

-- ---- parameters

-- the parameters that hold the arguments
abbrev arg_vars : ℕ → List Value → Vars
arg_vars k [] = []
arg_vars k (v ∷ args) = (param_name k, Number v) ∷ arg_vars (suc k) args

bound_from : (k : ℕ) (args : List Value) → step.bind (step.param_names (params_from k (map c_type_of (types_of args)))) (map Number args)
    ≡ Some (arg_vars k args)
bound_from k [] = refl
bound_from k (v ∷ args) = ap (option_map (λ vars. (param_name k, Number v) ∷ vars)) (bound_from (suc k) args)

bound : (args : List Value) → step.bind (step.param_names (named_params (map c_type_of (types_of args)))) (map Number args) ≡ Some
    (arg_vars 0 args)
bound [] = refl
bound (v ∷ args) = bound_from 0 (v ∷ args)

-- and have their types
types_of_params : (k : ℕ) (types : List CType) → step.param_types (params_from k types) ≡ types
types_of_params k [] = refl
types_of_params k (t ∷ types) = ap (λ ts. t ∷ ts) (types_of_params (suc k) types)

types_of_named : (types : List CType) → step.param_types (named_params types) ≡ types
types_of_named [] = refl
types_of_named (t ∷ types) = types_of_params 0 (t ∷ types)

args_fit : (args : List Value)
    → step.are_of_types (step.param_types (named_params (map c_type_of (types_of args)))) (map Number args) ≡ true
args_fit args =
    ap (λ ts. step.are_of_types ts (map Number args)) (types_of_named (map c_type_of (types_of args))) ∙ numbers_of_their_types args

abbrev tail : Name → Name
tail [] = []
tail (b ∷ name) = name

arg_named : (k : ℕ) (args : List Value) (others : Vars) (j : ℕ) (v : Value) → k + length args < 2 ^ 64 → slice_get args j ≡ Some v
    → named (param_name (k + j)) (arg_vars k args ++ others) ≡ Some (Number v)
arg_named k [] others j v few is = absurd (cc)
arg_named k (w ∷ args) others zero v few is =
    let same : w ≡ v = cc in
    let e : k + 0 ≡ k = omega arith in
    ap (λ (i : ℕ). named (param_name i) (arg_vars k (w ∷ args) ++ others)) e
    ∙ rw (bytes_equal (param_name k)) (ap (λ (x : Value). Some (Number x)) same)
arg_named k (w ∷ args) others (suc j) v few is =
    let e : k + suc j ≡ suc k + j = omega arith in
    let few' : suc k + length args < 2 ^ 64 = omega (arith, few) in
    let differ : bytes_eq (param_name k) (param_name (suc k + j)) ≡ false
    = bytes_differ (param_name k) (param_name (suc k + j))
    (λ same. absurd (omega (
      arith,
      decimal_injective k (suc k + j) (omega (arith, few)) (omega (arith, few, slice_get_within args j v is)) (ap tail same),
    ))) in
    ap (λ (i : ℕ). named (param_name i) (arg_vars k (w ∷ args) ++ others)) e ∙ rw differ (arg_named (suc k) args others j v few' is)

-- the arguments of the call
evaluated : (p : Program) (m : Machine) (r : Running) (k : ℕ) (args : List Value)
    → ((j : ℕ) (v : Value) → slice_get args j ≡ Some v → named (param_name (k + j)) r.vars ≡ Some (Number v))
    → step.evaluate_args p m r (args_from k (map c_type_of (types_of args))) ≡ Is (map Number args)
evaluated p m r k [] there = refl
evaluated p m r k (v ∷ args) there =
    let e : k + 0 ≡ k = omega arith in
    let first : named (param_name k) r.vars ≡ Some (Number v) = ap (λ (i : ℕ). named (param_name i) r.vars) (sym e) ∙ there 0 v refl in
    let others = evaluated p m r (suc k) args (λ j w is. let f : suc k + j ≡ k + suc j = omega arith in ap
    (λ (i : ℕ). named (param_name i) r.vars) f ∙ there (suc j) w is) in
    rw (first, others) refl

-- no argument is named as the result's variable
result_named : (k : ℕ) (args : List Value) (v : CValue) → named result_name (arg_vars k args ++ (result_name, v) ∷ []) ≡ Some v
result_named k [] v = refl
result_named k (w ∷ args) v = result_named (suc k) args v

-- ---- the call, and the way back

-- the function, with these statements left
abbrev running_at : ℕ → ℕ → CType → List tree.Stmt → List tree.Stmt → Vars → Running
running_at u item result stmts rest vars = record { unit = u; item = item; result = result; stmts = stmts; rest = rest; vars = vars }

abbrev at_work : Pending → Machine → List Frame → Running → Progress
at_work pending m below r = Going pending (record { machine = m; running = r; below = below })

-- the beginning of the function
begun : (p : Program) (pending : Pending) (item u : ℕ) (f : tree.Func) (body : tree.Body) (args : List Value) (locals : Vars) (m : Machine)
    (below : List Frame) → step.are_of_types (step.param_types f.params) (map Number args) ≡ true
    → step.bind (step.param_names f.params) (map Number args) ≡ Some (arg_vars 0 args) → step.locals_of body.locals ≡ Some locals
    → go_on p pending (step.begin (Some (record { item = item; func = f; body = body })) u m (map Number args) below)
    ≡ at_work pending m below (running_at u item f.result body.stmts body.stmts (arg_vars 0 args ++ locals))
begun p pending item u f body args locals m below fit params is =
    let d : Definition = record { item = item; func = f; body = body } in
    let first : step.first_vars d (map Number args) ≡ Some (arg_vars 0 args ++ locals)
    = ap (λ b. if b
    then if_found (step.bind (step.param_names f.params) (map Number args))
    (λ params. option_map (λ locals. params ++ locals) (step.locals_of body.locals))
    else None) fit
    ∙ ap (λ (ps : Option Vars). if_found ps (λ params. option_map (λ locals. params ++ locals) (step.locals_of body.locals))) params
    ∙ ap (λ (ls : Option Vars). option_map (λ (locals : Vars). arg_vars 0 args ++ locals) ls) is in
    ap (λ (o : Option Vars). go_on p pending (elim o [
      | None ↦ step.Stops m Stuck
      | Some vars ↦ step.next m (running_at u item f.result body.stmts body.stmts vars) below
    ])) first

-- the call of the other function
passed : (p : Program) (pending : Pending) (u item : ℕ) (result : CType) (stmts rest : List tree.Stmt) (target : Option Name) (name : Name)
    (inner : FuncAddress) (args : List Value) (locals : Vars) (m : Machine) (below : List Frame)
    → length args < 2 ^ 64 → primitive name ≡ None → func_named p u name ≡ Some inner → Reaches p 1
    (at_work pending m below (running_at u item result stmts
    (tree.Call target (tree.Called name) (args_from 0 (map c_type_of (types_of args))) ∷ rest) (arg_vars 0 args ++ locals)))
    (called p pending inner m args
    (record { target = target; running = running_at u item result stmts rest (arg_vars 0 args ++ locals) } ∷ below))
passed p pending u item result stmts rest target name inner args locals m below few free is =
    let r : Running = running_at u item result stmts
    (tree.Call target (tree.Called name) (args_from 0 (map c_type_of (types_of args))) ∷ rest) (arg_vars 0 args ++ locals) in
    let values = evaluated p m r 0 args (λ j v at. arg_named 0 args locals j v (omega (arith, few)) at) in
    let s : State = record { machine = m; running = r; below = below } in
    let e : go_on p pending (step.c_step p s) ≡ called p pending inner m args
    (record { target = target; running = step.at_rest r rest } ∷ below) = rw (values, free, is) refl in
    subst (Reaches p 1 (Going pending s)) e (ways.step p pending s)

-- one wrapper, by its result
abbrev WrapperOf : List ValType → Option ValType → Name → Name → tree.Func
WrapperOf params result symbol name = passes_on (record { params = c_params_of params; result = c_result_of result }) symbol (Some name)

-- what such a function's body does
abbrev whole : Option Name → Name → List CType → tree.Stmt → List tree.Stmt
whole target name types last = tree.Call target (tree.Called name) (args_from 0 types) ∷ last ∷ []

-- its frame, while the other function runs
abbrev waiting : ℕ → ℕ → CType → Option Name → Name → tree.Stmt → List Value → Vars → Running
waiting u item result target name last args locals =
    running_at u item result (whole target name (map c_type_of (types_of args)) last) (last ∷ []) (arg_vars 0 args ++ locals)

-- it begins, and calls the other function
calls_other : (p : Program) (pending : Pending) (u item : ℕ) (symbol name : Name) (inner : FuncAddress) (f : tree.Func) (body : tree.Body)
    (target : Option Name) (declared : _) (locals : Vars) (last : tree.Stmt) (args : List Value) (m : Machine) (below : List Frame)
    → f.params ≡ named_params (proper_types (c_params_of (types_of args)))
    → f.body ≡ Some (record { locals = declared; stmts = whole target name (proper_types (c_params_of (types_of args))) last })
    → step.locals_of declared ≡ Some locals → f.body ≡ Some body
    → definition_at p u symbol ≡ Some (record { item = item; func = f; body = body })
    → length args < 2 ^ 64 → primitive name ≡ None → func_named p u name ≡ Some inner
    → Reaches p 1 (called p pending (UnitFunc u symbol) m args below)
    (called p pending inner m args (record { target = target; running = waiting u item f.result target name last args locals } ∷ below))
calls_other p pending u item symbol name inner f body target declared locals last args m below params_are body_is locals_are has_body
    definition few free is =
    let stmts : List CType → List tree.Stmt = λ types. whole target name types last in
    let types : List CType = map c_type_of (types_of args) in
    let made : tree.Body = record { locals = declared; stmts = stmts types } in
    let same : body ≡ made = some_same (sym has_body ∙ body_is
    ∙ ap (λ (ts : List CType). Some (record { locals = declared; stmts = stmts ts })) (proper_params (types_of args))) in
    let params : f.params ≡ named_params types = params_are ∙ ap (λ (ts : List CType). named_params ts) (proper_params (types_of args)) in
    let begins = ap (λ (d : Option Definition). go_on p pending (step.begin d u m (map Number args) below))
    (definition ∙ ap (λ (b : tree.Body). Some (record { item = item; func = f; body = b })) same)
    ∙ begun p pending item u f made args locals m below
    (ap (λ (ps : List tree.Param). step.are_of_types (step.param_types ps) (map Number args)) params ∙ args_fit args)
    (ap (λ (ps : List tree.Param). step.bind (step.param_names ps) (map Number args)) params ∙ bound args) locals_are in
    rw begins (passed p pending u item f.result (stmts types) (last ∷ []) target name inner args locals m below few free is)

wraps_none : (p : Program) (pending : Pending) (u item : ℕ) (symbol name : Name) (inner : FuncAddress) (params : List ValType)
    (args : List Value) (m : Machine) (below : List Frame) (body : tree.Body)
    → (WrapperOf (types_of args) None symbol name).body ≡ Some body
    → definition_at p u symbol ≡ Some (record { item = item; func = WrapperOf (types_of args) None symbol name; body = body })
    → length args < 2 ^ 64 → primitive name ≡ None → func_named p u name ≡ Some inner
    → WrapsOnce p (record { params = params; result = None }) (UnitFunc u symbol) inner pending m args below
wraps_none p pending u item symbol name inner params args m below body has_body definition few free is = record {
  frames = record { target = None; running = running } ∷ [];
  back = 1;
  few = omega arith;
  calls = calls_other p pending u item symbol name inner (WrapperOf (types_of args) None symbol name) body None [] [] tree.ReturnNone args m
      below refl refl refl has_body definition few free is;
  gives = back;
}
  where
    running : Running
    running = waiting u item c_type.Void None name tree.ReturnNone args []

    back : (after : Machine) (value : Option Value) → is_result None value ≡ true
        → Reaches p 1 (given p pending after value (record { target = None; running = running } ∷ below))
        (given p pending after value below)
    back after None typed = ways.step p pending (record { machine = after; running = running; below = below })
    back after (Some v) typed = absurd (cc)

-- with a value, in a variable of the type `rt`
wraps_value : (p : Program) (pending : Pending) (u item : ℕ) (symbol name : Name) (inner : FuncAddress) (params : List ValType)
    (t : ValType) (rt : CType) (zero_value : CValue) (f : tree.Func) (body : tree.Body) (args : List Value) (m : Machine)
    (below : List Frame)
    → initial_of rt (zero_number rt) ≡ Some zero_value → zero_like zero_value ≡ Number (value t 0) → f.result ≡ c_type_of t
    → f.params ≡ named_params (proper_types (c_params_of (types_of args))) → f.body ≡ Some (record {
      locals = (rt, result_name, zero_number rt) ∷ [];
      stmts = whole (Some result_name) name (proper_types (c_params_of (types_of args))) (tree.Return (tree.Value (tree.Name result_name)));
    }) → f.body ≡ Some body → definition_at p u symbol ≡ Some (record { item = item; func = f; body = body })
    → length args < 2 ^ 64 → primitive name ≡ None → func_named p u name ≡ Some inner
    → WrapsOnce p (record { params = params; result = Some t }) (UnitFunc u symbol) inner pending m args below
wraps_value p pending u item symbol name inner params t rt zero_value f body args m below zero_is zero_typed result params_are body_is
    has_body definition few free is = record {
      frames = record { target = Some result_name; running = running } ∷ [];
      back = 1;
      few = omega arith;
      calls = calls_other p pending u item symbol name inner f body (Some result_name) _ locals last args m below params_are body_is
          (ap (λ (o : Option CValue). if_found o (λ v. option_map (λ (vars : Vars). (result_name, v) ∷ vars) (Some []))) zero_is)
          has_body definition few free is;
      gives = back;
    }
  where
    last : tree.Stmt
    last = tree.Return (tree.Value (tree.Name result_name))

    locals : Vars
    locals = (result_name, zero_value) ∷ []

    running : Running
    running = waiting u item f.result (Some result_name) name last args locals

    back : (after : Machine) (value : Option Value) → is_result (Some t) value ≡ true
        → Reaches p 1 (given p pending after value (record { target = Some result_name; running = running } ∷ below))
        (given p pending after value below)
    back after None typed = absurd (cc)
    back after (Some v) typed =
        let vars : Vars = arg_vars 0 args ++ locals in
        let there : named result_name vars ≡ Some zero_value = result_named 0 args zero_value in
        let is_there : is_some (named result_name vars) ≡ true = ap is_some there in
        let type_is : t ≡ type_of v = same_Some t (type_of v) (result_is_typed (Some t) v typed) in
        let of_type_there : held result_name vars ≡ Some (zero_like (Number v)) =
        ap (option_map zero_like) there ∙ (ap Some zero_typed ∙ ap (λ u. Some (Number (value u 0))) type_is) in
        let may_return : step.is_returned f.result (Some (Number v)) ≡ true =
        ap (λ r. step.is_returned r (Some (Number v))) (result ∙ ap c_type_of type_is) ∙ number_of_its_type v in
        let new : Vars = with_named result_name (Number v) vars in
        let s : State = record { machine = after; running = step.with_vars running new; below = below } in
        let given_is : given p pending after (Some v) (record { target = Some result_name; running = running } ∷ below) ≡ Going pending s =
        rw is_there (ap (go_on p pending) (put_where_held after (named result_name vars) (Number v) (step.Next s) of_type_there)) in
        let now : named result_name new ≡ Some (Number v) = named-with_named result_name (Number v) vars is_there in
        let e : go_on p pending (step.c_step p s) ≡ given p pending after (Some v) below = rw (now, may_return) refl in
        rw given_is (subst (Reaches p 1 (Going pending s)) e (ways.step p pending s))

-- whatever the result
pub wraps : (p : Program) (pending : Pending) (u item : ℕ) (symbol name : Name) (inner : FuncAddress) (ty : FuncType) (args : List Value)
    (m : Machine) (below : List Frame) (body : tree.Body)
    → types_of args ≡ ty.params → (passes_on (c_func_type ty) symbol (Some name)).body ≡ Some body
    → definition_at p u symbol ≡ Some (record { item = item; func = passes_on (c_func_type ty) symbol (Some name); body = body })
    → length args < 2 ^ 64 → primitive name ≡ None → func_named p u name ≡ Some inner
    → WrapsOnce p ty (UnitFunc u symbol) inner pending m args below
wraps p pending u item symbol name inner ty args m below body fit has_body definition few free is =
    go ty.result (rw fit has_body) (rw fit definition)
  where
    go : (result : Option ValType) → (WrapperOf (types_of args) result symbol name).body ≡ Some body
        → definition_at p u symbol ≡ Some (record { item = item; func = WrapperOf (types_of args) result symbol name; body = body })
        → WrapsOnce p (record { params = ty.params; result = result }) (UnitFunc u symbol) inner pending m args below
    go None has_body definition = wraps_none p pending u item symbol name inner ty.params args m below body has_body definition few free is
    go (Some type.I32) has_body definition =
        wraps_value p pending u item symbol name inner ty.params type.I32 c_type.U32 (Number (I32 0))
        (WrapperOf (types_of args) (Some type.I32) symbol name) body args m below refl refl refl refl refl has_body definition few free is
    go (Some type.I64) has_body definition =
        wraps_value p pending u item symbol name inner ty.params type.I64 c_type.U64 (Number (I64 0))
        (WrapperOf (types_of args) (Some type.I64) symbol name) body args m below refl refl refl refl refl has_body definition few free is

-- ---- types

abbrev param_type : tree.Param → CType
param_type p = p.0

types_from : (k : ℕ) (types : List CType) → map param_type (params_from k types) ≡ types
types_from k [] = refl
types_from k (t ∷ types) = ap (λ ts. t ∷ ts) (types_from (suc k) types)

named_types : (types : List ValType) → map param_type (named_params (proper_types (c_params_of types))) ≡ c_params_of types
named_types [] = refl
named_types (type.I32 ∷ types) = types_from 0 (map c_type_of (type.I32 ∷ types))
named_types (type.I64 ∷ types) = types_from 0 (map c_type_of (type.I64 ∷ types))

pub wrapper_type : (ty : FuncType) (symbol : Name) (name : Option Name)
    → func_type_of (passes_on (c_func_type ty) symbol name) ≡ c_func_type ty
wrapper_type ty symbol name = go ty.result
  where
    go : (result : Option ValType) → func_type_of (passes_on
        (record { params = c_params_of ty.params; result = c_result_of result }) symbol name)
        ≡ record { params = c_params_of ty.params; result = c_result_of result }
    go None = ap (λ (ts : List CType). record { params = ts; result = c_type.Void }) (named_types ty.params)
    go (Some type.I32) = ap (λ (ts : List CType). record { params = ts; result = c_type.U32 }) (named_types ty.params)
    go (Some type.I64) = ap (λ (ts : List CType). record { params = ts; result = c_type.U64 }) (named_types ty.params)
