-- The first variables of an init function and of its parts, and the calls that begin them.
use Rattle.w2c_base.specs.declared.value.Value.TheVariants.{I64}
use Rattle.wasm_tree.specs.declared.tree.Module.{Module}
use Rattle.c_tree.specs.Tree as c
use Rattle.c_meaning.specs.State as state
use Rattle.c_init.specs.Init.{own_func, own_locals}
use Rattle.init_meaning.proofs.Common.{◌≡◌, ℕ, Bool, true, false, ◌||◌, List, [], ◌∷◌, ◌++◌, if◌then◌else◌, Some, None, Option, option_map}
use Rattle.init_meaning.proofs.Common.{sym, refl, ap, ◌∙◌, same_Some, list_any, named, Void, Program, Pending, Going, go_on, Next, Step}
use Rattle.init_meaning.proofs.Common.{Stops, begin, locals_of, global_name, pointer_name, called, Defines, byte_name, has_bytes, local_if}
use Rattle.init_meaning.proofs.Common.{size_name, tests_bounds, tests_limits}
use Rattle.init_meaning.proofs.InitTests.{HasLocals, IsWide}

abbrev vars_of : Bool → Bool → state.Vars
vars_of sizes bytes =
    (if sizes then (size_name, state.Number (I64 0)) ∷ [] else []) ++ (if bytes then (byte_name, state.Number (I64 0)) ∷ [] else [])

-- what these variables are, and what they hide
facts : (sizes bytes : Bool) → (locals_of (local_if sizes size_name ++ local_if bytes byte_name) ≡ Some (vars_of sizes bytes))
    × (sizes ≡ true → IsWide size_name (vars_of sizes bytes)) × (bytes ≡ true → IsWide byte_name (vars_of sizes bytes))
    × ((k : ℕ) → named (global_name k) (vars_of sizes bytes) ≡ None)
    × ((object : state.Name) → named (pointer_name object) (vars_of sizes bytes) ≡ None)
facts true true = (refl, λ e. refl, λ e. refl, λ k. refl, λ object. refl)
facts true false = (refl, λ e. refl, λ e. absurd cc, λ k. refl, λ object. refl)
facts false true = (refl, λ e. absurd cc, λ e. refl, λ k. refl, λ object. refl)
facts false false = (refl, λ e. absurd cc, λ e. absurd cc, λ k. refl, λ object. refl)

abbrev pub init_vars : Module → state.Vars
init_vars m = vars_of (tests_limits m || tests_bounds m) (list_any has_bytes m.segments)

pub init_locals : (m : Module) → HasLocals m (init_vars m)
init_locals m =
    let f = facts (tests_limits m || tests_bounds m) (list_any has_bytes m.segments) in
    record { size = f.1; byte = f.2; globals_seen = f.3; pointers_seen = f.4 }

-- ---- the call

abbrev own_body : Module → List c.Stmt → c.Body
own_body m stmts = record { locals = own_locals m; stmts = stmts }

-- the function with these statements has begun
abbrev pub begun_at : ℕ → ℕ → List c.Stmt → Module → state.Machine → List state.Frame → state.State
begun_at u item stmts m mach below = record {
  machine = mach;
  running = record { unit = u; item = item; result = Void; stmts = stmts; rest = stmts; vars = init_vars m };
  below = below;
}

pub begins : (p : Program) (u : ℕ) (static : Bool) (name : state.Name) (m : Module) (stmts : List c.Stmt) (mach : state.Machine)
    (pending : Pending) (below : List state.Frame) (d : Defines p u (own_func static name m stmts))
    → called p pending (state.UnitFunc u name) mach [] below ≡ Going pending (begun_at u d.item stmts m mach below)
begins p u static name m stmts mach pending below d =
    ap (λ found. go_on p pending (begin found u mach [] below))
    (d.defined ∙ ap (λ body. Some (record { item = d.item; func = own_func static name m stmts; body = body })) (sym body_is))
    ∙ ap (λ (vars : Option state.Vars). go_on p pending (begun (option_map (λ (locals : state.Vars). [] ++ locals) vars)))
    (facts (tests_limits m || tests_bounds m) (list_any has_bytes m.segments)).0
  where
    body_is : own_body m stmts ≡ d.body
    body_is = same_Some (own_body m stmts) d.body d.has_body

    begun : Option state.Vars → Step
    begun vars = elim vars [
      | None ↦ Stops mach state.Stuck
      | Some vars ↦ Next (record {
        machine = mach;
        running = record { unit = u; item = d.item; result = Void; stmts = stmts; rest = stmts; vars = vars };
        below = below;
      })
    ]
