-- A function of linked units that begins.
use Rattle.c_thread.proofs.Common.{◌≡◌, ℕ, Bool, true, false, List, ◌++◌, map, drop, if◌then◌else◌, Some, None, Option, option_map, sym, ap}
use Rattle.c_thread.proofs.Common.{◌∙◌, if_found, CType, Definition, Program, Machine, Name, Running, Stuck, Vars, Waiting, Step, Stops}
use Rattle.c_thread.proofs.Common.{are_of_types, begin, bind, locals_of, next, param_names, param_types, Naming, value_of, Held, defines}
use Rattle.c_thread.proofs.Common.{fitting, bind_all, local_name, local_names, WithLocals, definition_in, names_at, result_at, stmts_at}
use Rattle.c_thread.proofs.Common.{held_vars, items_at}
use Rattle.c_tree.specs.Tree as tree

module _ (names : Naming) (p : Program) (items : List tree.Item) (u i : ℕ) (own : items_at p u ≡ items) (values : List Held)
    (m : Machine) (below : List Waiting) where
  abbrev with_vars : Definition → Option Vars → Step
  with_vars d o = elim o [
    | None ↦ Stops m Stuck
    | Some vars ↦ next m (record {
      unit = u;
      item = d.item;
      result = d.func.result;
      stmts = d.body.stmts;
      rest = d.body.stmts;
      vars = vars;
    }) below
  ]

  abbrev with_params : Definition → Option Vars → Option Vars
  with_params d o = if_found o (λ params. option_map (λ locals. params ++ locals) (locals_of d.body.locals))

  abbrev begun : Option Definition → Step
  begun o = begin o u m (map (value_of names) values) below

  -- the variables of a function whose arguments fit
  abbrev guarded : Definition → Bool → Option Vars
  guarded d b = if b then with_params d (bind (param_names d.func.params) (map (value_of names) values)) else None

  module _ (d : Definition) (is : definition_in items i ≡ Some d) where
    begins_with : (fit : Bool) → are_of_types (param_types d.func.params) (map (value_of names) values) ≡ fit
        → begun (definition_in (items_at p u) i) ≡ with_vars d (guarded d fit)
    begins_with fit fits =
        ap (λ its. begun (definition_in its i)) own ∙ ap begun is ∙ ap (λ b. with_vars d (guarded d b)) fits

    -- arguments of other types
    pub begins_otherwise : are_of_types (param_types d.func.params) (map (value_of names) values) ≡ false
        → begun (definition_in (items_at p u) i) ≡ Stops m Stuck
    begins_otherwise differ = begins_with false differ

    bound : are_of_types (param_types d.func.params) (map (value_of names) values) ≡ true → (all : Option (List Held))
        → WithLocals (value_of names) (param_names d.func.params) values d.body.locals all
        → begun (definition_in (items_at p u) i)
        ≡ with_vars d (option_map (λ vs. held_vars names (param_names d.func.params ++ map local_name d.body.locals) vs) all)
    bound fits all locals =
        begins_with true fits
        ∙ ap (λ o. with_vars d (with_params d o))
        (bind_all (value_of names) (param_names d.func.params) values (fitting (value_of names) d.func.params values fits))
        ∙ ap (with_vars d) locals

    pub begins_without : are_of_types (param_types d.func.params) (map (value_of names) values) ≡ true
        → WithLocals (value_of names) (param_names d.func.params) values d.body.locals None
        → begun (definition_in (items_at p u) i) ≡ Stops m Stuck
    begins_without fits locals = bound fits None locals

    abbrev at_first : List tree.Item → List Held → Running
    at_first its vs = record {
      unit = u;
      item = i;
      result = result_at its i;
      stmts = stmts_at its i;
      rest = drop 0 (stmts_at its i);
      vars = held_vars names (names_at its i) vs;
    }

    pub begins : (vs : List Held) → are_of_types (param_types d.func.params) (map (value_of names) values) ≡ true
        → WithLocals (value_of names) (param_names d.func.params) values d.body.locals (Some vs)
        → begun (definition_in (items_at p u) i) ≡ next m (at_first (items_at p u) vs) below
    begins vs fits locals =
        let de = defines items i d is in
        let own_names = local_names d.func d.body in
        let run : ℕ → CType → List tree.Stmt → List Name → Running =
        λ k ty ss ns. record { unit = u; item = k; result = ty; stmts = ss; rest = ss; vars = held_vars names ns vs } in
        let same : run d.item d.func.result d.body.stmts own_names ≡ at_first items vs =
        ap (λ k. run k d.func.result d.body.stmts own_names) de.item
        ∙ ap (λ ty. run i ty d.body.stmts own_names) (sym de.result)
        ∙ ap (λ ss. run i (result_at items i) ss own_names) (sym de.stmts)
        ∙ ap (run i (result_at items i) (stmts_at items i)) (sym de.names) in
        bound fits (Some vs) locals ∙ ap (λ r. next m r below) (same ∙ ap (λ its. at_first its vs) (sym own))
