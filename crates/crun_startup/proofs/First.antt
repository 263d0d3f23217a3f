-- The first objects of units are those of the meaning of C.
use Rattle.crun_startup.proofs.Common.{◌≡◌, zero, suc, Bool, true, false, List, [], ◌∷◌, ◌++◌, map, length, is_some, if◌then◌else◌, Some}
use Rattle.crun_startup.proofs.Common.{None, Option, option_map, zip, filter_map, sym, refl, ap, ◌∙◌, length-map, cons_option, Reply}
use Rattle.crun_startup.proofs.Common.{well_formed, Name, name_of, Num, Program, c_objects_of, file_memory, file_table, file_var, fresh}
use Rattle.crun_startup.proofs.Common.{initial_of, no_memory, no_table, zero_of, CValue, Memory, Objects, Table, clash_none, AllChecked}
use Rattle.crun_startup.proofs.Common.{IsChecked, memory_of, table_of, AreStored, IsStored, machine_of, objects_of, units_of, Naming}
use Rattle.crun_startup.proofs.Common.{value_of, has_object, names_in, naming_of, unit_names, AreFirst, memory_value, table_value}
use Rattle.crun_startup.proofs.Common.{var_value, AreAllFirst}
use Rattle.c_tree.specs.declared.tree.CType.TheVariants as type
use Rattle.c_tree.specs.Tree as tree
use Rattle.c_objects.specs.declared.store.UnitObjects.{UnitObjects}
use Rattle.crun_startup.specs.Names.{object_name}
use Rattle.crun_startup.specs.declared.names.ObjectKind.{ObjectKind}
use Rattle.crun_startup.specs.declared.names.ObjectKind.TheVariants as kind
use Rattle.crun_startup.proofs.Apart.{are_apart, are_names, memory_or_table, no_memory as var_no_memory, no_table as var_no_table}

-- ---- one unit by its items

-- names and objects of one kind, each item's beside it
zipped : {A : Type 0} (k : ObjectKind) (value : tree.Item → Option A) (file : tree.Item → Option (Name × A))
    → ((x : tree.Item) (names : List Name) (values : List A) (rest : List (Name × A)) → zip names values ≡ rest
    → zip (cons_option (object_name k x) names) (cons_option (value x) values) ≡ cons_option (file x) rest)
    → (items : List tree.Item) → zip (names_in k items) (filter_map value items) ≡ filter_map file items
zipped k value file at [] = refl
zipped k value file at (x ∷ items) =
    at x (names_in k items) (filter_map value items) (filter_map file items) (zipped k value file at items)

var_at : (x : tree.Item) (names : List Name) (values : List CValue) (rest : List (Name × CValue)) → zip names values ≡ rest
    → zip (cons_option (object_name kind.Variable x) names) (cons_option (var_value x) values) ≡ cons_option (file_var x) rest
var_at (tree.Var ty name number) names values rest e = by_number number
  where
    valued : (o : Option CValue) → zip (cons_option (if is_some o then Some name else None) names) (cons_option o values)
        ≡ cons_option (option_map (λ v. (name, v)) o) rest
    valued None = e
    valued (Some v) = ap (λ l. (name, v) ∷ l) e

    by_number : (number : Option Num)
        → zip (cons_option (object_name kind.Variable (tree.Var ty name number)) names)
        (cons_option (var_value (tree.Var ty name number)) values) ≡ cons_option (file_var (tree.Var ty name number)) rest
    by_number None = valued (zero_of ty)
    by_number (Some n) = valued (initial_of ty n)
var_at _ names values rest e = e

memory_at : (x : tree.Item) (names : List Name) (values : List Memory) (rest : List (Name × Memory)) → zip names values ≡ rest
    → zip (cons_option (object_name kind.Memory x) names) (cons_option (memory_value x) values) ≡ cons_option (file_memory x) rest
memory_at (tree.Var type.Mem name number) names values rest e = ap (λ l. (name, no_memory) ∷ l) e
memory_at _ names values rest e = e

table_at : (x : tree.Item) (names : List Name) (values : List Table) (rest : List (Name × Table)) → zip names values ≡ rest
    → zip (cons_option (object_name kind.Table x) names) (cons_option (table_value x) values) ≡ cons_option (file_table x) rest
table_at (tree.Var type.Tab name number) names values rest e = ap (λ l. (name, no_table) ∷ l) e
table_at _ names values rest e = e

objects_are : (names : Naming) (items : List tree.Item) (o : UnitObjects) → AreFirst items o
    → objects_of names (unit_names items) o ≡ c_objects_of items
objects_are names items o are =
    three (zip (names_in kind.Variable items) (map (value_of names) o.vars.items)) (filter_map file_var items)
    (zip (names_in kind.Memory items) (map memory_of o.memories.items)) (filter_map file_memory items)
    (zip (names_in kind.Table items) (map (table_of names) o.tables.items)) (filter_map file_table items)
    (ap (zip (names_in kind.Variable items)) (are.vars names) ∙ zipped kind.Variable var_value file_var var_at items)
    (ap (zip (names_in kind.Memory items)) are.memories ∙ zipped kind.Memory memory_value file_memory memory_at items)
    (ap (zip (names_in kind.Table items)) (are.tables names) ∙ zipped kind.Table table_value file_table table_at items)
  where
    three : (vs ws : List (Name × CValue)) (ms ns : List (Name × Memory)) (ts us : List (Name × Table)) → vs ≡ ws → ms ≡ ns → ts ≡ us
        → ◌≡◌ {A = Objects} (record { vars = vs; memories = ms; tables = ts }) (record { vars = ws; memories = ns; tables = us })
    three vs ws ms ns ts us e f g = ap (λ l. record { vars = l; memories = ms; tables = ts }) e
        ∙ ap (λ l. record { vars = ws; memories = l; tables = ts }) f ∙ ap (λ l. record { vars = ws; memories = ns; tables = l }) g

-- ---- all units

units_are : (names : Naming) (units : List (List tree.Item)) (os : List UnitObjects) → AreAllFirst units os
    → units_of names (naming_of units) os ≡ map c_objects_of units
units_are names [] [] are = refl
units_are names (items ∷ units) (o ∷ os) are =
    ap (λ x. x ∷ units_of names (naming_of units) os) (objects_are names items o are.0)
    ∙ ap (λ l. c_objects_of items ∷ l) (units_are names units os are.1)
units_are names _ _ are = absurd are

-- the machine before the first statement
pub is_fresh : (p : Program) (units : List (List tree.Item)) (os : List UnitObjects) → AreAllFirst units os → p.units ≡ units
    → (replies : List Reply)
    → machine_of (naming_of p.units) 0 (record { replies = replies; events = [] }) os ≡ fresh p replies
is_fresh p units os are same replies =
    ap (λ us. machine_of (naming_of us) 0 (record { replies = replies; events = [] }) os) same
    ∙ ap (λ l. record { depth = 0; units = l; trail = record { replies = replies; events = [] } })
    (units_are (naming_of units) units os are)
    ∙ ap (λ us. record { depth = 0; units = map c_objects_of us; trail = record { replies = replies; events = [] } }) (sym same)

-- ---- names for each object

count_at : {A : Type 0} (b : Bool) (name : Name) (x : A) (names : List Name) (xs : List A) → length names ≡ length xs
    → length (cons_option (if b then Some name else None) names) ≡ length (cons_option (if b then Some x else None) xs)
count_at true name x names xs e = ap suc e
count_at false name x names xs e = e

value_count : (o : Option CValue) (name : Name) (names : List Name) (xs : List CValue) → length names ≡ length xs
    → length (cons_option (if is_some o then Some name else None) names) ≡ length (cons_option o xs)
value_count None name names xs e = e
value_count (Some v) name names xs e = ap suc e

vars_count : (items : List tree.Item) → length (names_in kind.Variable items) ≡ length (filter_map var_value items)
vars_count [] = refl
vars_count (item ∷ items) =
    value_count (var_value item) (name_of item) (names_in kind.Variable items) (filter_map var_value items) (vars_count items)

memories_count : (items : List tree.Item) → length (names_in kind.Memory items) ≡ length (filter_map memory_value items)
memories_count [] = refl
memories_count (item ∷ items) =
    count_at (has_object kind.Memory item) (name_of item) no_memory (names_in kind.Memory items) (filter_map memory_value items)
    (memories_count items)

tables_count : (items : List tree.Item) → length (names_in kind.Table items) ≡ length (filter_map table_value items)
tables_count [] = refl
tables_count (item ∷ items) =
    count_at (has_object kind.Table item) (name_of item) no_table (names_in kind.Table items) (filter_map table_value items)
    (tables_count items)

stored_one : (items : List tree.Item) (o : UnitObjects) → IsChecked items → AreFirst items o → IsStored (unit_names items) o
stored_one items o checked are =
    let kept = clash_none items checked.1 in
    let named = (well_formed items checked.0).named in
    let none : Naming = [] in
    let vars : length (map (value_of none) o.vars.items) ≡ length o.vars.items = simp length-map in
    let memories : length (map memory_of o.memories.items) ≡ length o.memories.items = simp length-map in
    let tables : length (map (table_of none) o.tables.items) ≡ length o.tables.items = simp length-map in
    record {
      vars = are_names kind.Variable items kept named;
      memories = are_names kind.Memory items kept named;
      tables = are_names kind.Table items kept named;
      vars_memories = are_apart kind.Variable kind.Memory var_no_memory items kept;
      vars_tables = are_apart kind.Variable kind.Table var_no_table items kept;
      memories_tables = are_apart kind.Memory kind.Table memory_or_table items kept;
      vars_count = vars_count items ∙ ap length (sym (are.vars none)) ∙ vars;
      memories_count = memories_count items ∙ ap length (sym are.memories) ∙ memories;
      tables_count = tables_count items ∙ ap length (sym (are.tables none)) ∙ tables;
    }

pub are_stored : (units : List (List tree.Item)) (os : List UnitObjects) → AllChecked units → AreAllFirst units os
    → AreStored (naming_of units) os
are_stored [] [] checked are = tt
are_stored (items ∷ units) (o ∷ os) checked are =
    (stored_one items o (checked zero items refl) are.0, are_stored units os (λ k. checked (suc k)) are.1)
are_stored _ _ checked are = absurd are

-- one unit more
pub first_push : (units : List (List tree.Item)) (items : List tree.Item) (os : List UnitObjects) (o : UnitObjects) → AreAllFirst units os
    → AreFirst items o → AreAllFirst (units ++ items ∷ []) (os ++ o ∷ [])
first_push [] items [] o are one = (one, tt)
first_push (y ∷ units) items (x ∷ os) o are one = (are.0, first_push units items os o are.1 one)
first_push _ items _ o are one = absurd are
