-- The statements that make a table, a memory and globals against their tasks (WebAssembly Core 1.0, 4.5.4).
use Rattle.w2c_base.proofs.Lists.{all_replicate}
use Rattle.init_meaning.proofs.Common.{all_at, do_task, is_free, primitive, ◌≡◌, ℕ, zero, suc, ◌+◌, ◌*◌, ◌^◌, ◌<◌, ◌≤◌, Bool, true, false}
use Rattle.init_meaning.proofs.Common.{◌≢◌, List, [], ◌∷◌, ◌++◌, map, length, replicate, is_some, IsSome, slice_get, slice_set, Some, None}
use Rattle.init_meaning.proofs.Common.{codes, Option, option_map, zip, sym, refl, ap, ◌∙◌, subst, inl, arith, length-replicate, same_Some}
use Rattle.init_meaning.proofs.Common.{slice_get_within, AllByRecursion, range_with_len, all_push, if_found, named, numbered, with_named}
use Rattle.init_meaning.proofs.Common.{Trail, IsNumber, type_of, types_of, value, ValType, Value, I32, I64, imported_global_space}
use Rattle.init_meaning.proofs.Common.{imported_globals, GlobalEntry, Limits, LimitsEntry, Module, shape_of, of_type, LinkedSet}
use Rattle.init_meaning.proofs.Common.{NamedModule, MakeGlobal, MakeMemory, MakeTable, Task, done, wasm_first, with_found}
use Rattle.init_meaning.proofs.Common.{named-with_another, named-with_named, Program, Effect, Gives, mem_new, tab_new, Reaches}
use Rattle.init_meaning.proofs.Common.{GlobalsAlike, first_global, global_name, memory_name, table_name, global_at_another_place}
use Rattle.init_meaning.proofs.Common.{global_is_no_pointer, module_is, machine_is, memory_object, objects_at, pointers_kept, store_is}
use Rattle.init_meaning.proofs.Common.{table_object, with_unit, ElementsAgree, IsCallableIfAny, MemoriesAgree, ObjectsAgree, PointersAreSet}
use Rattle.init_meaning.proofs.Common.{TablesAgree, Together, pointer_name, constant_expr, make_global, make_memory, make_table, max_number}
use Rattle.init_meaning.proofs.Common.{n32, n64, zero_like, set_there}
use Rattle.std.proofs.lemmas.List.{length-map, map_push}
use Rattle.alike.proofs.LookUps.{memory_is_object, table_is_object}
use Rattle.w2c_base.proofs.Types.{types_many, types_push}
use Rattle.wasm_meaning.specs.Store as store
use Rattle.wasm_meaning.proofs.Typed.{of_its_type}
use Rattle.c_tree.specs.Tree as c
use Rattle.c_meaning.specs.Primitives.{on_memory, on_table}
use Rattle.c_meaning.specs.State as state
use Rattle.c_meaning.specs.Machine as machine
use Rattle.std.proofs.lemmas.List.Concat.{flat_map_single}
use Rattle.init_meaning.proofs.Entries.{is_numbered}
use Rattle.init_meaning.proofs.InitRuns.{Stage, IsDone, FollowsTask, FollowsTasks, AreRows, and_just, at_stage, rows_all}
use Rattle.c_init.specs.Fitting.{ShapeFits}
use Rattle.c_init.proofs.Small.{at_least}
use Rattle.init_meaning.specs.Zeros.{held}
use Rattle.init_meaning.proofs.Held.{held_there, held_kept}
use Rattle.init_meaning.specs.Declared.{HoldsGlobal}
use Rattle.init_meaning.proofs.InitStatements.{Seat, effect_goes, set_global_goes, at as going_at}
use Rattle.init_meaning.proofs.InitConstants.{ConstantFound, constant_found, value_gets}
use Rattle.init_meaning.proofs.InitTests.{HasLocals}
use Rattle.init_meaning.proofs.InitObjects.{address_gets, global_found}
use Rattle.init_meaning.proofs.Surroundings.{Surroundings, IsFilled}
use Rattle.init_meaning.proofs.OwnObjects.{own_kept, more_ready}

-- pointers are set, and the unit has these objects in both
pub record HasOwn (p : Program) (s : LinkedSet) (u : ℕ) (m : NamedModule) (o : store.Objects) (x : state.Objects) (mach : state.Machine)
    (made : store.Store) (trail : Trail) (vars : state.Vars) : Type 0 where
  pub together : Together p s u 0 mach made trail
  pub locals : HasLocals m.tree vars
  pub pointers : PointersAreSet s u m.tree mach
  pub o_is : slice_get made u ≡ Some o
  pub x_is : slice_get mach.units u ≡ Some x
  pub declared : (k : ℕ) (e : GlobalEntry) → slice_get m.tree.globals k ≡ Some e → HoldsGlobal m.tree k e x.vars

-- whatever the function's variables are
pub with_locals : {p : Program} {s : LinkedSet} {u : ℕ} {m : NamedModule} {o : store.Objects} {x : state.Objects} {mach : state.Machine}
    {made : store.Store} {trail : Trail} {vars others : state.Vars}
    → HasOwn p s u m o x mach made trail vars → HasLocals m.tree others → HasOwn p s u m o x mach made trail others
with_locals own locals =
    record { together = own.together; locals = locals; pointers = own.pointers; o_is = own.o_is; x_is = own.x_is; declared = own.declared }

abbrev pub MadeOrNew : Bool → Type 0 → Type 0 → Type 0
MadeOrNew true made new = made
MadeOrNew false made new = new

-- the table and the memory are made or not, and so many globals
pub record IsMaking (s : LinkedSet) (g : Seat) (m : NamedModule) (has_table has_memory : Bool) (front : List GlobalEntry)
    (mach : state.Machine) (made : store.Store) (trail : Trail) (vars : state.Vars) : Type 0 where
  pub o : store.Objects
  pub x : state.Objects
  pub own : HasOwn g.program s g.unit m o x mach made trail vars
  pub table : MadeOrNew has_table (0 < length m.tree.tables → IsSome o.table)
      (0 < length m.tree.tables → named table_name x.tables ≡ Some machine.no_table)
  pub memory : MadeOrNew has_memory (0 < length m.tree.memories → IsSome o.memory)
      (0 < length m.tree.memories → named memory_name x.memories ≡ Some machine.no_memory)
  pub types : types_of o.globals ≡ map (λ (e : GlobalEntry). e.ty) front

empty_agree : (p : Program) (s : LinkedSet) (n : ℕ) → ElementsAgree p s (replicate n None) (replicate n None)
empty_agree p s zero = tt
empty_agree p s (suc n) = empty_agree p s n

makes_table : (mach : state.Machine) (a : state.ObjectAddress) (n max : ℕ) → machine.table_in mach a ≡ Some machine.no_table → n ≤ 1000000
    → tab_new (state.Pointer (Some a) ∷ state.Number (I32 n) ∷ state.Number (I64 max) ∷ []) mach
    ≡ Gives (machine.with_table mach a (record { is_made = true; elements = replicate n None; max = max })) None
makes_table mach a n max there few = rw (there, tab_new, on_table) (rw (at_least 1000000 n few) refl)

makes_memory : (mach : state.Machine) (a : state.ObjectAddress) (n max : ℕ) → machine.memory_in mach a ≡ Some machine.no_memory → n ≤ 16384
    → max ≤ 4294967296 → mem_new (state.Pointer (Some a) ∷ state.Number (I32 n) ∷ state.Number (I64 max) ∷ []) mach
    ≡ Gives (machine.with_memory mach a (record { is_made = true; bytes = replicate (n * 65536) 0; max = max })) None
makes_memory mach a n max there few low = rw (there, mem_new, on_memory) (rw (at_least 16384 n few, at_least 4294967296 max low) refl)

-- a variable gets its value, behind those that have theirs
globals_push : (k j : ℕ) (globals : List Value) (v : Value) (vars : state.Vars) → j ≡ k + length globals → j < 2 ^ 64
    → is_some (named (global_name j) vars) ≡ true
    → GlobalsAlike k globals vars → GlobalsAlike k (globals ++ v ∷ []) (with_named (global_name j) (state.Number v) vars)
globals_push k j [] v vars at few there alike =
    let same : j ≡ k = omega (arith, at) in
    let set : named (global_name j) (with_named (global_name j) (state.Number v) vars) ≡ Some (state.Number v) =
    named-with_named (global_name j) (state.Number v) vars there in
    (subst (λ i. named (global_name i) (with_named (global_name j) (state.Number v) vars) ≡ Some (state.Number v)) same set, tt)
globals_push k j (x ∷ globals) v vars at few there alike =
    let differ : global_name k ≢ global_name j = global_at_another_place k j (omega (arith, at, few)) few (omega (arith, at)) in (
      named-with_another (global_name k) (global_name j) (state.Number v) vars differ ∙ alike.0,
      globals_push (suc k) j globals v vars (omega (arith, at)) few there alike.1,
    )

abbrev pub entries : List (ℕ × GlobalEntry) → List GlobalEntry
entries front = map (λ (x : ℕ × GlobalEntry). x.1) front

abbrev pub global_task : ℕ × GlobalEntry → Task
global_task x = MakeGlobal x.1.ty x.1.code

module _ (s : LinkedSet) (g : Seat) (m : NamedModule) where
  objects_agree : (o : store.Objects) (x : state.Objects) (mach : state.Machine) (made : store.Store) (trail : Trail) (vars : state.Vars)
      → HasOwn g.program s g.unit m o x mach made trail vars → ObjectsAgree g.program s g.unit o x
  objects_agree o x mach made trail vars own =
      let r = objects_at g.program s mach made trail g.unit o own.together.agrees own.o_is in
      subst (ObjectsAgree g.program s g.unit o) (same_Some r.0 x (sym r.1 ∙ own.x_is)) r.2

  -- a statement that changes the unit's objects, and no pointer among them, does a task
  changes_own : (t : Task) (stage : Stage) (start rest : List c.Stmt) (mach : state.Machine) (made : store.Store) (trail : Trail)
      (vars : state.Vars) (o o' : store.Objects) (x x' : state.Objects)
      → HasOwn g.program s g.unit m o x mach made trail vars → ObjectsAgree g.program s g.unit o' x'
      → ((table : store.Table) → o'.table ≡ Some table → AllByRecursion (IsCallableIfAny s g.unit) table.elements)
      → ((object : state.Name) → named (pointer_name object) x'.vars ≡ named (pointer_name object) x.vars)
      → ((k : ℕ) (e : GlobalEntry) → slice_get m.tree.globals k ≡ Some e → HoldsGlobal m.tree k e x'.vars)
      → ((n : ℕ) → do_task s g.unit t n made trail ≡ done n (slice_set made g.unit o') trail)
      → (HasOwn g.program s g.unit m o' x' (with_unit mach g.unit x') (slice_set made g.unit o') trail vars
      → stage (with_unit mach g.unit x') (slice_set made g.unit o') trail vars)
      → Reaches g.program 1 (going_at g mach start vars) (going_at g (with_unit mach g.unit x') rest vars)
      → IsDone s g t stage start rest mach made trail vars
  changes_own t stage start rest mach made trail vars o o' x x' own agree callable same declared does reached way = record {
    machine = with_unit mach g.unit x';
    new = slice_set made g.unit o';
    locals = vars;
    does = does;
    reached = reached (record {
      together = own_kept g.program s g.unit mach made trail o o' x' own.o_is agree callable own.together;
      locals = own.locals;
      pointers = pointers_kept s g.unit m.tree mach (with_unit mach g.unit x')
          (λ object. ap (λ (found : Option state.Objects). if_found found (λ o. named (pointer_name object) o.vars))
          (set_there mach.units g.unit x x' own.x_is) ∙ same object
          ∙ sym (ap (λ (found : Option state.Objects). if_found found (λ o. named (pointer_name object) o.vars)) own.x_is))
          own.pointers;
      o_is = set_there made g.unit o o' own.o_is;
      x_is = set_there mach.units g.unit x x' own.x_is;
      declared = declared;
    });
    statements = 1;
    some = omega arith;
    few = omega arith;
    way = way;
  }

  -- a call of the runtime that makes an object of the unit
  new_goes : (mach after : state.Machine) (vars : state.Vars) (name object : state.Name)
      (does : List state.CValue → state.Machine → Effect) (l : Limits) (rest : List c.Stmt)
      → machine.is_object mach (record { unit = g.unit; name = object }) ≡ true → primitive name ≡ Some does
      → does (state.Pointer (Some (record { unit = g.unit; name = object })) ∷ state.Number (I32 l.min)
      ∷ state.Number (I64 (max_number l.max)) ∷ []) mach ≡ Gives after None
      → Reaches g.program 1 (going_at g mach (c.Call None (c.Called name)
      (c.Address object ∷ c.Value (n32 l.min) ∷ c.Value (n64 (max_number l.max)) ∷ []) ∷ rest) vars) (going_at g after rest vars)
  new_goes mach after vars name object does l rest there is gives =
      effect_goes g mach after name (c.Address object ∷ c.Value (n32 l.min) ∷ c.Value (n64 (max_number l.max)) ∷ []) rest vars _ does
      (λ rest. rw (address_gets g mach vars object there rest) refl) is gives

  table_follows : (l : Limits) (rest : List c.Stmt) → 0 < length m.tree.tables → l.min ≤ 1000000
      → FollowsTask s g (IsMaking s g m false false []) (MakeTable l) (IsMaking s g m true false []) (make_table l ∷ rest) rest
  table_follows l rest some few mach made trail vars here = inl (changes_own (MakeTable l) (IsMaking s g m true false [])
      (make_table l ∷ rest) rest mach made trail vars here.o (change here.o) here.x (changes here.x) here.own
      (record { memory = old.memory; table = tables; globals = old.globals; are_numbers = old.are_numbers })
      (λ table is. subst (λ (t : store.Table). AllByRecursion (IsCallableIfAny s g.unit) t.elements) (same_Some new table is)
      (all_replicate (IsCallableIfAny s g.unit) l.min None (λ some. tt)))
      (λ object. refl) here.own.declared (λ n. ap (λ x. done n x trail) (store_is made g.unit here.o change here.own.o_is))
      (λ own. record { o = change here.o; x = changes here.x; own = own; table = λ some. refl; memory = here.memory; types = here.types })
      (new_goes mach (with_unit mach g.unit (changes here.x)) vars (codes "w2c_tab_new") table_name tab_new l rest
      (table_is_object mach (table_object g.unit) machine.no_table there) refl
      (makes_table mach (table_object g.unit) l.min (max_number l.max) there few
      ∙ ap (λ m. Gives m None) (machine_is mach g.unit here.x changes here.own.x_is))))
    where
      new : store.Table
      new = store.new_table l.min l.max

      other : state.Table
      other = record { is_made = true; elements = replicate l.min None; max = max_number l.max }

      change : store.Objects → store.Objects
      change o = record { memory = o.memory; table = Some new; globals = o.globals }

      changes : state.Objects → state.Objects
      changes x = record { vars = x.vars; memories = x.memories; tables = with_named table_name other x.tables }

      there : machine.table_in mach (table_object g.unit) ≡ Some machine.no_table
      there = ap (λ (found : Option state.Objects). if_found found (λ o. named table_name o.tables)) here.own.x_is ∙ here.table some

      old : ObjectsAgree g.program s g.unit here.o here.x
      old = objects_agree here.o here.x mach made trail vars here.own

      tables : TablesAgree g.program s (Some new) (named table_name (with_named table_name other here.x.tables))
      tables = subst (TablesAgree g.program s (Some new))
          (sym (named-with_named table_name other here.x.tables (ap is_some (here.table some))))
          (record { made = refl; elements = empty_agree g.program s l.min; max = refl })

  -- a table that the unit has holds functions of modules before
  table_callable : (o : store.Objects) (x : state.Objects) (mach : state.Machine) (made : store.Store) (trail : Trail) (vars : state.Vars)
      → HasOwn g.program s g.unit m o x mach made trail vars → (table : store.Table) → o.table ≡ Some table
      → AllByRecursion (IsCallableIfAny s g.unit) table.elements
  table_callable o x mach made trail vars own table is = own.together.ready.elements g.unit table
      (ap (λ (found : Option store.Objects). if_found found (λ o. o.table)) own.o_is ∙ is)

  memory_follows : (l : Limits) (rest : List c.Stmt) → 0 < length m.tree.memories → l.min ≤ 16384 → max_number l.max ≤ 4294967296
      → FollowsTask s g (IsMaking s g m true false []) (MakeMemory l) (IsMaking s g m true true []) (make_memory l ∷ rest) rest
  memory_follows l rest some few low mach made trail vars here = inl (changes_own (MakeMemory l) (IsMaking s g m true true [])
      (make_memory l ∷ rest) rest mach made trail vars here.o (change here.o) here.x (changes here.x) here.own
      (record { memory = memories; table = old.table; globals = old.globals; are_numbers = old.are_numbers })
      (table_callable here.o here.x mach made trail vars here.own)
      (λ object. refl) here.own.declared (λ n. ap (λ x. done n x trail) (store_is made g.unit here.o change here.own.o_is))
      (λ own. record { o = change here.o; x = changes here.x; own = own; table = here.table; memory = λ some. refl; types = here.types })
      (new_goes mach (with_unit mach g.unit (changes here.x)) vars (codes "w2c_mem_new") memory_name mem_new l rest
      (memory_is_object mach (memory_object g.unit) machine.no_memory there) refl
      (makes_memory mach (memory_object g.unit) l.min (max_number l.max) there few low
      ∙ ap (λ m. Gives m None) (machine_is mach g.unit here.x changes here.own.x_is))))
    where
      new : store.Memory
      new = store.new_memory l.min l.max

      other : state.Memory
      other = record { is_made = true; bytes = replicate (l.min * 65536) 0; max = max_number l.max }

      change : store.Objects → store.Objects
      change o = record { memory = Some new; table = o.table; globals = o.globals }

      changes : state.Objects → state.Objects
      changes x = record { vars = x.vars; memories = with_named memory_name other x.memories; tables = x.tables }

      there : machine.memory_in mach (memory_object g.unit) ≡ Some machine.no_memory
      there = ap (λ (found : Option state.Objects). if_found found (λ o. named memory_name o.memories)) here.own.x_is ∙ here.memory some

      old : ObjectsAgree g.program s g.unit here.o here.x
      old = objects_agree here.o here.x mach made trail vars here.own

      memories : MemoriesAgree (Some new) (named memory_name (with_named memory_name other here.x.memories))
      memories = subst (MemoriesAgree (Some new)) (sym (named-with_named memory_name other here.x.memories (ap is_some (here.memory some))))
          (record {
            made = refl;
            bytes = refl;
            max = refl;
            pages = l.min;
            whole = length-replicate (l.min * 65536) 0;
            few = few;
            are_bytes = all_replicate (λ b. b < 256) (l.min * 65536) 0 (λ some. omega arith);
          })

  global_follows : (front : List GlobalEntry) (k : ℕ) (e : GlobalEntry) (rest : List c.Stmt)
      → Surroundings s g m → k ≡ length front → slice_get m.tree.globals k ≡ Some e
      → ShapeFits e.ty (shape_of (imported_global_space m.tree) e.code)
      → FollowsTask s g (IsMaking s g m true true front) (MakeGlobal e.ty e.code) (IsMaking s g m true true (front ++ e ∷ []))
      (make_global m.tree (k, e) ∷ rest) rest
  global_follows front k e rest a at is fits mach made trail vars here =
      inl (changes_own (MakeGlobal e.ty e.code) (IsMaking s g m true true (front ++ e ∷ []))
      (make_global m.tree (k, e) ∷ rest) rest mach made trail vars here.o (change here.o) here.x (changes here.x) here.own agree
      (table_callable here.o here.x mach made trail vars here.own)
      (λ object. named-with_another (pointer_name object) (global_name j) (state.Number found.value) here.x.vars
      (λ e. global_is_no_pointer j object (sym e)))
      (λ i x there. held_kept (global_name (imported_globals m.tree + i)) (global_name j)
      (state.Number found.value) here.x.vars of_type_there ∙ here.own.declared i x there)
      (λ n. ap (λ v. with_found v made trail (λ v. done n
      (store.with_objects made g.unit (λ o. record { memory = o.memory; table = o.table; globals = o.globals ++ v ∷ [] })) trail)) first_is
      ∙ ap (λ x. done n x trail) (store_is made g.unit here.o change here.own.o_is))
      (λ own. record { o = change here.o; x = changes here.x; own = own; table = here.table; memory = here.memory; types = types })
      (rw (machine_is mach g.unit here.x changes here.own.x_is) at (set_global_goes g mach (global_name j) (c.Value (constant_expr m.tree
      e.code)) (state.Number found.value) rest vars refl (here.own.locals.globals_seen j)
      (ap (λ (x : Option state.Objects). option_map zero_like (if_found x (λ o. named (global_name j) o.vars))) here.own.x_is
      ∙ of_type_there) (value_gets g mach vars (constant_expr m.tree e.code) found.value found.evaluates))))
    where
      j : ℕ
      j = imported_globals m.tree + k

      found : ConstantFound s g m.tree mach made vars e.ty e.code
      found = constant_found s g m.tree mach made vars (imported_global_space m.tree) e.ty e.code fits
          (λ index is. let o = a.known.early_global index e.ty is in
          global_found s g m.tree mach made trail vars index g.unit e.ty (module_is s g.unit m a.module_is) o.0 o.1
          here.own.together.agrees here.own.together.ready here.own.pointers here.own.locals.pointers_seen here.own.locals.globals_seen)

      -- the value has the global's type, and so has the one that its variable holds
      first_is : wasm_first s g.unit made e.ty e.code ≡ Some found.value
      first_is = ap (λ (o : Option Value). if_found o (λ v. of_type e.ty v v)) found.is
          ∙ of_its_type e.ty found.value found.value (sym found.typed)

      of_type_there : held (global_name j) here.x.vars ≡ Some (zero_like (state.Number found.value))
      of_type_there = here.own.declared k e is ∙ ap (λ (t : ValType). Some (state.Number (value t 0))) (sym found.typed)

      less : k < length m.tree.globals
      less = slice_get_within m.tree.globals k e is

      change : store.Objects → store.Objects
      change o = record { memory = o.memory; table = o.table; globals = o.globals ++ found.value ∷ [] }

      changes : state.Objects → state.Objects
      changes x = record { vars = with_named (global_name j) (state.Number found.value) x.vars; memories = x.memories; tables = x.tables }

      types : types_of (change here.o).globals ≡ map (λ (e : GlobalEntry). e.ty) (front ++ e ∷ [])
      types = types_push here.o.globals found.value ∙ ap (λ ts. ts ++ type_of found.value ∷ []) here.types
          ∙ ap (λ t. map (λ (e : GlobalEntry). e.ty) front ++ t ∷ []) found.typed ∙ sym (map_push (λ (e : GlobalEntry). e.ty) front e)

      first : first_global s g.unit ≡ imported_globals m.tree
      first = ap (λ (found : Option Module). elim found [ None ↦ 0 | Some m ↦ imported_globals m ]) (module_is s g.unit m a.module_is)

      place : j ≡ first_global s g.unit + length here.o.globals
      place =
          let size : length here.o.globals ≡ length front =
          sym (types_many here.o.globals) ∙ ap length here.types ∙ length-map front (λ (e : GlobalEntry). e.ty) in
          omega (arith, size, first, at)

      agree : ObjectsAgree g.program s g.unit (change here.o) (changes here.x)
      agree =
          let old : ObjectsAgree g.program s g.unit here.o here.x = objects_agree here.o here.x mach made trail vars here.own in
          record {
            memory = old.memory;
            table = old.table;
            globals = globals_push (first_global s g.unit) j here.o.globals found.value here.x.vars place
                (omega (arith, less, a.instantiable.few_globals))
                (held_there (global_name j) here.x.vars (zero_like (state.Number found.value)) of_type_there) old.globals;
            are_numbers = all_push IsNumber here.o.globals found.value old.are_numbers found.is_number;
          }

  -- ---- all that the module defines

  pub global_rows : Surroundings s g m → AreRows s g (numbered m.tree.globals) (λ front. IsMaking s g m true true (entries front))
      (λ x. make_global m.tree x ∷ []) global_task
  global_rows a = record {
    costs = λ x. refl;
    each = λ front x behind rest e.
        let n = is_numbered m.tree.globals front x behind e in
        rw (map_push (λ (x : ℕ × GlobalEntry). x.1) front x) (global_follows (entries front) x.0 x.1 rest a (n.number
        ∙ sym (length-map front (λ (x : ℕ × GlobalEntry). x.1))) n.entry
        (all_at (λ (e : GlobalEntry). ShapeFits e.ty (shape_of (imported_global_space m.tree) e.code)) m.tree.globals x.0 x.1
        a.instantiable.globals n.entry));
  }

  -- of a kind that a module defines once at most
  make_one : {spare : ℕ} {from to : Stage} {rest : List c.Stmt} {tasks : List Task} (P : LimitsEntry → Type 0) (task : Limits → Task)
      (stmt : Limits → c.Stmt) (es : List LimitsEntry) → ((l : Limits) → is_free (task l) ≡ false) → length es ≤ 1 → AllByRecursion P es
      → (length es ≡ 0 → (mach : state.Machine) (made : store.Store) (trail : Trail) (vars : state.Vars) → from mach made trail vars
      → to mach made trail vars)
      → ((t : LimitsEntry) → 0 < length es → P t → FollowsTask s g from (task t.limits) to (stmt t.limits ∷ rest) rest)
      → FollowsTasks s g spare to rest tasks → FollowsTasks s g spare from (map (λ (t : LimitsEntry). stmt t.limits) es ++ rest)
      (map (λ (t : LimitsEntry). task t.limits) es ++ tasks)
  make_one P task stmt [] costs one fits none some behind = at_stage (none refl) behind
  make_one P task stmt (t ∷ []) costs one fits none some behind = and_just (costs t.limits) (some t (omega arith) fits.0) behind
  make_one P task stmt (t ∷ v ∷ es) costs one fits none some behind = absurd (omega (arith, one))

  -- when all is made the module is ready
  pub making_is_filled : (mach : state.Machine) (made : store.Store) (trail : Trail) (vars : state.Vars)
      → Surroundings s g m → IsMaking s g m true true m.tree.globals mach made trail vars → IsFilled s g m mach made trail vars
  making_is_filled mach made trail vars a here = record {
    together = more_ready g.program s g.unit m.tree mach made trail here.o (module_is s g.unit m a.module_is) here.own.o_is (record
        { memory = λ i less. here.memory (omega (arith, less)); table = λ i less. here.table (omega (arith, less)); globals = here.types })
        here.own.pointers here.own.together;
    locals = here.own.locals;
  }

abbrev pub tasks_making : Module → List Task → List Task
tasks_making m tasks =
    map (λ (t : LimitsEntry). MakeTable t.limits) m.tables
    ++ (map (λ (t : LimitsEntry). MakeMemory t.limits) m.memories
    ++ (map (λ (g : GlobalEntry). MakeGlobal g.ty g.code) m.globals ++ tasks))

abbrev pub stmts_making : Module → List c.Stmt → List c.Stmt
stmts_making m rest =
    map (λ (t : LimitsEntry). make_table t.limits) m.tables
    ++ (map (λ (t : LimitsEntry). make_memory t.limits) m.memories
    ++ (map (make_global m) (numbered m.globals) ++ rest))

-- globals with their numbers
numbered_tasks : (k : ℕ) (es : List GlobalEntry)
    → map global_task (zip (range_with_len k (length es)) es) ≡ map (λ (e : GlobalEntry). MakeGlobal e.ty e.code) es
numbered_tasks k [] = refl
numbered_tasks k (e ∷ es) = ap (λ ts. MakeGlobal e.ty e.code ∷ ts) (numbered_tasks (k + 1) es)

entries_of : (k : ℕ) (es : List GlobalEntry) → entries (zip (range_with_len k (length es)) es) ≡ es
entries_of k [] = refl
entries_of k (e ∷ es) = ap (λ xs. e ∷ xs) (entries_of (k + 1) es)

-- a table and a memory
pub objects_follow : (s : LinkedSet) (g : Seat) (m : NamedModule) {spare : ℕ} {rest : List c.Stmt} (tasks : List Task) → Surroundings s g m
    → FollowsTasks s g spare (IsMaking s g m true true []) rest (map global_task (numbered m.tree.globals) ++ tasks)
    → FollowsTasks s g spare (IsMaking s g m false false [])
    (map (λ (t : LimitsEntry). make_table t.limits) m.tree.tables
    ++ (map (λ (t : LimitsEntry). make_memory t.limits) m.tree.memories ++ rest)) (tasks_making m.tree tasks)
objects_follow s g m {spare} {rest} tasks a behind =
    make_one s g m (λ (t : LimitsEntry). t.limits.min ≤ 1000000) MakeTable make_table m.tree.tables (λ l. refl) a.instantiable.one_table
    a.instantiable.table_limits
    (λ none mach made trail vars here. record {
      o = here.o;
      x = here.x;
      own = here.own;
      table = λ some. absurd (omega (arith, none, some));
      memory = here.memory;
      types = here.types;
    })
    (λ t some few. table_follows s g m t.limits _ some few)
    (make_one s g m (λ (t : LimitsEntry). (t.limits.min ≤ 16384) × (max_number t.limits.max ≤ 4294967296)) MakeMemory make_memory
    m.tree.memories (λ l. refl) a.instantiable.one_memory a.instantiable.memory_limits (λ none mach made trail vars here. record
    { o = here.o; x = here.x; own = here.own; table = here.table; memory = λ some. absurd (omega (arith, none, some)); types = here.types })
    (λ t some few. memory_follows s g m t.limits rest some few.0 few.1)
    (subst (λ ts. FollowsTasks s g spare (IsMaking s g m true true []) rest (ts ++ tasks)) (numbered_tasks 0 m.tree.globals) behind))

-- behind the globals
pub all_made : (s : LinkedSet) (g : Seat) (m : NamedModule) {spare : ℕ} {rest : List c.Stmt} {tasks : List Task} → Surroundings s g m
    → FollowsTasks s g spare (IsFilled s g m) rest tasks
    → FollowsTasks s g spare (IsMaking s g m true true (entries (numbered m.tree.globals))) rest tasks
all_made s g m {spare} {rest} {tasks} a behind =
    rw (entries_of 0 m.tree.globals) (at_stage (λ mach made trail vars here. making_is_filled s g m mach made trail vars a here) behind)

pub making_follows : (s : LinkedSet) (g : Seat) (m : NamedModule) {spare : ℕ} {rest : List c.Stmt} {tasks : List Task} → Surroundings s g m
    → FollowsTasks s g spare (IsFilled s g m) rest tasks
    → FollowsTasks s g spare (IsMaking s g m false false []) (stmts_making m.tree rest) (tasks_making m.tree tasks)
making_follows s g m {spare} {rest} {tasks} a behind =
    objects_follow s g m tasks a
    (rw (flat_map_single (make_global m.tree) (numbered m.tree.globals)) at (rows_all (global_rows s g m a) (all_made s g m a behind)))
