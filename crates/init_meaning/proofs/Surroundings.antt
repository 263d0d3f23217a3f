-- What an init function rests on once its module has made its objects: whose tables, memories and globals the
-- indexes stand for, which functions names reach, and what validity says of segments.
use Rattle.w2c_base.specs.declared.value.ValType.TheVariants as type
use Rattle.wasm_meaning.specs.LinkedSet.{FuncAddress}
use Rattle.wasm_meaning.specs.Store as store
use Rattle.c_meaning.specs.State as state
use Rattle.c_meaning.specs.Machine as machine
use Rattle.c_init.specs.Fitting.{ShapeFits}
use Rattle.c_init.specs.Instantiable.{IsInstantiable}
use Rattle.alike.proofs.LookUps.{module_is}
use Rattle.init_meaning.proofs.Common.{◌≡◌, ℕ, suc, true, List, [], ◌∷◌, length, slice_get, Some, None, Option, refl, ap, arith, Trail}
use Rattle.init_meaning.proofs.Common.{SegmentOut, global_space, Code, Module, shape_of, LinkedSet, NamedModule, memory_object, memory_seen}
use Rattle.init_meaning.proofs.Common.{table_object, table_seen, ElementsAgree, MemoryAgrees, PointersAreSet, TableAgrees, Together}
use Rattle.init_meaning.proofs.Common.{memory_arg, table_arg, bounds_label, tests_bounds}
use Rattle.init_meaning.proofs.InitStatements.{Seat, Gets}
use Rattle.init_meaning.specs.Owners.{TableOwner, MemoryOwner}
use Rattle.init_meaning.proofs.InitObjects.{table_there, memory_there, table_gets, memory_gets, global_found}
use Rattle.init_meaning.proofs.InitConstants.{OffsetFound, offset_found, constant_found}
use Rattle.init_meaning.proofs.InitTests.{HasLocals, IsTrapLabel}
use Rattle.init_meaning.specs.InitFollows.{IsKnown}

-- ---- what is around

pub record Surroundings (s : LinkedSet) (g : Seat) (m : NamedModule) : Type 0 where
  pub module_is : slice_get s.modules g.unit ≡ Some m
  pub known : IsKnown g.program s g.unit m
  pub instantiable : IsInstantiable m.tree

-- where bounds are tested, the function has a trap for them
abbrev pub CanTrap : Seat → Module → Type 0
CanTrap g m = tests_bounds m ≡ true → IsTrapLabel g bounds_label SegmentOut

-- the module is ready, and its init function has its variables
pub record IsFilled (s : LinkedSet) (g : Seat) (m : NamedModule) (machine : state.Machine) (made : store.Store) (trail : Trail)
    (vars : state.Vars) : Type 0 where
  pub together : Together g.program s (suc g.unit) 0 machine made trail
  pub locals : HasLocals m.tree vars

pointers_set : (s : LinkedSet) (g : Seat) (m : NamedModule) (machine : state.Machine) (made : store.Store) (trail : Trail)
    (vars : state.Vars) → Surroundings s g m → IsFilled s g m machine made trail vars → PointersAreSet s g.unit m.tree machine
pointers_set s g m machine made trail vars a f = f.together.ready.pointers g.unit m.tree (omega arith) (module_is s g.unit m a.module_is)

-- the table, in both
pub record TableFound (s : LinkedSet) (g : Seat) (m : NamedModule) (mach : state.Machine) (made : store.Store) (vars : state.Vars)
    (owner : ℕ) : Type 0 where
  pub table : store.Table
  pub table_is : store.table_in made owner ≡ Some table
  pub other : state.Table
  pub other_is : machine.table_in mach (table_object owner) ≡ Some other
  pub agree : TableAgrees g.program s table other
  pub gets : Gets g mach vars (table_arg m.tree) (state.Pointer (Some (table_object owner)))

pub table_found : (s : LinkedSet) (g : Seat) (m : NamedModule) (mach : state.Machine) (made : store.Store) (trail : Trail)
    (vars : state.Vars) → (a : Surroundings s g m) → IsFilled s g m mach made trail vars → (o : TableOwner s g.unit m.tree)
    → TableFound s g m mach made vars o.owner
table_found s g m mach made trail vars a f o =
    let t = table_there s (suc g.unit) mach made o.owner o.owner_tree f.together.ready (omega (arith, o.early)) o.owner_tree_is o.some in
    let r = table_seen g.program s mach made trail o.owner t.0 f.together.agrees t.1 in
    record {
      table = t.0;
      table_is = t.1;
      other = r.0;
      other_is = r.1;
      agree = r.2;
      gets = table_gets s g m.tree mach vars o r.0 f.locals.pointers_seen (pointers_set s g m mach made trail vars a f) r.1;
    }

-- the memory, in both
pub record MemoryFound (s : LinkedSet) (g : Seat) (m : NamedModule) (mach : state.Machine) (made : store.Store) (vars : state.Vars)
    (owner : ℕ) : Type 0 where
  pub memory : store.Memory
  pub memory_is : store.memory_in made owner ≡ Some memory
  pub other : state.Memory
  pub other_is : machine.memory_in mach (memory_object owner) ≡ Some other
  pub agree : MemoryAgrees memory other
  pub gets : Gets g mach vars (memory_arg m.tree) (state.Pointer (Some (memory_object owner)))

pub memory_found : (s : LinkedSet) (g : Seat) (m : NamedModule) (mach : state.Machine) (made : store.Store) (trail : Trail)
    (vars : state.Vars) → (a : Surroundings s g m) → IsFilled s g m mach made trail vars → (o : MemoryOwner s g.unit m.tree)
    → MemoryFound s g m mach made vars o.owner
memory_found s g m mach made trail vars a f o =
    let t = memory_there s (suc g.unit) mach made o.owner o.owner_tree f.together.ready (omega (arith, o.early)) o.owner_tree_is o.some in
    let r = memory_seen g.program s mach made trail o.owner t.0 f.together.agrees t.1 in
    record {
      memory = t.0;
      memory_is = t.1;
      other = r.0;
      other_is = r.1;
      agree = r.2;
      gets = memory_gets s g m.tree mach vars o r.0 f.locals.pointers_seen (pointers_set s g m mach made trail vars a f) r.1;
    }

-- an offset, in both
pub offset_of : (s : LinkedSet) (g : Seat) (m : NamedModule) (mach : state.Machine) (made : store.Store) (trail : Trail) (vars : state.Vars)
    (code : Code) → Surroundings s g m → IsFilled s g m mach made trail vars → ShapeFits type.I32 (shape_of (global_space m.tree) code)
    → OffsetFound s g m.tree mach made vars code
offset_of s g m mach made trail vars code a f fits =
    offset_found s g m.tree mach made vars code (constant_found s g m.tree mach made vars (global_space m.tree) type.I32 code fits
    (λ index is. let o = a.known.global index type.I32 is in
    global_found s g m.tree mach made trail vars index (suc g.unit) type.I32 (module_is s g.unit m a.module_is) o (omega (arith, o.early))
    f.together.agrees f.together.ready (pointers_set s g m mach made trail vars a f) f.locals.pointers_seen f.locals.globals_seen))

-- tables that agree are of one length
pub elements_length : (p : _) (s : LinkedSet) (xs : List (Option FuncAddress)) (ys : List (Option state.Element)) → ElementsAgree p s xs ys
    → length ys ≡ length xs
elements_length p s [] [] a = refl
elements_length p s (None ∷ xs) (None ∷ ys) a = ap suc (elements_length p s xs ys a)
elements_length p s (Some x ∷ xs) (Some y ∷ ys) a = ap suc (elements_length p s xs ys a.1)
elements_length p s _ _ a = absurd a
