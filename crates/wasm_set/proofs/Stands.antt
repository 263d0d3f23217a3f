-- What each index of a module stands for in a set has the type that the module's own index space says.
use Rattle.wasm_set.proofs.Common.{◌≡◌, ℕ, suc, ◌+◌, ◌-◌, Bool, true, false, List, [], ◌∷◌, map, length, replicate, if◌then◌else◌, nat_lt}
use Rattle.wasm_set.proofs.Common.{slice_get, Some, None, Option, option_map, flat_map, bytes_eq, sym, refl, ap, ◌∙◌, subst, arith}
use Rattle.wasm_set.proofs.Common.{nat_tests, AllByRecursion, range_with_len, ⊤, at_index, if_found, named, ValType, at_defined}
use Rattle.wasm_set.proofs.Common.{func_of_import, func_space, global_of_import, global_space, imported_funcs, is_func_import}
use Rattle.wasm_set.proofs.Common.{is_global_import, is_memory_import, is_table_import, memory_of_import, memory_space, table_of_import}
use Rattle.wasm_set.proofs.Common.{table_space, type_in, Export, FuncEntry, GlobalEntry, Import, ImportKind, ImportFunc, ImportGlobal}
use Rattle.wasm_set.proofs.Common.{ImportMemory, ImportTable, Module, External, FuncAddress, GlobalAddress, IsFunc, IsGlobal, IsMemory}
use Rattle.wasm_set.proofs.Common.{IsTable, LinkedSet, ModuleFunc, Resolves, as_func, as_global, as_memory, as_table, export_of, func_type}
use Rattle.wasm_set.proofs.Common.{global_type, import_at, imports_of, module_at, spaces_of, type_at, offer_of, offered, Offer, Func}
use Rattle.wasm_set.proofs.Common.{Global, Memory, Table}
use Rattle.wasm_tree.specs.declared.entries.Limits.{Limits}
use Rattle.wasm_tree.specs.declared.entries.LimitsEntry.{LimitsEntry}
use Rattle.wasm_tree.specs.declared.entries.ExportKind.{ExportKind}
use Rattle.wasm_tree.specs.declared.entries.ExportKind.TheVariants.{Func as ExportFunc, Table as ExportTable, Memory as ExportMemory}
use Rattle.wasm_tree.specs.declared.entries.ExportKind.TheVariants.{Global as ExportGlobal}
use Rattle.wasm_set.proofs.Pairs.{Together, Both, together_append, together_at}

-- an import with another kind
abbrev pub of_kind : Import → ImportKind → Import
of_kind i k = record { «module» = i.«module»; field = i.field; kind = k; place = i.place }

-- an index and what it stands for, by kind
abbrev FuncStands : LinkedSet → Module → Option FuncAddress → ℕ → Type 0
FuncStands s m o u = (f : FuncAddress) × (o ≡ Some f) × (func_type s f ≡ type_in m u)

abbrev LimitsStand : Option ℕ → Limits → Type 0
LimitsStand o limits = (owner : ℕ) × (o ≡ Some owner)

abbrev GlobalStands : LinkedSet → Option GlobalAddress → ValType × Bool → Type 0
GlobalStands s o ty = (g : GlobalAddress) × (o ≡ Some g) × (global_type s g ≡ Some ty)

-- what stands under an export's name is what the module offers
abbrev pub Stands : LinkedSet → Module → Option External → Option Offer → Type 0
Stands s m None None = ⊤
Stands s m (Some (IsFunc f)) (Some (Func u)) = func_type s f ≡ type_in m u
Stands s m (Some (IsTable owner)) (Some Table) = ⊤
Stands s m (Some (IsMemory owner)) (Some Memory) = ⊤
Stands s m (Some (IsGlobal g)) (Some (Global ty mutable)) = global_type s g ≡ Some (ty, mutable)
Stands s m _ _ = ⊥

pub type_at_is : (s : LinkedSet) (p : ℕ) (m : Module) → module_at s p ≡ Some m → (t : ℕ) → type_at s p t ≡ type_in m t
type_at_is s p m is t = ap (λ (o : Option Module). if_found o (λ m. type_in m t)) is

-- ---- imports

import_funcs : (s : LinkedSet) (p : ℕ) (m : Module) → module_at s p ≡ Some m → (imports : List Import)
    → AllByRecursion (Resolves s p) imports
    → Together (FuncStands s m) (imports_of is_func_import as_func (import_at s p) imports) (flat_map func_of_import imports)
import_funcs s p m is [] all = tt
import_funcs s p m is (i ∷ imports) all = by i.kind all.0 (import_funcs s p m is imports all.1)
  where
    by : (k : ImportKind) → Resolves s p (of_kind i k)
        → Together (FuncStands s m) (imports_of is_func_import as_func (import_at s p) imports) (flat_map func_of_import imports)
        → Together (FuncStands s m) (imports_of is_func_import as_func (import_at s p) (of_kind i k ∷ imports))
        (flat_map func_of_import (of_kind i k ∷ imports))
    by (ImportFunc t) r others =
        ((r.0, ap (λ (o : Option External). if_found o as_func) r.2, r.4 ∙ sym r.3 ∙ type_at_is s p m is t), others)
    by _ r others = others

import_tables : (s : LinkedSet) (p : ℕ) (imports : List Import) → AllByRecursion (Resolves s p) imports
    → Together LimitsStand (imports_of is_table_import as_table (import_at s p) imports) (flat_map table_of_import imports)
import_tables s p [] all = tt
import_tables s p (i ∷ imports) all = by i.kind all.0 (import_tables s p imports all.1)
  where
    by : (k : ImportKind) → Resolves s p (of_kind i k)
        → Together LimitsStand (imports_of is_table_import as_table (import_at s p) imports) (flat_map table_of_import imports)
        → Together LimitsStand (imports_of is_table_import as_table (import_at s p) (of_kind i k ∷ imports))
        (flat_map table_of_import (of_kind i k ∷ imports))
    by (ImportTable limits) r others = ((r.0, ap (λ (o : Option External). if_found o as_table) r.1), others)
    by _ r others = others

import_memories : (s : LinkedSet) (p : ℕ) (imports : List Import) → AllByRecursion (Resolves s p) imports
    → Together LimitsStand (imports_of is_memory_import as_memory (import_at s p) imports) (flat_map memory_of_import imports)
import_memories s p [] all = tt
import_memories s p (i ∷ imports) all = by i.kind all.0 (import_memories s p imports all.1)
  where
    by : (k : ImportKind) → Resolves s p (of_kind i k)
        → Together LimitsStand (imports_of is_memory_import as_memory (import_at s p) imports) (flat_map memory_of_import imports)
        → Together LimitsStand (imports_of is_memory_import as_memory (import_at s p) (of_kind i k ∷ imports))
        (flat_map memory_of_import (of_kind i k ∷ imports))
    by (ImportMemory limits) r others = ((r.0, ap (λ (o : Option External). if_found o as_memory) r.1), others)
    by _ r others = others

import_globals : (s : LinkedSet) (p : ℕ) (imports : List Import) → AllByRecursion (Resolves s p) imports
    → Together (GlobalStands s) (imports_of is_global_import as_global (import_at s p) imports) (flat_map global_of_import imports)
import_globals s p [] all = tt
import_globals s p (i ∷ imports) all = by i.kind all.0 (import_globals s p imports all.1)
  where
    by : (k : ImportKind) → Resolves s p (of_kind i k)
        → Together (GlobalStands s) (imports_of is_global_import as_global (import_at s p) imports) (flat_map global_of_import imports)
        → Together (GlobalStands s) (imports_of is_global_import as_global (import_at s p) (of_kind i k ∷ imports))
        (flat_map global_of_import (of_kind i k ∷ imports))
    by (ImportGlobal ty mutable) r others = ((r.0, ap (λ (o : Option External). if_found o as_global) r.1, r.2), others)
    by _ r others = others

-- ---- what a module defines

-- the function with an index behind the imports
behind_imports : (m : Module) (j : ℕ) → at_defined m m.funcs (imported_funcs m + j) ≡ slice_get m.funcs j
behind_imports m j =
    let behind : nat_lt (imported_funcs m + j) (imported_funcs m) ≡ false = grind (arith, nat_tests) in
    let number : imported_funcs m + j - imported_funcs m ≡ j = omega arith in
    rw behind (ap (slice_get m.funcs) number)

own_funcs : (s : LinkedSet) (p : ℕ) (m : Module) → module_at s p ≡ Some m → (start : ℕ) (rest : List FuncEntry)
    → ((j : ℕ) → at_defined m m.funcs (start + j) ≡ slice_get rest j)
    → Together (FuncStands s m) (map (λ k. Some (ModuleFunc p k)) (range_with_len start (length rest))) (map (λ f. f.type_index) rest)
own_funcs s p m is start [] all = tt
own_funcs s p m is start (f ∷ rest) all = (
  (ModuleFunc p start, refl, its_type),
  own_funcs s p m is (start + 1) rest (λ j. let e : start + 1 + j ≡ start + suc j = omega arith in
      ap (at_defined m m.funcs) e ∙ all (suc j)),
)
  where
    here : at_defined m m.funcs start ≡ Some f
    here = let e : start ≡ start + 0 = omega arith in ap (at_defined m m.funcs) e ∙ all 0

    its_type : func_type s (ModuleFunc p start) ≡ type_in m f.type_index
    its_type =
        ap (λ (o : Option Module). if_found o (λ m.
        if_found (at_defined m m.funcs start) (λ f. if_found o (λ m. type_in m f.type_index)))) is
        ∙ ap (λ (o : Option FuncEntry). if_found o (λ f. type_in m f.type_index)) here

own_limits : (p : ℕ) (entries : List LimitsEntry)
    → Together LimitsStand (replicate (length entries) (Some p)) (map (λ t. t.limits) entries)
own_limits p [] = tt
own_limits p (e ∷ entries) = ((p, refl), own_limits p entries)

own_globals : (s : LinkedSet) (p : ℕ) (m : Module) → module_at s p ≡ Some m → (start : ℕ) (rest : List GlobalEntry)
    → ((j : ℕ) → slice_get m.globals (start + j) ≡ slice_get rest j)
    → Together (GlobalStands s) (map (λ k. Some (record { owner = p; number = k })) (range_with_len start (length rest)))
    (map (λ g. (g.ty, g.mutable)) rest)
own_globals s p m is start [] all = tt
own_globals s p m is start (g ∷ rest) all = (
  (record { owner = p; number = start }, refl, its_type),
  own_globals s p m is (start + 1) rest (λ j. let e : start + 1 + j ≡ start + suc j = omega arith in
      ap (slice_get m.globals) e ∙ all (suc j)),
)
  where
    here : slice_get m.globals start ≡ Some g
    here = let e : start ≡ start + 0 = omega arith in ap (slice_get m.globals) e ∙ all 0

    its_type : global_type s (record { owner = p; number = start }) ≡ Some (g.ty, g.mutable)
    its_type =
        ap (λ (o : Option Module). if_found o (λ m. option_map (λ (e : GlobalEntry). (e.ty, e.mutable)) (slice_get m.globals start))) is
        ∙ ap (option_map (λ (e : GlobalEntry). (e.ty, e.mutable))) here

-- ---- exports

-- the module with a number, of which each import resolves
pub export_stands : (s : LinkedSet) (p : ℕ) (m : Module) → module_at s p ≡ Some m → AllByRecursion (Resolves s p) m.imports
    → (e : Export) → Stands s m (export_of (spaces_of (import_at s p) p m) e).1 (offer_of m e)
export_stands s p m is all e = by e.kind
  where
    func : (o : Option (Option FuncAddress)) (u : Option ℕ) → Both (FuncStands s m) o u
        → Stands s m (option_map IsFunc (if_found o (λ entry. entry))) (option_map Func u)
    func None None h = tt
    func (Some o) (Some u) h = subst (λ (o : Option FuncAddress). Stands s m (option_map IsFunc o) (Some (Func u))) (sym h.1) h.2
    func None (Some u) h = absurd h
    func (Some o) None h = absurd h

    table : (o : Option (Option ℕ)) (l : Option Limits) → Both LimitsStand o l
        → Stands s m (option_map IsTable (if_found o (λ entry. entry))) (option_map (λ limits. Table) l)
    table None None h = tt
    table (Some o) (Some l) h = subst (λ (o : Option ℕ). Stands s m (option_map IsTable o) (Some Table)) (sym h.1) tt
    table None (Some l) h = absurd h
    table (Some o) None h = absurd h

    memory : (o : Option (Option ℕ)) (l : Option Limits) → Both LimitsStand o l
        → Stands s m (option_map IsMemory (if_found o (λ entry. entry))) (option_map (λ limits. Memory) l)
    memory None None h = tt
    memory (Some o) (Some l) h = subst (λ (o : Option ℕ). Stands s m (option_map IsMemory o) (Some Memory)) (sym h.1) tt
    memory None (Some l) h = absurd h
    memory (Some o) None h = absurd h

    global : (o : Option (Option GlobalAddress)) (t : Option (ValType × Bool)) → Both (GlobalStands s) o t
        → Stands s m (option_map IsGlobal (if_found o (λ entry. entry))) (option_map (λ g. Global g.0 g.1) t)
    global None None h = tt
    global (Some o) (Some t) h =
        subst (λ (o : Option GlobalAddress). Stands s m (option_map IsGlobal o) (Some (Global t.0 t.1))) (sym h.1) h.2
    global None (Some t) h = absurd h
    global (Some o) None h = absurd h

    by : (k : ExportKind) → Stands s m
        (elim k [
          | ExportFunc ↦ option_map IsFunc (at_index (spaces_of (import_at s p) p m).funcs e.index)
          | ExportTable ↦ option_map IsTable (at_index (spaces_of (import_at s p) p m).tables e.index)
          | ExportMemory ↦ option_map IsMemory (at_index (spaces_of (import_at s p) p m).memories e.index)
          | ExportGlobal ↦ option_map IsGlobal (at_index (spaces_of (import_at s p) p m).globals e.index)
        ])
        (elim k [
          | ExportFunc ↦ option_map Func (slice_get (func_space m) e.index)
          | ExportTable ↦ option_map (λ limits. Table) (slice_get (table_space m) e.index)
          | ExportMemory ↦ option_map (λ limits. Memory) (slice_get (memory_space m) e.index)
          | ExportGlobal ↦ option_map (λ g. Global g.0 g.1) (slice_get (global_space m) e.index)
        ])
    by ExportFunc = func _ _ (together_at (FuncStands s m) _ _
        (together_append (FuncStands s m) _ _ _ _ (import_funcs s p m is m.imports all)
        (own_funcs s p m is (imported_funcs m) m.funcs (behind_imports m))) e.index)
    by ExportTable = table _ _ (together_at LimitsStand _ _
        (together_append LimitsStand _ _ _ _ (import_tables s p m.imports all) (own_limits p m.tables)) e.index)
    by ExportMemory = memory _ _ (together_at LimitsStand _ _
        (together_append LimitsStand _ _ _ _ (import_memories s p m.imports all) (own_limits p m.memories)) e.index)
    by ExportGlobal = global _ _ (together_at (GlobalStands s) _ _
        (together_append (GlobalStands s) _ _ _ _ (import_globals s p m.imports all)
        (own_globals s p m is 0 m.globals (λ j. let e : 0 + j ≡ j = omega arith in ap (slice_get m.globals) e))) e.index)

-- what stands under a name
pub name_stands : (s : LinkedSet) (p : ℕ) (m : Module) → module_at s p ≡ Some m → AllByRecursion (Resolves s p) m.imports
    → (name : List ℕ) → Stands s m
    (if_found (named name (map (export_of (spaces_of (import_at s p) p m)) m.exports)) (λ e. e)) (offered m name)
name_stands s p m is all name = go m.exports
  where
    go : (exports : List Export) → Stands s m
        (if_found (named name (map (export_of (spaces_of (import_at s p) p m)) exports)) (λ e. e))
        (if_found (named name (map (λ e. (e.name, offer_of m e)) exports)) (λ offer. offer))
    go [] = tt
    go (e ∷ exports) = by (bytes_eq e.name name) (go exports)
      where
        by : (b : Bool) → Stands s m
            (if_found (named name (map (export_of (spaces_of (import_at s p) p m)) exports)) (λ e. e))
            (if_found (named name (map (λ e. (e.name, offer_of m e)) exports)) (λ offer. offer))
            → Stands s m
            (if_found (if b then Some (export_of (spaces_of (import_at s p) p m) e).1
            else named name (map (export_of (spaces_of (import_at s p) p m)) exports)) (λ e. e))
            (if_found (if b then Some (offer_of m e) else named name (map (λ e. (e.name, offer_of m e)) exports)) (λ offer. offer))
        by true others = export_stands s p m is all e
        by false others = others
