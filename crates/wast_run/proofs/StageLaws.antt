-- A module that joins a set, which grows, and a call that is kept.
use Rattle.wast_run.proofs.Common.{◌≡◌, ℕ, List, [], ◌∷◌, ◌++◌, slice_get, Some, None, Option, option_map, refl, ap, ◌∙◌, none-some}
use Rattle.wast_run.proofs.Common.{AllByRecursion, Host, External, FuncAddress, HostFunc, Instance, ModuleFunc, NamedModule, as_func}
use Rattle.wast_run.proofs.Common.{exported, func_type, instance_of, instances, instances_behind, Fits, ListedCall, set_with, map, sym}
use Rattle.wast_run.proofs.Common.{subst, inl, inr, Bor, map-append, all_push, Module, IsLinked, named_of, set_of, SetModule, Call, Joins}
use Rattle.wast_run.proofs.Common.{Setting, joined, set_at, listed_call, listed_calls, IsReady, IsSound, setting_of, Stage}
use Rattle.wasm_tree.specs.IndexSpaces.{at_defined, type_in}
use Rattle.w2c_base.specs.Lookup.{if_found}
use Rattle.w2c_base.specs.declared.signature.FuncType.{FuncType}
use Rattle.w2c_base.proofs.Places.{get_front}
use Rattle.unit_meaning.proofs.Stands.{exported_more}
use Rattle.wast_run.specs.declared.word.Word.TheVariants as word

instances_more : (hosts : List Host) (earlier : List Instance) (modules : List NamedModule) (m : NamedModule)
    → instances_behind hosts earlier (modules ++ m ∷ [])
    ≡ instances_behind hosts earlier modules ++ instance_of hosts (instances_behind hosts earlier modules) m ∷ []
instances_more hosts earlier [] m = refl
instances_more hosts earlier (x ∷ modules) m = instances_more hosts (earlier ++ instance_of hosts earlier x ∷ []) modules m

-- the type of the function with an index of a module
abbrev type_by : ℕ → Option NamedModule → Option FuncType
type_by index o = if_found (option_map (λ (m : NamedModule). m.tree) o) (λ m. if_found (at_defined m m.funcs index) (λ f.
    if_found (option_map (λ (m : NamedModule). m.tree) o) (λ m. type_in m f.type_index)))

func_type_more : (modules : List NamedModule) (m : NamedModule) (f : FuncAddress) (ty : FuncType)
    → func_type (set_with modules) f ≡ Some ty → func_type (set_with (modules ++ m ∷ [])) f ≡ Some ty
func_type_more modules m (HostFunc h f) ty is = is
func_type_more modules m (ModuleFunc p index) ty is = by (slice_get modules p) refl is
  where
    by : (o : Option NamedModule) → slice_get modules p ≡ o → type_by index o ≡ Some ty
        → type_by index (slice_get (modules ++ m ∷ []) p) ≡ Some ty
    by None found is = absurd (none-some ty is)
    by (Some x) found is = ap (type_by index) (get_front modules (m ∷ []) p x found) ∙ is

func_more : (o : Option External) (f : FuncAddress) → if_found o as_func ≡ Some f → (e : External) × (o ≡ Some e) × (as_func e ≡ Some f)
func_more None f is = absurd (none-some f is)
func_more (Some e) f is = (e, refl, is)

pub fits_more : (modules : List NamedModule) (m : NamedModule) (c : ListedCall)
    → Fits (set_with modules) c → Fits (set_with (modules ++ m ∷ [])) c
fits_more modules m c (f, ty, called, typed, params, numbers) =
    let e = func_more (exported (instances (set_with modules)) c.module_name c.export_name) f called in
    let all = instances (set_with modules) in
    let found = exported_more all (instance_of [] all m ∷ []) c.module_name c.export_name e.0 e.1 in
    let there = ap (λ all. exported all c.module_name c.export_name) (instances_more [] [] modules m) ∙ found in
    (f, ty, ap (λ o. if_found o as_func) there ∙ e.2, func_type_more modules m f ty typed, params, numbers)

pub all_fit_more : (modules : List NamedModule) (m : NamedModule) (calls : List ListedCall)
    → AllByRecursion (Fits (set_with modules)) calls → AllByRecursion (Fits (set_with (modules ++ m ∷ []))) calls
all_fit_more modules m [] all = tt
all_fit_more modules m (c ∷ calls) all = (fits_more modules m c all.0, all_fit_more modules m calls all.1)

abbrev pub at_with : List SetModule → List ListedCall → Setting
at_with set kept = record { modules = map named_of set; kept = kept }

-- a module joins a set, under a copy of its name
module _ (set : List SetModule) (kept : List ListedCall) (name copy : List ℕ) (tree : Module) (same : copy ≡ name) where
  abbrev set_more : List SetModule
  set_more = set ++ record { name = copy; «module» = tree } ∷ []

  modules_more : map named_of set_more ≡ map named_of set ++ record { name = name; tree = tree } ∷ []
  modules_more =
      map-append named_of set (record { name = copy; «module» = tree } ∷ [])
      ∙ ap (λ n. map named_of set ++ record { name = n; tree = tree } ∷ []) same

  linked_more : IsLinked (set_of set_more) → IsLinked (set_at (joined (at_with set kept) name tree))
  linked_more linked = subst (λ modules. IsLinked (set_with modules)) modules_more linked

  joined_is : (new : List SetModule) → new ≡ set_more → at_with new kept ≡ joined (at_with set kept) name tree
  joined_is new is = ap (λ modules. record { modules = modules; kept = kept }) (ap (map named_of) is ∙ modules_more)

  pub joins_set : (new : List SetModule) → new ≡ set_more → IsLinked (set_of set_more)
      → Joins (at_with set kept) name (Some tree) word.Ok (at_with new kept)
  joins_set new is linked = inl (linked_more linked, (refl, joined_is new is))

  pub joins_not : (new : List SetModule) → new ≡ set → (IsLinked (set_of set_more) → ⊥)
      → Joins (at_with set kept) name (Some tree) word.Unlinked (at_with new kept)
  joins_not new is not =
      let same = ap (λ modules. at_with modules kept) is in
      inr (λ linked. not (subst (λ modules. IsLinked (set_with modules)) (sym modules_more) linked), (refl, same))

  pub ready_more : (new : List SetModule) → new ≡ set_more → IsLinked (set_of set_more)
      → IsReady (at_with set kept) → IsReady (at_with new kept)
  ready_more new is linked ready =
      subst IsReady (sym (joined_is new is)) (record {
        linked = linked_more linked;
        fit = all_fit_more (map named_of set) (record { name = name; tree = tree }) kept ready.fit;
      })

-- one call more is kept
module _ (modules : List NamedModule) (kept new : List (Bor Call)) (call : Bor Call) (is : new ≡ kept ++ call ∷ []) where
  pub kept_more : listed_calls new ≡ listed_calls kept ++ listed_call call.now ∷ []
  kept_more = ap listed_calls is ∙ map-append (λ (c : Bor Call). listed_call c.now) kept (call ∷ [])

  pub ready_kept : Fits (set_with modules) (listed_call call.now) → IsReady (record { modules = modules; kept = listed_calls kept })
      → IsReady (record { modules = modules; kept = listed_calls new })
  ready_kept fits ready =
      subst (λ calls. IsReady (record { modules = modules; kept = calls })) (sym kept_more) (record {
        linked = ready.linked;
        fit = all_push (Fits (set_with modules)) (listed_calls kept) (listed_call call.now) ready.fit fits;
      })

-- the stage is sound behind a call that is kept, and behind a run
pub sound_kept : (stage after : Stage) (call : Bor Call) → after.joined ≡ stage.joined → after.kept.items ≡ stage.kept.items ++ call ∷ []
    → Fits (set_at (setting_of stage)) (listed_call call.now) → IsSound stage → IsSound after
sound_kept stage after call same more fits sound =
    subst IsSound (λ i. record { joined = (sym same) i; kept = after.kept }) (record {
      ready = ready_kept (setting_of stage).modules stage.kept.items after.kept.items call more fits sound.ready;
      units = sound.units;
    })
