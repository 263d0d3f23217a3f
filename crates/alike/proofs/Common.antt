-- What proofs of this crate cite of std, of the crates below and of specs/, passed on from one place. Declares nothing.
pub use Rattle.std.proofs.Common.{◌≡◌, ℕ, zero, suc, ◌+◌, ◌^◌, ◌<◌, true, ◌≢◌, List, [], ◌∷◌, length, is_some, slice_get, slice_set, Some}
pub use Rattle.std.proofs.Common.{None, Option, sym, refl, ap, ◌∙◌, subst, arith, Bool, false, ◌||◌, IsSome, option_map}
pub use Rattle.std.proofs.lemmas.Option.{none-some, same_Some, slice_get_within}
pub use Rattle.std.specs.List.{AllByRecursion}
pub use Rattle.std.proofs.lemmas.Fmt.{decimal_injective}
pub use Rattle.w2c_base.proofs.OfEach.{all_at}
pub use Rattle.w2c_base.specs.Lookup.{if_found, named, with_named}
pub use Rattle.w2c_base.specs.Run.{Trail}
pub use Rattle.w2c_base.specs.Values.{IsNumber, type_of, types_of}
pub use Rattle.w2c_base.specs.declared.value.Value.{Value}
pub use Rattle.w2c_base.proofs.Lists.{all_set, unseen, still_there, still_all}
pub use Rattle.w2c_base.specs.declared.value.ValType.{ValType}
pub use Rattle.wasm_tree.specs.declared.tree.Module.{Module}
pub use Rattle.wasm_tree.specs.NamedModule.{NamedModule}
pub use Rattle.c_tree.specs.DefinedNames.{global_name, memory_name, table_name, pointer_name}
pub use Rattle.c_tree.proofs.NameClasses.{tail}
pub use Rattle.wasm_meaning.specs.LinkedSet.{GlobalAddress, LinkedSet, module_at}
pub use Rattle.c_meaning.proofs.Lookups.{named-with_another, named-with_named}
pub use Rattle.c_meaning.specs.Linking.{Program}
pub use Rattle.alike.specs.Alike.{GlobalsAlike, first_global}
pub use Rattle.alike.specs.Agree.{Agrees, IsCallableIfAny, IsMade, MemoriesAgree, MemoryAgrees, ObjectsAgree, PointersAreSet, StoresAgree}
pub use Rattle.alike.specs.Agree.{TableAgrees, TablesAgree}
pub use Rattle.alike.specs.CallsFollow.{Together}
pub use Rattle.alike.specs.Objects.{global_object, memory_object, table_object}
