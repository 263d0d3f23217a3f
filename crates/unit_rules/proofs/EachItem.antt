-- What holds of an object, of a segment's bytes and of a declaration holds of all in their section of an accepted module's unit.
use Rattle.unit_rules.proofs.Common.{◌≡◌, ℕ, suc, ◌+◌, ◌^◌, ◌<◌, true, List, [], ◌∷◌, map, length, slice_get, Some, None, zip, flat_map}
use Rattle.unit_rules.proofs.Common.{sym, refl, subst, arith, slice_get_within, AllByRecursion, range_with_len, all_behind, all_front, Name}
use Rattle.unit_rules.proofs.Common.{all_weaker, all_append, all_at, all_flat, all_map, numbered, ValType, imported_globals, NamedModule}
use Rattle.unit_rules.proofs.Common.{is_global_import, Import, ImportKind, ImportGlobal, SegmentEntry, Module, global_name, memory_name}
use Rattle.unit_rules.proofs.Common.{table_name, pointer_name, c_type_of, CType, declared_symbols, firsts, global_imports, import_symbol}
use Rattle.unit_rules.proofs.Common.{memory_imports, pointer_type, symbol_type, table_imports, data_name, data_of, declaration, IsAccepted}
use Rattle.unit_rules.proofs.Common.{declared_type, all_images, all_pass, declarations, global_item, globals, mems, objects, pointer_item}
use Rattle.unit_rules.proofs.Common.{pointers, tabs, few_globals, few_imports, pointers_are, data_item}
use Rattle.c_tree.specs.declared.tree.CType.TheVariants as type
use Rattle.c_tree.specs.Tree as tree

-- ---- lists

pub each_from : {A : Type 0} (P : ℕ × A → Type 0) (n : ℕ) (xs : List A)
    → ((j : ℕ) (x : A) → slice_get xs j ≡ Some x → P (n + j, x)) → AllByRecursion P (zip (range_with_len n (length xs)) xs)
each_from P n [] f = tt
each_from P n (x ∷ xs) f = (
  subst (λ k. P (k, x)) (omega arith) (f 0 x refl),
  each_from P (n + 1) xs (λ j y at. subst (λ k. P (k, y)) (omega arith) (f (suc j) y at)),
)

-- what holds of each item at its place holds of the numbered items
pub each_numbered : {A : Type 0} (P : ℕ × A → Type 0) (xs : List A) → ((j : ℕ) (x : A) → slice_get xs j ≡ Some x → P (j, x))
    → AllByRecursion P (numbered xs)
each_numbered P xs f = each_from P 0 xs (λ j x at. subst (λ k. P (k, x)) (omega arith) (f j x at))

pub all_unflat : {A B : Type 0} (P : B → Type 0) (f : A → List B) (xs : List A) → AllByRecursion P (flat_map f xs)
    → AllByRecursion (λ x. AllByRecursion P (f x)) xs
all_unflat P f [] all = tt
all_unflat P f (x ∷ xs) all = (all_front P (f x) (flat_map f xs) all, all_unflat P f xs (all_behind P (f x) (flat_map f xs) all))

-- ---- objects

-- the types and names of objects
pub data IsObject : CType → Name → Type 0 where
  own_table : IsObject type.Tab table_name
  own_memory : IsObject type.Mem memory_name
  own_global : (ty : ValType) (k : ℕ) → k < 2 ^ 64 → IsObject (c_type_of ty) (global_name k)
  table_pointer : IsObject type.PtrTab (pointer_name table_name)
  memory_pointer : IsObject type.PtrMem (pointer_name memory_name)
  global_pointer : (ty : ValType) (k : ℕ) → k < 2 ^ 64 → IsObject (pointer_type ty) (pointer_name (global_name k))

module _ (m : NamedModule) (a : IsAccepted m) (P : tree.Item → Type 0) where
  abbrev t : Module
  t = m.tree

  pub each_object : ((ty : CType) (name : Name) → IsObject ty name → P (tree.Var ty name None)) → AllByRecursion P (objects m)
  each_object f =
      all_append P (tabs m) _ (all_images P _ t.tables (λ x. f type.Tab table_name own_table))
      (all_append P (mems m) _ (all_images P _ t.memories (λ x. f type.Mem memory_name own_memory))
      (all_append P (globals m) (pointers m)
      (all_map P (global_item m) (numbered t.globals) (each_numbered (λ g. P (global_item m g)) t.globals
      (λ j g at. f _ _ (own_global g.ty (imported_globals t + j)
      (omega (arith, slice_get_within t.globals j g at, few_globals m a))))))
      (subst (AllByRecursion P) (sym (pointers_are m a))
      (all_append P _ _ (all_images P _ (memory_imports t) (λ i. f type.PtrMem (pointer_name memory_name) memory_pointer))
      (all_append P _ _ (all_images P _ (table_imports t) (λ i. f type.PtrTab (pointer_name table_name) table_pointer))
      (all_map P (pointer_item m) (numbered (global_imports t)) (each_numbered (λ i. P (pointer_item m i)) (global_imports t)
      (λ j i at. of_global i j (omega (arith, slice_get_within (global_imports t) j i at, few_imports m a))
      (all_at (λ i. is_global_import i ≡ true) (global_imports t) j i (all_pass is_global_import t.imports) at)))))))))
    where
      of_global : (i : Import) (j : ℕ) → j < 2 ^ 64 → is_global_import i ≡ true → P (pointer_item m (j, i))
      of_global i j less = by i.kind
        where
          by : (kind : ImportKind) → is_global_import (record i { kind = kind }) ≡ true → P (pointer_item m (j, record i { kind = kind }))
          by (ImportGlobal ty mutable) e = f (pointer_type ty) _ (global_pointer ty j less)
          by _ e = absurd cc

  -- ---- bytes of segments

  pub each_data : ((j : ℕ) (d : SegmentEntry) → slice_get t.segments j ≡ Some d → (b : ℕ) (bytes : List ℕ) → d.bytes ≡ b ∷ bytes
      → P (tree.Array (data_name j) (length d.bytes) d.bytes))
      → AllByRecursion P (data_of t)
  each_data f = all_flat P data_item (numbered t.segments) (each_numbered (λ d. AllByRecursion P (data_item d)) t.segments
      (λ j d at. by j d d.bytes (f j d at)))
    where
      by : (j : ℕ) (d : SegmentEntry) (bs : List ℕ)
          → ((b : ℕ) (bytes : List ℕ) → bs ≡ b ∷ bytes → P (tree.Array (data_name j) (length d.bytes) d.bytes))
          → AllByRecursion P (elim bs [ [] ↦ [] | b ∷ bytes ↦ tree.Array (data_name j) (length d.bytes) d.bytes ∷ [] ])
      by j d [] f = tt
      by j d (b ∷ bytes) f = (f b bytes refl, tt)

  -- ---- declarations of symbols

  pub each_declared : (Q : Name → Type 0) → AllByRecursion Q (firsts [] (map import_symbol t.imports))
      → ((n : Name) → Q n → P (declaration (n, declared_type (symbol_type m n)))) → AllByRecursion P (declarations m)
  each_declared Q all f = all_map P declaration (declared_symbols m) (all_map _ _ (firsts [] (map import_symbol t.imports))
      (all_weaker Q _ (firsts [] (map import_symbol t.imports)) f all))
