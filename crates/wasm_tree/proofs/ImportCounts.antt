-- The imports of a kind are as many as what they bring.
use Rattle.wasm_tree.proofs.Common.{◌≡◌, cond, List, length, filter, flat_map, refl, func_of_import, global_of_import, is_func_import}
use Rattle.wasm_tree.proofs.Common.{is_global_import, is_memory_import, is_table_import, memory_of_import, table_of_import, Import}
use Rattle.wasm_tree.proofs.Common.{ImportKind, ImportFunc}
use Rattle.w2c_base.proofs.Lists.{one_each}

-- an import with another kind
abbrev pub of_kind : Import → ImportKind → Import
of_kind i kind = record { «module» = i.«module»; field = i.field; kind = kind; place = i.place }

-- the imports of a kind are as many as what they bring
pub func_count : (imports : List Import) → length (filter is_func_import imports) ≡ length (flat_map func_of_import imports)
func_count imports = one_each is_func_import func_of_import (λ i. one i i.kind) imports
  where
    one : (i : Import) (kind : ImportKind) → length (func_of_import (of_kind i kind)) ≡ cond (is_func_import (of_kind i kind)) 1 0
    one i (ImportFunc t) = refl
    one i _ = refl

pub table_count : (imports : List Import) → length (filter is_table_import imports) ≡ length (flat_map table_of_import imports)
table_count imports = one_each is_table_import table_of_import (λ i. one i i.kind) imports
  where
    one : (i : Import) (kind : ImportKind) → length (table_of_import (of_kind i kind)) ≡ cond (is_table_import (of_kind i kind)) 1 0
    one i (ImportFunc t) = refl
    one i _ = refl

pub memory_count : (imports : List Import) → length (filter is_memory_import imports) ≡ length (flat_map memory_of_import imports)
memory_count imports = one_each is_memory_import memory_of_import (λ i. one i i.kind) imports
  where
    one : (i : Import) (kind : ImportKind) → length (memory_of_import (of_kind i kind)) ≡ cond (is_memory_import (of_kind i kind)) 1 0
    one i (ImportFunc t) = refl
    one i _ = refl

pub global_count : (imports : List Import) → length (filter is_global_import imports) ≡ length (flat_map global_of_import imports)
global_count imports = one_each is_global_import global_of_import (λ i. one i i.kind) imports
  where
    one : (i : Import) (kind : ImportKind) → length (global_of_import (of_kind i kind)) ≡ cond (is_global_import (of_kind i kind)) 1 0
    one i (ImportFunc t) = refl
    one i _ = refl
