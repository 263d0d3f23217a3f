-- The rows of faults outside the bodies, entered one behind another, are all of them.
use Rattle.wasm_typing.specs.declared.fault.ValidCause.TheVariants as cause
use Rattle.wasm_typing.specs.ModuleFaults.{module_faults, too_many, expressions, constant_expected, unknown_global, type_mismatch}
use Rattle.wasm_typing.specs.ModuleFaults.{start_faults, unknown_elements}
use Rattle.wasm_valid.proofs.Common.{◌≡◌, List, [], ◌++◌, is_none, Option, flat_map, sym, ap, ◌∙◌, flat_map-append, memory_space}
use Rattle.wasm_valid.proofs.Common.{table_space, type_in, Module, entered, duplicate_exports, fault_if, is_no_first, min_above_max}
use Rattle.wasm_valid.proofs.Common.{too_many_pages, unknown_export, unknown_import_type, Fault}
use Rattle.wasm_valid.proofs.Entered.{entered-append}

-- from what was kept before to what is kept behind these faults
pub record Enters (before : Option Fault) (faults : List Fault) (behind : Option Fault) : Type 0 where
  pub kept : behind ≡ entered before faults

infixr 5 ◌then◌
◌then◌ : {a b c : Option Fault} {xs ys : List Fault} → Enters a xs b → Enters b ys c → Enters a (xs ++ ys) c
◌then◌ {a} {b} {c} {xs} {ys} first second = record {
  kept = second.kept ∙ ap (λ found. entered found ys) first.kept ∙ sym (entered-append a xs ys);
}

both : {A : Type 0} (f : A → List Fault) (xs ys : List A) (a b : Option Fault) → Enters a (flat_map f xs ++ flat_map f ys) b
    → Enters a (flat_map f (xs ++ ys)) b
both f xs ys a b e = record { kept = e.kept ∙ ap (entered a) (sym (flat_map-append f xs ys)) }

pub all_rows : (m : Module) (a q b c d e f g h i j k l n r o p : Option Fault)
    → Enters a (flat_map (unknown_import_type m) m.imports) q
    → Enters q (flat_map (λ func. fault_if (is_none (type_in m func.type_index)) func.place cause.UnknownType) m.funcs) b
    → Enters b (too_many cause.TooManyTables (table_space m)) c
    → Enters c (too_many cause.TooManyMemories (memory_space m)) d
    → Enters d (flat_map min_above_max (table_space m)) e
    → Enters e (flat_map min_above_max (memory_space m)) f
    → Enters f (flat_map too_many_pages (memory_space m)) g
    → Enters g (flat_map constant_expected (expressions m)) h
    → Enters h (flat_map unknown_global (expressions m)) i
    → Enters i (flat_map type_mismatch (expressions m)) j
    → Enters j (flat_map (unknown_export m) m.exports) k
    → Enters k (duplicate_exports [] m.exports) l
    → Enters l (start_faults m m.start) n
    → Enters n (flat_map (λ element. fault_if (is_no_first (table_space m) element.table) element.place cause.UnknownTable) m.elements) r
    → Enters r (flat_map (λ segment. fault_if (is_no_first (memory_space m) segment.memory) segment.place cause.UnknownMemory) m.segments) o
    → Enters o (unknown_elements m) p
    → Enters a (module_faults m) p
unfolding module_faults
all_rows m a q b c d e f g h i j k l n r o p imports funcs tables memories table_sizes memory_sizes pages constants globals mismatches
    exports names start elements segments entries =
    (imports then funcs) then (tables then memories) then both min_above_max (table_space m) (memory_space m) d f
    (table_sizes then memory_sizes)
    then pages then constants then globals then mismatches then exports then names then start then (elements then segments) then entries
