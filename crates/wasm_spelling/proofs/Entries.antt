-- The entries of sections.
use Rattle.wasm_spelling.proofs.Common.{◌≡◌, ℕ, Bool, List, [], ◌∷◌, Ok, Result, sym, refl, ap, ◌∙◌, subst, ValType, Import, ImportKind, At}
use Rattle.wasm_spelling.proofs.Common.{Fields, byte, here, number, export_code, mutability_code, Reader, done, reads, index, of_indexes}
use Rattle.wasm_spelling.proofs.Common.{of_segments, parts_of, ReadFault}
use Rattle.wasm_tree.specs.declared.entries.ImportKind.TheVariants as imported
use Rattle.wasm_tree.specs.declared.entries.ExportKind.{ExportKind}
use Rattle.wasm_tree.specs.declared.entries.ExportKind.TheVariants as kind
use Rattle.wasm_spelling.specs.ModuleFields as of
use Rattle.wasm_spelling.specs.Table as table
use Rattle.wasm_spelling.specs.Table.{of_types, of_imports, of_tables, of_memories, of_globals, of_exports, of_elements, import_fields, row}
use Rattle.wasm_spelling.specs.Reading.{kind_at, place_at, vector_at, type_entry_at, import_kind_at, import_at, func_entry_at}
use Rattle.wasm_spelling.specs.Reading.{table_entry_at, memory_entry_at, global_entry_at, export_entry_at, start_at, func_ref_at}
use Rattle.wasm_spelling.specs.Reading.{element_entry_at, segment_entry_at}
use Rattle.wasm_spelling.proofs.Tools.{ok_is, reads_ok, reads_again}
use Rattle.wasm_spelling.proofs.Took.{SpelledAt, Took, took_as, took_then, first_taken, first_again}
use Rattle.wasm_spelling.proofs.Runs.{Follows, FollowsTo, follows_row, follows_from, follows_both}
use Rattle.wasm_spelling.proofs.Readings.{Reads, ReadsAs, Rest, then_done, onto, next, made, entry, in_order, in_order_as}
use Rattle.wasm_spelling.proofs.Leaves.{number_spelling, index_reads, place_reads, type_reads, mutability_reads, kind_reads, name_reads}
use Rattle.wasm_spelling.proofs.Leaves.{counted_bytes_reads}
use Rattle.wasm_spelling.proofs.Vectors.{vector_reads}
use Rattle.wasm_spelling.proofs.Types.{func_type_reads, table_type_reads, memory_type_reads}
use Rattle.wasm_spelling.proofs.CodeFollows.{expression_reads}

pub type_entry_reads : Reads type_entry_at of.type_entry (parts_of of_types)
unfolding type_entry_at
type_entry_reads =
    in_order (next _ (λ v. v.place) place_reads (next _ (λ v. v.ty) func_type_reads (entry (λ x. refl) (λ v. refl))))

pub func_entry_reads : Reads func_entry_at of.func_entry (index ∷ [])
unfolding func_entry_at
func_entry_reads =
    in_order (next _ (λ v. v.place) place_reads (next _ (λ v. v.type_index) index_reads (entry (λ x. refl) (λ v. refl))))

table_entry_reads : Reads table_entry_at of.table_entry (parts_of of_tables)
unfolding table_entry_at
table_entry_reads =
    in_order (next _ (λ v. v.place) place_reads (next _ (λ v. v.limits) table_type_reads (entry (λ x. refl) (λ v. refl))))

memory_entry_reads : Reads memory_entry_at of.memory_entry (parts_of of_memories)
unfolding memory_entry_at
memory_entry_reads =
    in_order (next _ (λ v. v.place) place_reads (next _ (λ v. v.limits) memory_type_reads (entry (λ x. refl) (λ v. refl))))

global_entry_reads : Reads global_entry_at of.global_entry (parts_of of_globals)
unfolding global_entry_at
global_entry_reads =
    in_order (next _ (λ v. v.ty) type_reads (next _ (λ v. v.mutable) mutability_reads (next _ (λ v. v.place) place_reads
    (next _ (λ v. v.code) expression_reads (entry (λ x. refl) (λ v. refl))))))

export_entry_reads : Reads export_entry_at of.export_entry (parts_of of_exports)
unfolding export_entry_at
export_entry_reads =
    in_order (next _ (λ v. v.name_place) place_reads (next _ (λ v. v.name) name_reads (next _ (λ v. v.kind) kind_reads
    (next _ (λ v. v.index_place) place_reads (next _ (λ v. v.index) index_reads (entry (λ x. refl) (λ v. refl)))))))

pub start_reads : Reads start_at of.start_entry (index ∷ [])
unfolding start_at
start_reads = in_order (next _ (λ v. v.place) place_reads (next _ (λ v. v.index) index_reads (entry (λ x. refl) (λ v. refl))))

func_ref_reads : Reads func_ref_at of.func_ref (index ∷ [])
unfolding func_ref_at
func_ref_reads = in_order (next _ (λ v. v.place) place_reads (next _ (λ v. v.index) index_reads (entry (λ x. refl) (λ v. refl))))

func_refs_reads : Reads (vector_at of_indexes func_ref_at) (of.vector of.func_ref) (table.vector of_indexes ∷ [])
func_refs_reads = vector_reads of_indexes number_spelling func_ref_reads

element_entry_reads : Reads element_entry_at of.element_entry (parts_of of_elements)
unfolding element_entry_at
element_entry_reads =
    in_order (next _ (λ v. v.place) place_reads (next _ (λ v. v.table) index_reads (next _ (λ v. v.offset_place) place_reads
    (next _ (λ v. v.offset) expression_reads (next _ (λ v. v.funcs) func_refs_reads (entry (λ x. refl) (λ v. refl)))))))

pub segment_entry_reads : Reads segment_entry_at of.segment_entry (parts_of of_segments)
unfolding segment_entry_at
segment_entry_reads =
    in_order (next _ (λ v. v.place) place_reads (next _ (λ v. v.memory) index_reads (next _ (λ v. v.offset_place) place_reads
    (next _ (λ v. v.offset) expression_reads (next _ (λ v. v.bytes) counted_bytes_reads (entry (λ x. refl) (λ v. refl)))))))

-- ---- imports

abbrev kind_of_import : ImportKind → ExportKind
kind_of_import (imported.Func n) = kind.Func
kind_of_import (imported.Table l) = kind.Table
kind_of_import (imported.Memory l) = kind.Memory
kind_of_import (imported.Global ty mutable) = kind.Global

-- what stands behind the kind
abbrev imported_fields : ImportKind → Fields → Fields
imported_fields (imported.Func n) rest = number n rest
imported_fields (imported.Table l) rest = of.table_type l rest
imported_fields (imported.Memory l) rest = of.memory_type l rest
imported_fields (imported.Global ty mutable) rest = of.value_type ty (byte (mutability_code mutable) rest)

import_kind_is : (k : ImportKind) (place : ℕ) (rest : Fields)
    → of.import_kind k place rest ≡ byte (export_code (kind_of_import k)) (here place (imported_fields k rest))
import_kind_is (imported.Func n) place rest = refl
import_kind_is _ place rest = refl

abbrev global_of : ValType × Bool → ImportKind
global_of v = imported.Global v.0 v.1

global_import : ReadsAs global_of (import_kind_at kind.Global) (λ v rest. of.value_type v.0 (byte (mutability_code v.1) rest))
    (table.value_type ∷ table.mutability ∷ [])
unfolding import_kind_at
global_import =
    in_order_as (next _ (λ v. v.0) type_reads (next _ (λ v. v.1) mutability_reads
    (made (λ x. (x.0.1, x.1)) (λ x. refl) (λ x. refl) (λ v. refl))))

abbrev KindTaken : ExportKind → At → At → ImportKind → Type 0
KindTaken k a b v = Took a (imported_fields v) b × (kind_of_import v ≡ k)

import_kind_takes : (k : ExportKind) (a : At) (v : ImportKind) (b : At) → import_kind_at k a ≡ Ok (v, b) → KindTaken k a b v
unfolding import_kind_at
import_kind_takes kind.Func a v b e =
    let t = (onto imported.Func index_reads).takes a v b e in subst (KindTaken kind.Func a b) t.2 (t.1, refl)
import_kind_takes kind.Table a v b e =
    let t = (onto imported.Table table_type_reads).takes a v b e in subst (KindTaken kind.Table a b) t.2 (t.1, refl)
import_kind_takes kind.Memory a v b e =
    let t = (onto imported.Memory memory_type_reads).takes a v b e in subst (KindTaken kind.Memory a b) t.2 (t.1, refl)
import_kind_takes kind.Global a v b e = let t = global_import.takes a v b e in subst (KindTaken kind.Global a b) t.2 (t.1, refl)

import_kind_again : (a : At) (v : ImportKind) (rest : Fields) → SpelledAt (imported_fields v rest) a
    → (b : At) × (import_kind_at (kind_of_import v) a ≡ Ok (v, b)) × SpelledAt rest b
unfolding import_kind_at
import_kind_again a (imported.Func n) rest s = (onto imported.Func index_reads).again a n rest s
import_kind_again a (imported.Table l) rest s = (onto imported.Table table_type_reads).again a l rest s
import_kind_again a (imported.Memory l) rest s = (onto imported.Memory memory_type_reads).again a l rest s
import_kind_again a (imported.Global ty m) rest s = global_import.again a (ty, m) rest s

import_kind_follows : (k : ExportKind) → Follows (import_fields k) (import_kind_at k)
unfolding import_kind_at
import_kind_follows kind.Func = (onto imported.Func index_reads).follows
import_kind_follows kind.Table = (onto imported.Table table_type_reads).follows
import_kind_follows kind.Memory = (onto imported.Memory memory_type_reads).follows
import_kind_follows kind.Global = global_import.follows

import_kind_leaves : FollowsTo (table.import_kind ∷ []) import_fields kind_at
unfolding row kind_at
import_kind_leaves = follows_row table.import_kind kind_at import_fields (λ a outer fields. refl)

abbrev made_import : List ℕ × List ℕ → ℕ → ImportKind → Import
made_import names place kind = record { «module» = names.0; field = names.1; kind = kind; place = place }

-- from the kind on
abbrev from_kind : List ℕ × List ℕ → Reader Import
from_kind names = reads kind_at (λ k. reads place_at (λ place. reads (import_kind_at k) (λ kind. done (made_import names place kind))))

from_kind_reads : Rest {V = Import} {B = Import} (λ v. v) (λ v. ((tt, v.«module»), v.field))
    (λ (x : (Unit {0} × List ℕ) × List ℕ). from_kind (x.0.1, x.1)) (λ c v. of.import_kind v.kind v.place) (λ v c. c)
    (λ more. table.import_kind ∷ more)
from_kind_reads = record {
  takes = λ x a w b e.
      first_taken _ _ (λ k. byte (export_code k)) kind_reads.takes a (w, b) e (λ k b2 t2 e2.
      first_taken _ _ here place_reads.takes b2 (w, b) e2 (λ p b3 t3 e3.
      let y = reads_ok (import_kind_at k) _ b3 (w, b) e3 in
      finish x a w b k b2 t2 p b3 t3 y.0 y.1 (import_kind_takes k b3 y.0 y.1 y.2) y.3));
  again = λ a v rest s.
      first_again _ (λ k. byte (export_code k)) kind_reads.again a (kind_of_import v.kind) (here v.place (imported_fields v.kind rest))
      (subst (λ f. SpelledAt f a) (import_kind_is v.kind v.place rest) s) (λ b2 e2 s2.
      first_again _ here place_reads.again b2 v.place (imported_fields v.kind rest) s2 (λ b3 e3 s3.
      let y = import_kind_again b3 v.kind rest s3 in (
        y.0,
        reads_again _ _ a (kind_of_import v.kind)
            b2 _ e2 (reads_again _ _ b2 v.place b3 _ e3 (reads_again _ _ b3 v.kind y.0 _ y.1 refl)),
        y.2,
      )));
  follows = λ x. follows_from (table.import_kind ∷ []) import_fields _ _ import_kind_leaves (behind (x.0.1, x.1));
}
  where
    finish : (x : (Unit {0} × List ℕ) × List ℕ) (a : At) (w : Import) (b : At) (k : ExportKind) (b2 : At) → Took a (byte (export_code k)) b2
        → (p : ℕ) (b3 : At) → Took b2 (here p) b3 → (i : ImportKind) (c : At) → KindTaken k b3 c i
        → ◌≡◌ {A = Result (Import × At) ReadFault} (Ok (made_import (x.0.1, x.1) p i, c)) (Ok (w, b))
        → (v : Import) × Took a (of.import_kind v.kind v.place) b × (((tt, v.«module»), v.field) ≡ x) × (v ≡ w)
    finish x a w b k b2 t2 p b3 t3 i c t e =
        let kinds : Took a (of.import_kind i p) c =
        took_as (of.import_kind i p) a c (took_then a b2 c t2 (took_then b2 b3 c t3 t.0))
        (λ fields s. subst (λ f. SpelledAt f a)
        (ap (λ (k : ExportKind). byte (export_code k) (here p (imported_fields i fields))) (sym t.1)
        ∙ sym (import_kind_is i p fields)) s) in
        let same : (made_import (x.0.1, x.1) p i, c) ≡ (w, b) = ok_is _ (w, b) e in (
          made_import (x.0.1, x.1) p i,
          subst (λ (d : At). Took a (of.import_kind i p) d) (ap (λ (y : Import × At). y.1) same) kinds,
          refl,
          ap (λ (y : Import × At). y.0) same,
        )

    behind : (names : List ℕ × List ℕ) (k : ExportKind)
        → Follows (import_fields k) (reads place_at (λ place. reads (import_kind_at k) (λ kind. done (made_import names place kind))))
    behind names k =
        follows_both [] (import_fields k) _ _ place_reads.follows
        (λ place. then_done (import_fields k) (import_kind_at k) (made_import names place) (import_kind_follows k))

pub import_reads : Reads import_at of.import_entry (parts_of of_imports)
unfolding import_at
import_reads = in_order (next _ (λ v. v.«module») name_reads (next _ (λ v. v.field) name_reads from_kind_reads))

-- ---- vectors of entries

pub types_reads : Reads (vector_at of_types type_entry_at) (of.vector of.type_entry) (table.vector of_types ∷ [])
types_reads = vector_reads of_types number_spelling type_entry_reads

pub imports_reads : Reads (vector_at of_imports import_at) (of.vector of.import_entry) (table.vector of_imports ∷ [])
imports_reads = vector_reads of_imports number_spelling import_reads

pub tables_reads : Reads (vector_at of_tables table_entry_at) (of.vector of.table_entry) (table.vector of_tables ∷ [])
tables_reads = vector_reads of_tables number_spelling table_entry_reads

pub memories_reads : Reads (vector_at of_memories memory_entry_at) (of.vector of.memory_entry) (table.vector of_memories ∷ [])
memories_reads = vector_reads of_memories number_spelling memory_entry_reads

pub globals_reads : Reads (vector_at of_globals global_entry_at) (of.vector of.global_entry) (table.vector of_globals ∷ [])
globals_reads = vector_reads of_globals number_spelling global_entry_reads

pub exports_reads : Reads (vector_at of_exports export_entry_at) (of.vector of.export_entry) (table.vector of_exports ∷ [])
exports_reads = vector_reads of_exports number_spelling export_entry_reads

pub elements_reads : Reads (vector_at of_elements element_entry_at) (of.vector of.element_entry) (table.vector of_elements ∷ [])
elements_reads = vector_reads of_elements number_spelling element_entry_reads
