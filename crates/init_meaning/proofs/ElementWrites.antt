-- The writes of element segments against the task WriteElement, and what no write of a segment changes
-- (WebAssembly Core 1.0, 4.5.4).
use Rattle.init_meaning.proofs.Common.{all_at, set_element, Module, memory_at, ◌≡◌, ℕ, zero, suc, ◌+◌, ◌*◌, ◌^◌, ◌<◌, ◌≤◌, false, List, []}
use Rattle.init_meaning.proofs.Common.{◌∷◌, ◌++◌, map, length, ◌==◌, slice_get, slice_set, Some, None, codes, Option, option_map, zip}
use Rattle.init_meaning.proofs.Common.{flat_map, sym, refl, ap, ◌∙◌, inl, append_assoc, arith, length-set, nat_tests, none-some}
use Rattle.init_meaning.proofs.Common.{AllByRecursion, range_with_len, get_within, if_found, numbered, Trail, FuncType, I64, func_space}
use Rattle.init_meaning.proofs.Common.{func_type_in, Code, GlobalGet, I32Const, I64Const, end_code, then_code, ElementEntry, FuncRef}
use Rattle.init_meaning.proofs.Common.{SegmentEntry, GlobalAddress, LinkedSet, NamedModule, global_at, table_at, Task, WriteElement}
use Rattle.init_meaning.proofs.Common.{as_offset, constant_of, Program, Gives, tab_set, with_element, all_set, all_weaker, unseen}
use Rattle.init_meaning.proofs.Common.{table_object, together_table, ElementAgrees, ElementsAgree, IsCallableIfAny, TableAgrees, Together}
use Rattle.init_meaning.proofs.Common.{function_name, table_arg, n64, place_expr, signature, write_element}
use Rattle.w2c_base.specs.Signature.{params_digits, result_digit, sig_number_of}
use Rattle.w2c_base.proofs.SignatureNumbers.{params_digits-grows}
use Rattle.wasm_meaning.specs.LinkedSet.{FuncAddress}
use Rattle.wasm_meaning.specs.Store as store
use Rattle.c_tree.specs.Tree as c
use Rattle.c_meaning.specs.Primitives.{on_table}
use Rattle.c_meaning.specs.State as state
use Rattle.c_meaning.specs.Machine as machine
use Rattle.c_init.specs.Instantiable.{ElementIsValid}
use Rattle.init_meaning.proofs.SegmentTests.{SegmentFits, within_object, size_there, table_size, memory_size, ElementFits}
use Rattle.init_meaning.proofs.SegmentTests.{DataFits, AreTested}
use Rattle.init_meaning.proofs.InitStatements.{Seat, Gets, GetsAll, effect_goes}
use Rattle.std.proofs.lemmas.List.{map-append}
use Rattle.std.proofs.lemmas.Simd.{map-map}
use Rattle.c_init.specs.Init.{Element, elements_in, elements_of, write_one}
use Rattle.w2c_base.proofs.OfEach.{all_append}
use Rattle.init_meaning.proofs.Entries.{there_at}
use Rattle.init_meaning.proofs.InitRuns.{FollowsTask, AreRows}
use Rattle.init_meaning.proofs.InitConstants.{OffsetFound, place_gets}
use Rattle.init_meaning.specs.Owners.{TableOwner}
use Rattle.init_meaning.proofs.Surroundings.{Surroundings, TableFound, table_found, offset_of, elements_length}
use Rattle.init_meaning.specs.ReachedFuncs.{FuncIsReached}

-- ---- what no write changes: sizes and globals

pub record SameSizes (made new : store.Store) : Type 0 where
  pub tables : (owner : ℕ) → table_size new owner ≡ table_size made owner
  pub memories : (owner : ℕ) → memory_size new owner ≡ memory_size made owner
  pub globals : (g : GlobalAddress) → store.global_in new g ≡ store.global_in made g

constant_kept : (s : LinkedSet) (u : ℕ) (made new : store.Store) → SameSizes made new → (code : Code)
    → constant_of s u new code ≡ constant_of s u made code
constant_kept s u made new same (then_code place (I32Const z) end_code) = refl
constant_kept s u made new same (then_code place (I64Const z) end_code) = refl
constant_kept s u made new same (then_code place (GlobalGet index) end_code) = go (global_at s u index)
  where
    go : (g : Option GlobalAddress) → if_found g (store.global_in new) ≡ if_found g (store.global_in made)
    go None = refl
    go (Some g) = same.globals g
constant_kept s u made new same _ = refl

fits_kept : (s : LinkedSet) (u : ℕ) (made new : store.Store) (at : Option ℕ) (size_of new_size : ℕ → Option ℕ) (code : Code) (count : ℕ)
    → SameSizes made new → ((owner : ℕ) → new_size owner ≡ size_of owner) → SegmentFits s u made at size_of code count
    → SegmentFits s u new at new_size code count
fits_kept s u made new at size_of new_size code count same sizes f = record {
  owner = f.owner;
  owner_is = f.owner_is;
  size = f.size;
  size_is = sizes f.owner ∙ f.size_is;
  offset = f.offset;
  offset_is = ap (λ v. if_found v as_offset) (constant_kept s u made new same code) ∙ f.offset_is;
  fits = f.fits;
}

-- so what was tested stays so
pub still_tested : (s : LinkedSet) (g : Seat) (m : NamedModule) (elements : List ElementEntry) (segments : List SegmentEntry)
    (mach after : state.Machine) (made new : store.Store) (trail : Trail) (vars : state.Vars)
    → AreTested s g m elements segments mach made trail vars → SameSizes made new → Together g.program s (suc g.unit) 0 after new trail
    → AreTested s g m elements segments after new trail vars
still_tested s g m elements segments mach after made new trail vars t same together = record {
  filled = record { together = together; locals = t.filled.locals };
  elements_fit = all_weaker (ElementFits s g.unit made) (ElementFits s g.unit new) elements
      (λ e. fits_kept s g.unit made new (table_at s g.unit e.table) (table_size made) (table_size new) e.offset (length e.funcs) same
      same.tables) t.elements_fit;
  data_fit = all_weaker (DataFits s g.unit made) (DataFits s g.unit new) segments
      (λ d. fits_kept s g.unit made new (memory_at s g.unit d.memory) (memory_size made) (memory_size new) d.offset (length d.bytes) same
      same.memories) t.data_fit;
}

-- a change of one module's objects that is not seen
pub kept_by : {A : Type 0} (made : store.Store) (owner : ℕ) (change : store.Objects → store.Objects) (f : store.Objects → Option A)
    → ((o : store.Objects) → slice_get made owner ≡ Some o → f (change o) ≡ f o)
    → (k : ℕ) → if_found (slice_get (store.with_objects made owner change) k) f ≡ if_found (slice_get made k) f
kept_by {A} made owner change f same k = go (slice_get made owner) refl
  where
    go : (found : Option store.Objects) → slice_get made owner ≡ found
        → if_found (slice_get (elim found [ None ↦ made | Some o ↦ slice_set made owner (change o) ]) k) f ≡ if_found (slice_get made k) f
    go None is = refl
    go (Some o) is = unseen f made owner k o (change o) is (same o is)

seen_of : {A : Type 0} (made : store.Store) (owner : ℕ) (f : store.Objects → Option A) (a : A) (o : store.Objects)
    → if_found (slice_get made owner) f ≡ Some a → slice_get made owner ≡ Some o → f o ≡ Some a
seen_of made owner f a o e is = sym (ap (λ found. if_found found f) is) ∙ e

pub objects_of : {A : Type 0} (made : store.Store) (owner : ℕ) (f : store.Objects → Option A) (a : A)
    → if_found (slice_get made owner) f ≡ Some a → (o : store.Objects) × (slice_get made owner ≡ Some o)
objects_of {A} made owner f a e = go (slice_get made owner) e
  where
    go : (found : Option store.Objects) → if_found found f ≡ Some a → (o : store.Objects) × (found ≡ Some o)
    go None e = absurd (none-some a e)
    go (Some o) e = (o, refl)

pub table_keeps_sizes : (made : store.Store) (owner : ℕ) (old new : store.Table) → store.table_in made owner ≡ Some old
    → length new.elements ≡ length old.elements → SameSizes made (store.with_table made owner new)
table_keeps_sizes made owner old new is same = record {
  tables = kept_by made owner change (λ (o : store.Objects). option_map (λ (t : store.Table). length t.elements) o.table)
      (λ o at. ap Some same ∙ sym (ap (option_map (λ (t : store.Table). length t.elements))
      (seen_of made owner (λ (o : store.Objects). o.table) old o is at)));
  memories = kept_by made owner change (λ (o : store.Objects). option_map (λ (m : store.Memory). length m.bytes) o.memory) (λ o at. refl);
  globals = λ g. kept_by made owner change (λ (o : store.Objects). slice_get o.globals g.number) (λ o at. refl) g.owner;
}
  where
    change : store.Objects → store.Objects
    change o = record { memory = o.memory; table = Some new; globals = o.globals }

pub memory_keeps_sizes : (made : store.Store) (owner : ℕ) (old new : store.Memory) → store.memory_in made owner ≡ Some old
    → length new.bytes ≡ length old.bytes → SameSizes made (store.with_memory made owner new)
memory_keeps_sizes made owner old new is same = record {
  tables = kept_by made owner change (λ (o : store.Objects). option_map (λ (t : store.Table). length t.elements) o.table) (λ o at. refl);
  memories = kept_by made owner change (λ (o : store.Objects). option_map (λ (m : store.Memory). length m.bytes) o.memory)
      (λ o at. ap Some same ∙ sym (ap (option_map (λ (m : store.Memory). length m.bytes))
      (seen_of made owner (λ (o : store.Objects). o.memory) old o is at)));
  globals = λ g. kept_by made owner change (λ (o : store.Objects). slice_get o.globals g.number) (λ o at. refl) g.owner;
}
  where
    change : store.Objects → store.Objects
    change o = record { memory = Some new; table = o.table; globals = o.globals }

-- ---- an element

elements_set : (p : Program) (s : LinkedSet) (xs : List (Option FuncAddress)) (ys : List (Option state.Element)) (k : ℕ) (f : FuncAddress)
    (e : state.Element)
    → ElementAgrees p s f e → ElementsAgree p s xs ys → ElementsAgree p s (slice_set xs k (Some f)) (slice_set ys k (Some e))
elements_set p s [] [] k f e new a = tt
elements_set p s (None ∷ xs) (None ∷ ys) zero f e new a = (new, a)
elements_set p s (Some x ∷ xs) (Some y ∷ ys) zero f e new a = (new, a.1)
elements_set p s (None ∷ xs) (None ∷ ys) (suc k) f e new a = elements_set p s xs ys k f e new a
elements_set p s (Some x ∷ xs) (Some y ∷ ys) (suc k) f e new a = (a.0, elements_set p s xs ys k f e new a.1)
elements_set p s _ _ k f e new a = absurd a

signature_is_some : (ty : FuncType) → (sig_number_of ty.params ty.result == 0) ≡ false
signature_is_some ty =
    let least : 1 ≤ params_digits 1 ty.params = params_digits-grows 1 ty.params in
    not_zero (3 * params_digits 1 ty.params + result_digit ty.result) (omega (arith, least))
  where
    not_zero : (k : ℕ) → 0 < k → (k == 0) ≡ false
    not_zero k some = grind (arith, nat_tests)

sets_element : (m : state.Machine) (a : state.ObjectAddress) (t : state.Table) (place : ℕ) (f : state.FuncAddress) (number : ℕ)
    → machine.table_in m a ≡ Some t → place < length t.elements → (number == 0) ≡ false
    → tab_set (state.Pointer (Some a) ∷ state.Number (I64 place) ∷ state.FuncPointer (Some f) ∷ state.Number (I64 number) ∷ []) m
    ≡ Gives (machine.with_table m a (with_element t place (record { func = f; signature = number }))) None
sets_element m a t place f number there less some =
    rw (there, tab_set, on_table) (rw ((get_within t.elements place less).1, set_element) (rw some refl))

write_of_element : (s : LinkedSet) (g : Seat) (m : NamedModule) (elements : List ElementEntry) (segments : List SegmentEntry)
    (e : ElementEntry) (number func : ℕ) (rest : List c.Stmt)
    → Surroundings s g m → ElementIsValid m.tree e → number < length e.funcs → func < length (func_space m.tree)
    → ((P : ElementEntry → Type 0) → AllByRecursion P elements → P e)
    → FollowsTask s g (AreTested s g m elements segments) (WriteElement e number func) (AreTested s g m elements segments)
    (write_element m.tree e.offset number func ∷ rest) rest
write_of_element s g m elements segments e number func rest a valid less there among mach made trail vars here = inl (record {
  machine = machine.with_table mach (table_object o.owner) other;
  new = store.with_table made o.owner new;
  locals = vars;
  does = λ n. rw (owner_is, found.table_is, offset.is, r.function_is) refl;
  reached = still_tested s g m elements segments mach (machine.with_table mach (table_object o.owner) other) made
      (store.with_table made o.owner new) trail vars here
      (table_keeps_sizes made o.owner found.table new found.table_is (length-set found.table.elements place (Some r.function)))
      (together_table g.program s (suc g.unit) 0 mach made trail o.owner objects.0 found.other other new objects.1 found.other_is agree
      callable here.filled.together);
  statements = 1;
  some = omega arith;
  few = omega arith;
  way = effect_goes g mach (machine.with_table mach (table_object o.owner) other)
      (codes "w2c_tab_set") args rest vars values tab_set gets refl
      (sets_element mach (table_object o.owner) found.other place r.address signed found.other_is (omega (arith, same, inside)) is_some);
})
  where
    o : TableOwner s g.unit m.tree
    o = a.known.table valid.there

    found : TableFound s g m mach made vars o.owner
    found = table_found s g m mach made trail vars a here.filled o

    offset : OffsetFound s g m.tree mach made vars e.offset
    offset = offset_of s g m mach made trail vars e.offset a here.filled valid.offset

    r : FuncIsReached g.program s g.unit m func
    r = a.known.function func there

    place : ℕ
    place = offset.offset + number

    owner_is : table_at s g.unit e.table ≡ Some o.owner
    owner_is = ap (table_at s g.unit) valid.table_is ∙ o.owner_is

    inside : place < length found.table.elements
    inside = within_object s g.unit made (table_at s g.unit e.table) (table_size made) e.offset (length e.funcs) o.owner
        (length found.table.elements) offset.offset number (among (ElementFits s g.unit made) here.elements_fit) owner_is
        (size_there (λ (o : store.Objects). o.table) (λ (t : store.Table). length t.elements) made o.owner found.table found.table_is)
        offset.is less

    same : length found.other.elements ≡ length found.table.elements
    same = elements_length g.program s found.table.elements found.other.elements found.agree.elements

    signed : ℕ
    signed = signature (func_type_in m.tree func)

    signed_is : signed ≡ sig_number_of r.ty.params r.ty.result
    signed_is = ap signature r.ty_is

    is_some : (signed == 0) ≡ false
    is_some = ap (λ k. k == 0) signed_is ∙ signature_is_some r.ty

    new : store.Table
    new = record { elements = slice_set found.table.elements place (Some r.function); max = found.table.max }

    other : state.Table
    other = with_element found.other place (record { func = r.address; signature = signed })

    element : ElementAgrees g.program s r.function (record { func = r.address; signature = signed })
    element = record { same = record { function = r.stands.alike; ty = r.ty; ty_is = r.typed; signature = signed_is }; stands = r.stands }

    agree : TableAgrees g.program s new other
    agree = record {
      made = found.agree.made;
      elements = elements_set g.program s found.table.elements found.other.elements place r.function
          (record { func = r.address; signature = signed }) element found.agree.elements;
      max = found.agree.max;
    }

    callable : AllByRecursion (IsCallableIfAny s (suc g.unit)) new.elements
    callable = all_set (IsCallableIfAny s (suc g.unit)) found.table.elements place (Some r.function) r.callable
        (here.filled.together.ready.elements o.owner found.table found.table_is)

    objects : (x : store.Objects) × (slice_get made o.owner ≡ Some x)
    objects = objects_of made o.owner (λ (x : store.Objects). x.table) found.table found.table_is

    args : List c.Arg
    args = table_arg m.tree ∷ c.Value (place_expr m.tree e.offset (n64 number)) ∷ c.OfFunction (function_name m.tree func) ∷ c.Value
        (n64 signed) ∷ []

    values : List state.CValue
    values = state.Pointer (Some (table_object o.owner)) ∷ state.Number (I64 place) ∷ state.FuncPointer (Some r.address) ∷ state.Number
        (I64 signed) ∷ []

    at_place : Gets g mach vars (c.Value (place_expr m.tree e.offset (n64 number))) (state.Number (I64 place))
    at_place = place_gets g m.tree mach vars e.offset (n64 number) offset.offset number offset.evaluates (λ rest. refl) offset.small
        (let few : length e.funcs < 2 ^ 32 = valid.few in omega (arith, few, less))

    gets : GetsAll g mach vars args values
    gets rest = rw (found.gets rest, at_place rest, r.address_is) refl

-- ---- all of them

-- what is made of each element of some segments, segment by segment
pub by_segment : {B : Type 0} (f : Element → B) (es : List ElementEntry)
    → map f (flat_map elements_in es) ≡ flat_map (λ (e : ElementEntry). map (λ (x : ℕ × FuncRef). f (e, x)) (numbered e.funcs)) es
by_segment f [] = refl
by_segment f (e ∷ es) =
    map-append f (elements_in e) (flat_map elements_in es)
    ∙ ap (λ ys. ys ++ map f (flat_map elements_in es)) (map-map f (λ (x : ℕ × FuncRef). (e, x)) (numbered e.funcs))
    ∙ ap (λ ys. map (λ (x : ℕ × FuncRef). f (e, x)) (numbered e.funcs) ++ ys) (by_segment f es)

abbrev pub element_task : Element → Task
element_task x = WriteElement x.0 x.1.0 x.1.1.index

module _ (s : LinkedSet) (g : Seat) (m : NamedModule) (a : Surroundings s g m) where
  abbrev t : Module
  t = m.tree

  -- what is known of an element
  record IsElement (x : Element) : Type 0 where
    place : ℕ
    place_is : slice_get t.elements place ≡ Some x.0
    valid : ElementIsValid t x.0
    less : x.1.0 < length x.0.funcs
    there : x.1.1.index < length (func_space t)

  -- of those of one segment, from number k on
  funcs_are : (e : ElementEntry) (place k : ℕ) (fs : List FuncRef) → slice_get t.elements place ≡ Some e → ElementIsValid t e
      → k + length fs ≤ length e.funcs → AllByRecursion (λ (f : FuncRef). f.index < length (func_space t)) fs
      → AllByRecursion IsElement (map (λ f. (e, f)) (zip (range_with_len k (length fs)) fs))
  funcs_are e place k [] at valid few there = tt
  funcs_are e place k (f ∷ fs) at valid few there = (
    record { place = place; place_is = at; valid = valid; less = omega (arith, few); there = there.0 },
    funcs_are e place (k + 1) fs at valid (omega (arith, few)) there.1,
  )

  elements_are : (front es : List ElementEntry) → front ++ es ≡ t.elements → AllByRecursion (ElementIsValid t) es
      → AllByRecursion IsElement (flat_map elements_in es)
  elements_are front [] whole valid = tt
  elements_are front (e ∷ es) whole valid =
      all_append IsElement (elements_in e) (flat_map elements_in es)
      (funcs_are e (length front) 0 e.funcs (there_at front e es t.elements whole) valid.0 (omega arith) valid.0.funcs)
      (elements_are (front ++ e ∷ []) es (append_assoc front (e ∷ []) es ∙ whole) valid.1)

  pub write_rows : AreRows s g (elements_of t) (λ front. AreTested s g m t.elements t.segments) (λ x. write_one t x ∷ []) element_task
  write_rows = record {
    costs = λ x. refl;
    each = λ front x behind rest e.
        let is = all_at IsElement (elements_of t) (length front) x (elements_are [] t.elements refl a.instantiable.elements)
        (there_at front x behind (elements_of t) e) in
        write_of_element s g m t.elements t.segments x.0 x.1.0 x.1.1.index rest a is.valid is.less is.there
        (λ P all. all_at P t.elements is.place x.0 all is.place_is);
  }
