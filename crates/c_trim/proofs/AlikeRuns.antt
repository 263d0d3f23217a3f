-- Units in which one is trimmed run as before.
use Rattle.c_trim.proofs.Common.{◌≡◌, ℕ, zero, suc, Bool, true, false, not, List, [], ◌∷◌, ◌++◌, map, length, take, if◌then◌else◌, ◌==◌}
use Rattle.c_trim.proofs.Common.{slice_get, Some, None, Option, option_map, sym, refl, ap, ◌∙◌, subst, arith, by_test, if_found, named}
use Rattle.c_trim.proofs.Common.{Host, Reply, Name, Program, SymbolCall, file_memory, file_table, file_var, objects_of, CRun, Outcome}
use Rattle.c_trim.proofs.Common.{Stopped, c_run, CValue, Element, FuncAddress, FuncPointer, HostFunc, Number, Objects, Pointer, Stop, Table}
use Rattle.c_trim.proofs.Common.{Undefined, UnitFunc, AreDistinct, ObjectNames, declared_names, names_of, Renaming, address, AllKeepRules}
use Rattle.c_trim.proofs.Common.{RunsAlike, among, left_out, new_number, new_outcome, new_stop, TellsNeeded, kept, stays}
use Rattle.c_tree.specs.Tree as tree
use Rattle.c_renaming.specs.Renamed as renamed
use Rattle.c_renaming.specs.Same.{SameRun}
use Rattle.c_renaming.specs.Trimming as whole
use Rattle.c_renaming.proofs.LookUps.{same_objects}
use Rattle.c_renaming.proofs.NamesStay.{names_stay}
use Rattle.c_renaming.proofs.Runs.{runs_same}
use Rattle.w2c_base.proofs.Options.{option_itself, map_itself}
use Rattle.c_trim.proofs.Lists.{map_left}
use Rattle.c_trim.proofs.RulesHold.{rules_hold}
use Rattle.c_trim.proofs.Distinct.{names_distinct, var_declares, memory_declares, table_declares}
use Rattle.c_trim.proofs.KeptText.{AreNamed}
use Rattle.c_trim.proofs.Programs as program
use Rattle.c_trim.proofs.Programs.{name_stays, same_stays}

-- ---- lists that are the same place by place

map_same : {A B : Type 0} (f : A → B) (x y : A) (ys : List A) → f x ≡ f y → (xs : List A) → map f (xs ++ x ∷ ys) ≡ map f (xs ++ y ∷ ys)
map_same f x y ys e [] = ap (λ b. b ∷ map f ys) e
map_same f x y ys e (a ∷ xs) = ap (λ l. f a ∷ l) (map_same f x y ys e xs)

same_places : {A B : Type 0} (f : A → B) (xs ys : List A) → map f xs ≡ map f ys
    → ((i : ℕ) (x y : A) → slice_get xs i ≡ Some x → slice_get ys i ≡ Some y → f x ≡ f y → x ≡ y) → xs ≡ ys
same_places f [] [] e same = refl
same_places f (x ∷ xs) (y ∷ ys) e same =
    let head : f x ≡ f y = cc in
    let tail : map f xs ≡ map f ys = cc in
    λ i. same 0 x y refl refl head i ∷ same_places f xs ys tail (λ j. same (suc j)) i
same_places f _ _ e same = cc

-- what stands at the same place of two lists
record AtPlace {A B C : Type 0} (f : A → C) (g : B → C) (x : A) (ys : List B) (i : ℕ) : Type 0 where
  item : B
  there : slice_get ys i ≡ Some item
  is : f x ≡ g item

at_place : {A B C : Type 0} (f : A → C) (g : B → C) (xs : List A) (ys : List B) → map f xs ≡ map g ys → (i : ℕ) (x : A)
    → slice_get xs i ≡ Some x
    → AtPlace f g x ys i
at_place f g (a ∷ xs) (b ∷ ys) e zero x there =
    let same : a ≡ x = cc in
    let head : f a ≡ g b = cc in
    record { item = b; there = refl; is = ap f (sym same) ∙ head }
at_place f g (a ∷ xs) (b ∷ ys) e (suc i) x there =
    let tail : map f xs ≡ map g ys = cc in
    let found = at_place f g xs ys tail i x there in
    record { item = found.item; there = found.there; is = found.is }
at_place f g _ _ e i x there = cc

-- ---- a renaming without new names leaves values as they are

module _ (p : Program) (used stay : whole.Stays) where
  abbrev σ : Renaming
  σ = whole.trimming p used stay

  same_address : (f : FuncAddress) → address σ f ≡ f
  same_address (UnitFunc u x) = refl
  same_address (HostFunc h f) = refl

  same_value : (v : CValue) → renamed.value σ v ≡ v
  same_value (Number v) = refl
  same_value (Pointer to) = ap Pointer (option_itself (λ a. a) (λ a. refl) to)
  same_value (FuncPointer to) = ap FuncPointer (option_itself (address σ) same_address to)

  same_element : (e : Element) → renamed.element σ e ≡ e
  same_element e = λ i. record { func = same_address e.func i; signature = e.signature }

  same_table : (t : Table) → renamed.table σ t ≡ t
  same_table t = λ i. record {
    is_made = t.is_made;
    elements = map_itself (option_map (renamed.element σ)) (option_itself (renamed.element σ) same_element) t.elements i;
    max = t.max;
  }

-- ---- objects that a function does not declare

no_var : (needed : Name → Bool) (x : tree.Item) → stays needed x ≡ false → file_var x ≡ None
no_var needed (tree.Function f) e = refl
no_var needed _ e = cc

no_memory : (needed : Name → Bool) (x : tree.Item) → stays needed x ≡ false → file_memory x ≡ None
no_memory needed (tree.Function f) e = refl
no_memory needed _ e = cc

no_table : (needed : Name → Bool) (x : tree.Item) → stays needed x ≡ false → file_table x ≡ None
no_table needed (tree.Function f) e = refl
no_table needed _ e = cc

same_declared : (needed : Name → Bool) (items : List tree.Item) → objects_of (kept needed items) ≡ objects_of items
same_declared needed items = λ i. record {
  vars = map_left file_var (stays needed) (no_var needed) items i;
  memories = map_left file_memory (stays needed) (no_memory needed) items i;
  tables = map_left file_table (stays needed) (no_table needed) items i;
}

-- ---- numbers of items

same_out : (needed : Name → Bool) (items : List tree.Item) → AreNamed items → (n : ℕ)
    → whole.left_out (name_stays needed) (take n items) ≡ left_out needed (take n items)
same_out needed items free zero = refl
same_out needed [] free (suc n) = refl
same_out needed (x ∷ items) free (suc n) = λ i.
    if not (same_stays needed x free.0 i) then x ∷ same_out needed items free.1 n i else same_out needed items free.1 n i

none_out : (stay : Name → Bool) → ((x : Name) → stay x ≡ true) → (items : List tree.Item) → whole.left_out stay items ≡ []
none_out stay all [] = refl
none_out stay all (tree.Array name count bytes ∷ items) = none_out stay all items
none_out stay all (tree.Var ty name number ∷ items) = none_out stay all items
none_out stay all (tree.Function f ∷ items) =
    ap (λ b. if not b then tree.Function f ∷ whole.left_out stay items else whole.left_out stay items) (all f.name)
    ∙ none_out stay all items

module _ (before after : List (List tree.Item)) (hosts : List Host) (unit : List tree.Item) (needed : Name → Bool)
    (tells : TellsNeeded unit needed) (keeps : AllKeepRules (before ++ unit ∷ after)) where
  abbrev p : Program
  p = among before unit after hosts

  abbrev q : Program
  q = among before (kept needed unit) after hosts

  abbrev k : ℕ
  k = length before

  abbrev stay : whole.Stays
  stay = program.stay before after hosts unit needed tells keeps

  abbrev used : whole.Stays
  used = program.used before after hosts unit needed tells keeps

  abbrev ρ : Renaming
  ρ = whole.trimming p used stay

  number_is : (u i : ℕ) → whole.new_number p stay u i ≡ (if u == k then new_number needed unit i else i)
  number_is u i =
      let at = program.at_place before after hosts unit needed tells keeps before after in
      grind (arith, at, program.unit_named before after hosts unit needed tells keeps, take, same_out, by_test, none_out)

  same_stop : (why : Stop) → renamed.stop ρ why ≡ new_stop needed unit k why
  same_stop (Undefined kind at) =
      ap (λ n. Undefined kind (record { unit = at.unit; item = n; statement = at.statement })) (number_is at.unit at.item)
  same_stop _ = refl

  same_outcome : (o : Outcome) → renamed.outcome ρ o ≡ new_outcome needed unit k o
  same_outcome (Stopped why) = ap Stopped (same_stop why)
  same_outcome _ = refl

  declared_same : declared_names q ≡ declared_names p
  declared_same =
      map_same (λ items. names_of (objects_of items)) (kept needed unit) unit after (ap names_of (same_declared needed unit)) before

  module _ (calls : List SymbolCall) (m : ℕ) (replies : List Reply) where
    abbrev run : CRun
    run = c_run p calls m replies

    abbrev other : CRun
    other = c_run q calls m replies

    same : SameRun ρ run other
    same = subst (λ (r : Program). SameRun ρ run (c_run r calls m replies)) (program.trimmed_is before after hosts unit needed tells keeps)
        (runs_same ρ p (whole.trimmed p stay) (program.renames before after hosts unit needed tells keeps) calls m replies)

    same_names : map names_of other.units ≡ map names_of run.units
    same_names = names_stay q calls m replies ∙ declared_same ∙ sym (names_stay p calls m replies)

    distinct : (i : ℕ) (o : Objects) → slice_get run.units i ≡ Some o
        → AreDistinct (names_of o).vars × AreDistinct (names_of o).memories × AreDistinct (names_of o).tables
    distinct i o there =
        let found = at_place names_of (λ items. names_of (objects_of items)) run.units p.units (names_stay p calls m replies) i o there in
        let hold = rules_hold found.item (keeps i found.item found.there) in
        subst (λ (n : ObjectNames). AreDistinct n.vars × AreDistinct n.memories × AreDistinct n.tables) (sym found.is) (
          names_distinct file_var var_declares found.item hold,
          names_distinct file_memory memory_declares found.item hold,
          names_distinct file_table table_declares found.item hold,
        )

    look_ups : (i : ℕ) (w o : Objects) → slice_get other.units i ≡ Some w → slice_get run.units i ≡ Some o → (x : Name)
        → (named x w.vars ≡ named x o.vars) × (named x w.memories ≡ named x o.memories) × (named x w.tables ≡ named x o.tables)
    look_ups i w o here there x = (
      sym (ap (λ (found : Option Objects). if_found found (λ o. named x o.vars)) here)
          ∙ same.objects.vars (record { unit = i; name = x })
          ∙ option_itself (renamed.value ρ) (same_value p used stay) (if_found (slice_get run.units i) (λ o. named x o.vars))
          ∙ ap (λ (found : Option Objects). if_found found (λ o. named x o.vars)) there,
      sym (ap (λ (found : Option Objects). if_found found (λ o. named x o.memories)) here)
          ∙ same.objects.memories (record { unit = i; name = x })
          ∙ ap (λ (found : Option Objects). if_found found (λ o. named x o.memories)) there,
      sym (ap (λ (found : Option Objects). if_found found (λ o. named x o.tables)) here)
          ∙ same.objects.tables (record { unit = i; name = x })
          ∙ option_itself (renamed.table ρ) (same_table p used stay) (if_found (slice_get run.units i) (λ o. named x o.tables))
          ∙ ap (λ (found : Option Objects). if_found found (λ o. named x o.tables)) there,
    )

    same_units : other.units ≡ run.units
    same_units = same_places names_of other.units run.units same_names (λ i w o here there alike.
        sym (same_objects o w (sym alike) (distinct i o there) (λ x.
        let three = look_ups i w o here there x in (sym three.0, sym three.1, sym three.2))))

    pub runs_alike : RunsAlike needed unit k run other
    runs_alike = record {
      phase = same.phase;
      events = same.events;
      objects = same_units;
      outcome = same.outcome ∙ same_outcome run.outcome;
    }
