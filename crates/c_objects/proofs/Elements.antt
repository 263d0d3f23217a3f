-- The elements of a table, seen through their view.
use Rattle.c_objects.proofs.Common.{◌≡◌, ℕ, zero, suc, ◌<◌, ◌≤◌, Bool, true, false, List, [], ◌∷◌, map, length, replicate, nat_lt, ◌==◌}
use Rattle.c_objects.proofs.Common.{slice_get, slice_set, Some, None, Option, option_map, sym, refl, ap, ◌∙◌, arith, table_in, with_table}
use Rattle.c_objects.proofs.Common.{Gives, on_table, set_element, tab_new, tab_set, FuncPointer, Machine, Number, ObjectAddress, Pointer}
use Rattle.c_objects.proofs.Common.{Table, element_of, Naming, func_of}
use Rattle.w2c_base.specs.declared.value.Value.TheVariants.{I32, I64}
use Rattle.c_objects.specs.declared.held.FuncId.{FuncId}
use Rattle.c_objects.specs.declared.table.Entry.{Entry}
use Rattle.w2c_base.proofs.Places.{get_within}
use Rattle.std.proofs.lemmas.Option.{slice_get-map}

module _ {A B : Type 0} where
  pub set_mapped : (f : A → B) (xs : List A) (i : ℕ) (x : A) → slice_set (map f xs) i (f x) ≡ map f (slice_set xs i x)
  set_mapped f (y ∷ xs) (suc i) x = ap (λ l. f y ∷ l) (set_mapped f xs i x)
  set_mapped f _ _ x = refl

  pub empty_mapped : (f : A → B) (n : ℕ) → map (option_map f) (replicate n None) ≡ replicate n None
  empty_mapped f zero = refl
  empty_mapped f (suc n) = ap (λ l. None ∷ l) (empty_mapped f n)

pub element_at : (names : Naming) (es : List (Option Entry)) (i : ℕ)
    → slice_get (map (option_map (element_of names)) es) i ≡ option_map (option_map (element_of names)) (slice_get es i)
element_at names es i = slice_get-map (option_map (element_of names)) es i

pub element_set : (names : Naming) (es : List (Option Entry)) (i : ℕ) (e : Entry)
    → slice_set (map (option_map (element_of names)) es) i (Some (element_of names e))
    ≡ map (option_map (element_of names)) (slice_set es i (Some e))
element_set names es i e = set_mapped (option_map (element_of names)) es i (Some e)

pub empty_elements : (names : Naming) (n : ℕ) → map (option_map (element_of names)) (replicate n None) ≡ replicate n None
empty_elements names n = empty_mapped (element_of names) n

-- the elements of a table as the meaning of C has them
module _ (names : Naming) (m : Machine) (a : ObjectAddress) (made : Bool) (es : List (Option Entry)) (max : ℕ) where
  abbrev table : List (Option Entry) → Table
  table es = record { is_made = made; elements = map (option_map (element_of names)) es; max = max }

  element_sets : (at : ℕ) (f : FuncId) (signature : ℕ) → (signature ≡ 0 → ⊥) → (x : Option Entry) → slice_get es at ≡ Some x
      → set_element m a (table es) at (func_of names f) signature
      ≡ Gives (with_table m a (table (slice_set es at (Some (record { func = f; signature = signature }))))) None
  element_sets at f signature given x here =
      let is_some : (signature == 0) ≡ false = grind (arith, given) in
      rw (element_at names es at, here, is_some, set_element)
      (ap (λ elements. Gives (with_table m a (record { is_made = made; elements = elements; max = max })) None)
      (element_set names es at (record { func = f; signature = signature })))

  pub set_done : (at : ℕ) (func : Option FuncId) (f : FuncId) (signature : ℕ)
      → table_in m a ≡ Some (table es) → func ≡ Some f → (signature ≡ 0 → ⊥) → at < length es
      → tab_set (Pointer (Some a) ∷ Number (I64 at) ∷ FuncPointer (option_map (func_of names) func) ∷ Number (I64 signature) ∷ []) m
      ≡ Gives (with_table m a (table (slice_set es at (Some (record { func = f; signature = signature }))))) None
  set_done at func f signature e is some less =
      let here = get_within es at less in
      rw is (rw (e, on_table) (element_sets at f signature some here.0 here.1))

  pub make_done : (fresh : List (Option Entry)) (count most : ℕ)
      → table_in m a ≡ Some (table es) → made ≡ false → count ≤ 1000000 → fresh ≡ replicate count None
      → tab_new (Pointer (Some a) ∷ Number (I32 count) ∷ Number (I64 most) ∷ []) m
      ≡ Gives (with_table m a (record { is_made = true; elements = map (option_map (element_of names)) fresh; max = most })) None
  make_done fresh count most e new few are =
      rw (e, on_table) (rw (new, not_less count few)
      (ap (λ elements. Gives (with_table m a (record { is_made = true; elements = elements; max = most })) None)
      (sym (ap (map (option_map (element_of names))) are ∙ empty_elements names count))))
    where
      not_less : (n : ℕ) → n ≤ 1000000 → nat_lt 1000000 n ≡ false
      not_less n le = grind (arith, le)
