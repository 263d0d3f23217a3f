-- A machine stays typed where an object gets another value of its type.
use Rattle.c_sound.proofs.Common.{◌≡◌, ℕ, zero, suc, true, ◌≢◌, ◌⊎◌, List, [], ◌∷◌, is_some, slice_get, slice_set, Some, None, Option}
use Rattle.c_sound.proofs.Common.{bytes_eq, sym, refl, ap, ◌∙◌, subst, inl, inr, cases_eq, bytes_eq-Decides, by_test, if_found, named}
use Rattle.c_sound.proofs.Common.{with_named, Trail, CType, named-with_another, named-with_named, Program, memory_in, table_in, var_in}
use Rattle.c_sound.proofs.Common.{with_depth, with_memory, with_objects, with_table, with_trail, with_var, CValue, Machine, Memory, Name}
use Rattle.c_sound.proofs.Common.{ObjectAddress, Objects, Table, of_one_type, HoldFuncs, OfType, TypedMachine, type_at, arith}
use Rattle.w2c_base.proofs.Places.{set_there}
use Rattle.c_sound.proofs.Choices.{by_option, same_some}

-- values of one type
pub one_type_of : (p : Program) (t : CType) (v w : CValue) → OfType p t v → OfType p t w → of_one_type v w ≡ true
one_type_of p t v w h k = grind arith

-- ---- lists of which one element is set

set_elsewhere : {A : Type 0} (xs : List A) (i j : ℕ) (y : A) → (i ≡ j → ⊥) → slice_get (slice_set xs i y) j ≡ slice_get xs j
set_elsewhere [] i j y differ = refl
set_elsewhere (z ∷ xs) zero zero y differ = absurd (differ refl)
set_elsewhere (z ∷ xs) zero (suc j) y differ = refl
set_elsewhere (z ∷ xs) (suc i) zero y differ = refl
set_elsewhere (z ∷ xs) (suc i) (suc j) y differ = set_elsewhere xs i j y (λ e. differ (ap suc e))

-- ---- objects of which one unit's are changed

abbrev set_in : Machine → ℕ → (Objects → Objects) → Option Objects → Machine
set_in m u change found = elim found [
  | None ↦ m
  | Some o ↦ record { depth = m.depth; units = slice_set m.units u (change o); trail = m.trail }
]

change_is : (m : Machine) (u : ℕ) (change : Objects → Objects) (found : Option Objects) → slice_get m.units u ≡ found
    → with_objects m u change ≡ set_in m u change found
change_is m u change found e = ap (set_in m u change) e

changed_here : (m : Machine) (u : ℕ) (change : Objects → Objects) (o : Objects) → slice_get m.units u ≡ Some o
    → slice_get (with_objects m u change).units u ≡ Some (change o)
changed_here m u change o e =
    ap (λ (x : Machine). slice_get x.units u) (change_is m u change (Some o) e) ∙ set_there m.units u o (change o) e

-- what is found, where the change leaves it alone
unchanged : {X : Type 0} (m : Machine) (u : ℕ) (change : Objects → Objects) (look : Objects → Option X) (v : ℕ)
    → (u ≡ v → (o : Objects) → look (change o) ≡ look o)
    → if_found (slice_get (with_objects m u change).units v) look ≡ if_found (slice_get m.units v) look
unchanged m u change look v stays = by_option (slice_get m.units u)
    (λ none. ap (λ (x : Machine). if_found (slice_get x.units v) look) (change_is m u change None none))
    (λ o there. elim (cases_eq u v) [
      | inl same ↦
          ap (λ (i : ℕ). if_found (slice_get (with_objects m u change).units i) look) (sym same)
          ∙ ap (λ (x : Option Objects). if_found x look) (changed_here m u change o there)
          ∙ stays same o
          ∙ sym (ap (λ (x : Option Objects). if_found x look) there)
          ∙ ap (λ (i : ℕ). if_found (slice_get m.units i) look) same
      | inr differ ↦
          ap (λ (x : Machine). if_found (slice_get x.units v) look) (change_is m u change (Some o) there)
          ∙ ap (λ (x : Option Objects). if_found x look) (set_elsewhere m.units u v (change o) differ)
    ])

-- what is found in the unit that is changed
changed : {X : Type 0} (m : Machine) (u : ℕ) (change : Objects → Objects) (look : Objects → Option X) (old new : X)
    → if_found (slice_get m.units u) look ≡ Some old → ((o : Objects) → look o ≡ Some old → look (change o) ≡ Some new)
    → if_found (slice_get (with_objects m u change).units u) look ≡ Some new
changed m u change look old new e becomes = by_option (slice_get m.units u)
    (λ none. absurd (let f = rw none at e in cc))
    (λ o there. ap (λ (x : Option Objects). if_found x look) (changed_here m u change o there) ∙ becomes o (rw there at e))

-- ---- one object gets another value

abbrev address : ℕ → Name → ObjectAddress
address u name = record { unit = u; name = name }

one_address : (a b : ObjectAddress) → a.unit ≡ b.unit → a.name ≡ b.name → a ≡ b
one_address a b e f = ap (λ (u : ℕ). address u a.name) e ∙ ap (address b.unit) f

same_or_not : (a b : ObjectAddress) → (a ≡ b) ⊎ (a.unit ≡ b.unit → a.name ≢ b.name)
same_or_not a b = elim (cases_eq a.unit b.unit) [
  | inr differ ↦ inr (λ same. absurd (differ same))
  | inl same ↦ by_test (bytes_eq a.name b.name)
      (λ is. inl (one_address a b same ((bytes_eq-Decides a.name b.name).0 is)))
      (λ is. inr (λ _ equal. let f : bytes_eq a.name b.name ≡ true = (bytes_eq-Decides a.name b.name).1 equal in cc))
]

there_is : {A : Type 0} (o : Option A) (a : A) → o ≡ Some a → is_some o ≡ true
there_is o a e = ap is_some e

pub var_keeps : (p : Program) (m : Machine) (a : ObjectAddress) (t : CType) (old v : CValue) → TypedMachine p m
    → type_at p a ≡ Some t → var_in m a ≡ Some old → OfType p t v → TypedMachine p (with_var m a v)
var_keeps p m a t old v h at_a held is_v = record {
  vars = λ b u at_b plain. elim (same_or_not a b) [
    | inl same ↦
        let is : t ≡ u = same_some (type_at p a) t u at_a (subst (λ (x : ObjectAddress). type_at p x ≡ Some u) (sym same) at_b) in
        (v, subst (λ (x : ObjectAddress). var_in (with_var m a v) x ≡ Some v) same here, subst (λ (x : CType). OfType p x v) is is_v)
    | inr differ ↦
        let was = h.vars b u at_b plain in (
          was.0,
          unchanged m a.unit change (λ o. named b.name o.vars) b.unit
              (λ same o. named-with_another b.name a.name v o.vars (λ e. differ same (sym e))) ∙ was.1,
          was.2,
        )
  ];
  memories = λ b at_b.
      let was = h.memories b at_b in
      (was.0, unchanged m a.unit change (λ o. named b.name o.memories) b.unit (λ same o. refl) ∙ was.1);
  tables = λ b at_b.
      let was = h.tables b at_b in
      (was.0, unchanged m a.unit change (λ o. named b.name o.tables) b.unit (λ same o. refl) ∙ was.1, was.2);
}
  where
    change : Objects → Objects
    change o = record { vars = with_named a.name v o.vars; memories = o.memories; tables = o.tables }

    here : var_in (with_var m a v) a ≡ Some v
    here = changed m a.unit change (λ o. named a.name o.vars) old v held
        (λ o e. named-with_named a.name v o.vars (there_is (named a.name o.vars) old e))

pub memory_keeps : (p : Program) (m : Machine) (a : ObjectAddress) (old new : Memory) → TypedMachine p m
    → memory_in m a ≡ Some old → TypedMachine p (with_memory m a new)
memory_keeps p m a old new h held = record {
  vars = λ b u at_b plain.
      let was = h.vars b u at_b plain in
      (was.0, unchanged m a.unit change (λ o. named b.name o.vars) b.unit (λ same o. refl) ∙ was.1, was.2);
  memories = λ b at_b. elim (same_or_not a b) [
    | inl same ↦ (new, subst (λ (x : ObjectAddress). memory_in (with_memory m a new) x ≡ Some new) same here)
    | inr differ ↦
        let was = h.memories b at_b in (
          was.0,
          unchanged m a.unit change (λ o. named b.name o.memories) b.unit
              (λ same o. named-with_another b.name a.name new o.memories (λ e. differ same (sym e))) ∙ was.1,
        )
  ];
  tables = λ b at_b.
      let was = h.tables b at_b in
      (was.0, unchanged m a.unit change (λ o. named b.name o.tables) b.unit (λ same o. refl) ∙ was.1, was.2);
}
  where
    change : Objects → Objects
    change o = record { vars = o.vars; memories = with_named a.name new o.memories; tables = o.tables }

    here : memory_in (with_memory m a new) a ≡ Some new
    here = changed m a.unit change (λ o. named a.name o.memories) old new held
        (λ o e. named-with_named a.name new o.memories (there_is (named a.name o.memories) old e))

pub table_keeps : (p : Program) (m : Machine) (a : ObjectAddress) (old new : Table) → TypedMachine p m
    → table_in m a ≡ Some old → HoldFuncs p new.elements → TypedMachine p (with_table m a new)
table_keeps p m a old new h held is_new = record {
  vars = λ b u at_b plain.
      let was = h.vars b u at_b plain in
      (was.0, unchanged m a.unit change (λ o. named b.name o.vars) b.unit (λ same o. refl) ∙ was.1, was.2);
  memories = λ b at_b.
      let was = h.memories b at_b in
      (was.0, unchanged m a.unit change (λ o. named b.name o.memories) b.unit (λ same o. refl) ∙ was.1);
  tables = λ b at_b. elim (same_or_not a b) [
    | inl same ↦ (new, subst (λ (x : ObjectAddress). table_in (with_table m a new) x ≡ Some new) same here, is_new)
    | inr differ ↦
        let was = h.tables b at_b in (
          was.0,
          unchanged m a.unit change (λ o. named b.name o.tables) b.unit
              (λ same o. named-with_another b.name a.name new o.tables (λ e. differ same (sym e))) ∙ was.1,
          was.2,
        )
  ];
}
  where
    change : Objects → Objects
    change o = record { vars = o.vars; memories = o.memories; tables = with_named a.name new o.tables }

    here : table_in (with_table m a new) a ≡ Some new
    here = changed m a.unit change (λ o. named a.name o.tables) old new held
        (λ o e. named-with_named a.name new o.tables (there_is (named a.name o.tables) old e))

pub depth_keeps : (p : Program) (m : Machine) (depth : ℕ) → TypedMachine p m → TypedMachine p (with_depth m depth)
depth_keeps p m depth h = record { vars = h.vars; memories = h.memories; tables = h.tables }

pub trail_keeps : (p : Program) (m : Machine) (trail : Trail) → TypedMachine p m → TypedMachine p (with_trail m trail)
trail_keeps p m trail h = record { vars = h.vars; memories = h.memories; tables = h.tables }

-- objects alone make a machine typed
pub units_keep : (p : Program) (m n : Machine) → n.units ≡ m.units → TypedMachine p m → TypedMachine p n
units_keep p m n same h = subst (λ (us : List Objects). TypedMachine p (record { depth = n.depth; units = us; trail = n.trail })) (sym same)
    (record { vars = h.vars; memories = h.memories; tables = h.tables })
