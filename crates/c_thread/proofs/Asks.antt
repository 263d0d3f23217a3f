-- Arguments of hosts are numbers.
use Rattle.c_thread.proofs.Common.{◌≡◌, ℕ, ◌+◌, ◌≤◌, List, [], ◌∷◌, ◌++◌, map, length, drop, if◌then◌else◌, slice_get, Some, None, Option}
use Rattle.c_thread.proofs.Common.{option_map, sym, refl, ap, ◌∙◌, append_assoc, append-nil, drop_all, drop_front, equal_types, types_of}
use Rattle.c_thread.proofs.Common.{Value, Program, host_type, CValue, Machine, Stuck, Waiting, Step, Stops, ask, numbers, replied, Naming}
use Rattle.c_thread.proofs.Common.{value_of, Held}
use Rattle.w2c_base.specs.declared.signature.FuncType.{FuncType}
use Rattle.c_objects.specs.declared.held.Held.TheVariants as held

-- the numbers so far are those of the first i values
abbrev pub Counts : Naming → List Held → ℕ → List Value → Type 0
Counts names values i so_far =
    numbers (map (value_of names) values) ≡ option_map (λ rest. so_far ++ rest) (numbers (map (value_of names) (drop i values)))

pub counts_next : (names : Naming) (values : List Held) (i : ℕ) (so_far : List Value) (v : Value)
    → slice_get values i ≡ Some (held.Number v)
    → Counts names values i so_far → Counts names values (i + 1) (so_far ++ v ∷ [])
counts_next names values i so_far v at is =
    is ∙ ap (λ vs. option_map (λ rest. so_far ++ rest) (numbers (map (value_of names) vs))) (drop_front values i (held.Number v) at)
    ∙ go (numbers (map (value_of names) (drop (i + 1) values)))
  where
    go : (o : Option (List Value)) → option_map (λ rest. so_far ++ rest) (option_map (λ others. v ∷ others) o) ≡ option_map
        (λ rest. (so_far ++ v ∷ []) ++ rest) o
    go None = refl
    go (Some vs) = ap Some (sym (append_assoc so_far (v ∷ []) vs))

pub counts_none : (names : Naming) (values : List Held) (i : ℕ) (so_far : List Value) (h : Held) → slice_get values i ≡ Some h
    → ((rest : List CValue) → numbers (value_of names h ∷ rest) ≡ None)
    → Counts names values i so_far → numbers (map (value_of names) values) ≡ None
counts_none names values i so_far h at none is =
    is ∙ ap (λ vs. option_map (λ rest. so_far ++ rest) (numbers (map (value_of names) vs))) (drop_front values i h at)
    ∙ ap (option_map (λ rest. so_far ++ rest)) (none (map (value_of names) (drop (i + 1) values)))

pub counts_all : (names : Naming) (values : List Held) (i : ℕ) (so_far : List Value) → length values ≤ i → Counts names values i so_far
    → numbers (map (value_of names) values) ≡ Some so_far
counts_all names values i so_far past is =
    is ∙ ap (λ vs. option_map (λ rest. so_far ++ rest) (numbers (map (value_of names) vs))) (drop_all i values past)
    ∙ ap Some (append-nil so_far)

-- the call of a host's function, by what its arguments are
abbrev with_numbers : Program → ℕ → ℕ → Machine → List Waiting → Option (List Value) → Step
with_numbers p h f m below o = elim (host_type p h f) [
  | None ↦ Stops m Stuck
  | Some ty ↦ elim o [
    | None ↦ Stops m Stuck
    | Some values ↦
        if equal_types ty.params (types_of values)
        then replied ty m.trail.replies m.trail.events (record { host = h; function = f; args = values }) m below
        else Stops m Stuck
  ]
]

pub asks : (p : Program) (h f : ℕ) (m : Machine) (args : List CValue) (below : List Waiting) (values : List Value)
    → numbers args ≡ Some values
    → ask p h f m args below ≡ with_numbers p h f m below (Some values)
asks p h f m args below values is = ap (with_numbers p h f m below) is

pub asks_not : (p : Program) (h f : ℕ) (m : Machine) (args : List CValue) (below : List Waiting) → numbers args ≡ None
    → ask p h f m args below ≡ Stops m Stuck
asks_not p h f m args below is = ap (with_numbers p h f m below) is ∙ go (host_type p h f)
  where
    go : (o : Option FuncType) → elim o [ None ↦ Stops m Stuck | Some ty ↦ Stops m Stuck ] ≡ Stops m Stuck
    go None = refl
    go (Some ty) = refl
