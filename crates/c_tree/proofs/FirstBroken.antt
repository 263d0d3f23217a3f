-- The first broken rule is one, and it is broken.
use Rattle.c_tree.proofs.Common.{◌≡◌, ℕ, ◌<◌, ◌≤◌, ◌⊎◌, List, [], ◌∷◌, slice_get, Some, None, Contains, refl, arith, BrokenAt, BrokenRule}
use Rattle.c_tree.proofs.Common.{IsFirstBroken, IsNotBehind, KeepsRules, broken_rules, first_broken}
use Rattle.c_tree.specs.Tree as tree

same_item : (i s k j t m : ℕ) → (i < j) ⊎ ((i ≡ j) × (s < t)) ⊎ ((i ≡ j) × (s ≡ t) × (k ≤ m))
    → (j < i) ⊎ ((j ≡ i) × (t < s)) ⊎ ((j ≡ i) × (t ≡ s) × (m ≤ k)) → i ≡ j
same_item i s k j t m p q = grind arith

same_statement : (i s k j t m : ℕ) → (i < j) ⊎ ((i ≡ j) × (s < t)) ⊎ ((i ≡ j) × (s ≡ t) × (k ≤ m))
    → (j < i) ⊎ ((j ≡ i) × (t < s)) ⊎ ((j ≡ i) × (t ≡ s) × (m ≤ k)) → s ≡ t
same_statement i s k j t m p q = grind arith

same_rule : (i s k j t m : ℕ) → (i < j) ⊎ ((i ≡ j) × (s < t)) ⊎ ((i ≡ j) × (s ≡ t) × (k ≤ m))
    → (j < i) ⊎ ((j ≡ i) × (t < s)) ⊎ ((j ≡ i) × (t ≡ s) × (m ≤ k)) → k ≡ m
same_rule i s k j t m p q = grind arith

at : ℕ → ℕ → ℕ → BrokenAt
at i s k = record { item = i; statement = s; rule = k }

same_at : (i s k j t m : ℕ) → i ≡ j → s ≡ t → k ≡ m → at i s k ≡ at j t m
same_at i s k j t m e f g = rw (e, f, g) refl

-- neither of two places comes before the other
same_place : (a b : BrokenAt) → IsNotBehind a b → IsNotBehind b a → a ≡ b
unfolding at
same_place a b p q =
    same_at a.item a.statement a.rule b.item b.statement b.rule
    (same_item a.item a.statement a.rule b.item b.statement b.rule p q)
    (same_statement a.item a.statement a.rule b.item b.statement b.rule p q)
    (same_rule a.item a.statement a.rule b.item b.statement b.rule p q)

pub one_first : (unit : List tree.Item) (a b : BrokenAt) → IsFirstBroken unit a → IsFirstBroken unit b → a ≡ b
one_first unit a b p q = same_place a b (p.least b q.broken) (q.least a p.broken)

first_is_there : {A : Type 0} (xs : List A) (x : A) → slice_get xs 0 ≡ Some x → Contains xs x
first_is_there [] x e = grind arith
first_is_there (y ∷ ys) x e = (0, omega arith, grind arith)

none_is_there : {A : Type 0} (xs : List A) (x : A) → slice_get xs 0 ≡ None → Contains xs x → ⊥
none_is_there [] x e c = grind (arith, c)
none_is_there (y ∷ ys) x e c = grind arith

pub is_broken : (unit : List tree.Item) (found : BrokenAt) → first_broken unit ≡ Some found → BrokenRule unit found
is_broken unit found e = first_is_there (broken_rules unit) found e

pub none_is_broken : (unit : List tree.Item) (found : BrokenAt) → KeepsRules unit → BrokenRule unit found → ⊥
none_is_broken unit found e c = none_is_there (broken_rules unit) found e c
