-- The symbols of a module's imports, import by import.
use Rattle.c_symbols.proofs.Common.{◌≡◌, ℕ, ◌+◌, ◌<◌, ◌≤◌, Bool, List, ◌++◌, map, length, get_or, drop, filter, Option, refl, Import, Name}
use Rattle.wasm_tree.specs.NamedModule.{NamedModule}
use Rattle.c_symbols.specs.Reached.{usable_symbol}
use Rattle.c_symbols.specs.Usable.{if_kind}
use Rattle.c_symbols.proofs.ByKind.{kind_next, none_more}

abbrev pub of_kind : NamedModule → (Import → Bool) → List Import → List (Option Name)
of_kind m is imports = map (usable_symbol m) (filter is imports)

-- what the imports so far brought, and what the others bring
abbrev pub ReachesSoFar : NamedModule → (Import → Bool) → List (Option Name) → ℕ → Type 0
ReachesSoFar m is made i = made ++ of_kind m is (drop i m.tree.imports) ≡ of_kind m is m.tree.imports

pub reaches_next : (m : NamedModule) (is : Import → Bool) (before after : List (Option Name)) (name : Option Name) (items : List Import)
    (i : ℕ) (x : Import) → items ≡ m.tree.imports → i < length items → x ≡ get_or items i x → name ≡ usable_symbol m x
    → after ≡ before ++ if_kind is x name → ReachesSoFar m is before i → ReachesSoFar m is after (i + 1)
reaches_next m is before after name items i x same less read named grown so_far =
    kind_next is (usable_symbol m) before after _ name m.tree.imports items i x same less read named grown so_far

pub reaches_all : (m : NamedModule) (is : Import → Bool) (made : List (Option Name)) (items : List Import) (i : ℕ) → items ≡ m.tree.imports
    → length items ≤ i → ReachesSoFar m is made i → made ≡ of_kind m is m.tree.imports
reaches_all m is made items i same past so_far = none_more (of_kind m is) made _ m.tree.imports items i same refl past so_far
