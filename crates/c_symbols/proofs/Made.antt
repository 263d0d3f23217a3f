-- Symbols that were made, each at its place.
use Rattle.c_symbols.proofs.Common.{◌≡◌, ℕ, ◌<◌, false, List, [], ◌∷◌, ◌++◌, map, length, get_or, slice_get, Some, None, Option}
use Rattle.c_symbols.proofs.Common.{option_map, if◌then◌else◌, refl, sym, ap, ◌∙◌, slice_get-map, slice_get-get_or, length-map, arith}
use Rattle.c_symbols.proofs.Common.{pair_of, Typed, Import, NamedModule, import_symbol, import_type}
use Rattle.std.proofs.lemmas.List.{map_push}
use Rattle.std.proofs.lemmas.Option.{same_Some}
use Rattle.c_tree.specs.Tree as tree
use Rattle.c_tree.specs.Runtime.{same_func_type}
use Rattle.c_symbols.specs.Named.{typed_import}
use Rattle.c_symbols.specs.Symbols.{symbol_type}
use Rattle.c_symbols.specs.Reached.{has_type, usable_as, usable_symbol}
use Rattle.c_symbols.specs.declared.indexes.Symbol.{Symbol}

pub one_more : (before after : List Symbol) (s : Symbol) (p : Typed) → after ≡ before ++ s ∷ [] → pair_of s ≡ p
    → map pair_of after ≡ map pair_of before ++ p ∷ []
one_more before after s p grown is =
    ap (map pair_of) grown ∙ map_push pair_of before s ∙ ap (λ q. map pair_of before ++ q ∷ []) is

pub usable_here : (m : NamedModule) (s : Typed) (i : Import) → s ≡ typed_import m.tree i
    → usable_as m s ≡ usable_symbol m i
usable_here m s i is = ap (usable_as m) is ∙ at (symbol_type m (import_symbol i))
  where
    at : (o : Option tree.FuncType) → (if has_type o (import_type m.tree i) then Some (import_symbol i) else None)
        ≡ (if (elim o [ None ↦ false | Some t ↦ same_func_type t (import_type m.tree i) ]) then Some (import_symbol i) else None)
    at None = refl
    at (Some t) = refl

pub as_many : {A : Type 0} (f : A → Typed) (symbols : List Symbol) (ones : List A) → map pair_of symbols ≡ map f ones
    → length symbols ≡ length ones
as_many f symbols ones made = sym (length-map symbols pair_of) ∙ ap length made ∙ length-map ones f

-- a symbol is that of what stands at its place
pub symbol_at : {A : Type 0} (f : A → Typed) (symbols : List Symbol) (ones : List A) (i : ℕ) (s : Symbol) (x : A)
    → map pair_of symbols ≡ map f ones → i < length ones → s ≡ get_or symbols i s → slice_get ones i ≡ Some x → pair_of s ≡ f x
symbol_at f symbols ones i s x made less read at =
    let many : length symbols ≡ length ones = as_many f symbols ones made in
    let is : slice_get symbols i ≡ Some s = slice_get-get_or symbols i s (omega (arith, many, less)) ∙ ap Some (sym read) in
    same_Some _ _
    (sym (ap (option_map pair_of) is) ∙ sym (slice_get-map pair_of symbols i) ∙ ap (λ ps. slice_get ps i) made
    ∙ slice_get-map f ones i ∙ ap (option_map f) at)

-- an item stands at its place in the list
pub stands_there : {A : Type 0} (xs items : List A) (i : ℕ) (x : A) → items ≡ xs → i < length items → x ≡ get_or items i x
    → slice_get xs i ≡ Some x
stands_there xs items i x same less read =
    ap (λ ys. slice_get ys i) (sym same) ∙ slice_get-get_or items i x less ∙ ap Some (sym read)
