-- Index spaces behind the imports.
use Rattle.wasm_tree.proofs.Common.{◌≡◌, ℕ, ◌+◌, ◌≤◌, min, List, [], ◌++◌, map, length, drop, slice_get, Option, option_map, flat_map, sym}
use Rattle.wasm_tree.proofs.Common.{ap, ◌∙◌, arith, slice_get-map}
use Rattle.std.proofs.lemmas.List.{at_drop_all}
use Rattle.wasm_tree.specs.declared.entries.Import.{Import}

-- where all imports are passed, an index is one of what the module defines
pub behind_imports : {A B : Type 0} (f : Import → List A) (g : B → A) (imports : List Import) (items others : List B) (i n : ℕ)
    (found : Option B) (whole : Option A)
    → items ≡ others → slice_get items n ≡ found
    → length imports ≤ i → slice_get (flat_map f (drop i imports) ++ map g others) n ≡ whole → option_map g found ≡ whole
behind_imports f g imports items others i n found whole same e past so_far =
    ap (option_map g) (sym e ∙ ap (λ xs. slice_get xs n) same)
    ∙ sym (at_drop_all (λ is. slice_get (flat_map f is ++ map g others) n) imports i past ∙ slice_get-map g others n) ∙ so_far

pub all_counted : (count : List Import → ℕ) → count [] ≡ 0 → (imports : List Import) (i n most whole : ℕ)
    → length imports ≤ i → n ≤ most → min (n + count (drop i imports)) most ≡ whole → n ≡ whole
all_counted count nothing imports i n most whole past fits so_far =
    let none : count (drop i imports) ≡ 0 = at_drop_all count imports i past ∙ nothing in
    let same : n ≡ min (n + count (drop i imports)) most = omega arith in
    same ∙ so_far
