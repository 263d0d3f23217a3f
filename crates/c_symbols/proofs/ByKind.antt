-- Lists of what stands in a module, each of one kind, that are made in one pass.
use Rattle.c_symbols.proofs.Common.{◌≡◌, ℕ, ◌+◌, ◌<◌, ◌≤◌, Bool, true, false, List, [], ◌∷◌, ◌++◌, map, length, get_or, drop, if◌then◌else◌}
use Rattle.c_symbols.proofs.Common.{filter, sym, refl, ap, ◌∙◌, append_assoc, append-nil, arith, drop_all, ValType, func_of_import}
use Rattle.c_symbols.proofs.Common.{global_of_import, is_global_import, Import, at_front}
use Rattle.wasm_tree.specs.declared.entries.ImportKind.{ImportKind}
use Rattle.wasm_tree.specs.declared.entries.ImportKind.TheVariants.{Func as ImportFunc, Global as ImportGlobal}

pub kind_next : {A B : Type 0} (p : A → Bool) (f : A → B) (before after whole : List B) (name : B) (xs items : List A) (i : ℕ) (x : A)
    → items ≡ xs → i < length items → x ≡ get_or items i x → name ≡ f x → after ≡ before ++ map (λ j. name) (filter p (x ∷ []))
    → before ++ map f (filter p (drop i xs)) ≡ whole → after ++ map f (filter p (drop (i + 1) xs)) ≡ whole
kind_next {A} {B} p f before after whole name xs items i x same less read is grown so_far =
    let within : i < length xs = omega (arith, less, ap length same) in
    let item : x ≡ get_or xs i x = read ∙ ap (λ ys. get_or ys i x) same in
    let rest = drop (i + 1) xs in
    ap (λ ys. ys ++ map f (filter p rest)) grown
    ∙ append_assoc before (map (λ j. name) (filter p (x ∷ []))) (map f (filter p rest))
    ∙ ap (λ ys. before ++ ys) (at (p x) (filter p rest))
    ∙ ap (λ ys. before ++ map f (filter p ys)) (sym (at_front xs i x within item))
    ∙ so_far
  where
    at : (b : Bool) (left : List A) → map (λ j. name) (if b then x ∷ [] else []) ++ map f left ≡ map f (if b then x ∷ left else left)
    at true left = ap (λ n. n ∷ map f left) is
    at false left = refl

-- past the last one nothing is left to be made
pub nothing_left : {A B : Type 0} (f : List A → List B) (made whole : List B) (xs : List A) (i : ℕ) → f [] ≡ [] → length xs ≤ i
    → made ++ f (drop i xs) ≡ whole → made ≡ whole
nothing_left f made whole xs i none past so_far =
    sym (append-nil made) ∙ ap (λ ys. made ++ ys) (sym none) ∙ ap (λ ys. made ++ f ys) (sym (drop_all i xs past)) ∙ so_far

-- nor past the last one of a list that is this one
pub none_more : {A B : Type 0} (f : List A → List B) (made whole : List B) (xs items : List A) (i : ℕ) → items ≡ xs → f [] ≡ []
    → length items ≤ i → made ++ f (drop i xs) ≡ whole → made ≡ whole
none_more f made whole xs items i same none past so_far =
    let end : length xs ≤ i = omega (arith, past, ap length same) in nothing_left f made whole xs i none end so_far

-- what an import brings to an index space
pub func_brought : (i : Import) (t : ℕ) (before after : List ℕ) → i.kind ≡ ImportFunc t → after ≡ before ++ t ∷ []
    → after ≡ before ++ func_of_import i
func_brought i t before after e grown = rw e grown

pub no_func_brought : (i : Import) (before after : List ℕ) → ((t : ℕ) → i.kind ≡ ImportFunc t → ⊥) → after ≡ before
    → after ≡ before ++ func_of_import i
no_func_brought i before after other same = same ∙ sym (append-nil before) ∙ ap (λ ys. before ++ ys) (at i.kind refl)
  where
    at : (k : ImportKind) → i.kind ≡ k → [] ≡ func_of_import i
    at (ImportFunc t) e = absurd (other t e)
    at _ e = rw e refl

pub global_brought : (i : Import) (t : ValType) (mutable : Bool) (before after : List (ValType × Bool)) → i.kind ≡ ImportGlobal t mutable
    → after ≡ before ++ (t, mutable) ∷ [] → after ≡ before ++ global_of_import i
global_brought i t mutable before after e grown = rw e grown

pub no_global_brought : (i : Import) (before after : List (ValType × Bool))
    → ((t : ValType) (mutable : Bool) → i.kind ≡ ImportGlobal t mutable → ⊥) → after ≡ before
    → after ≡ before ++ global_of_import i
no_global_brought i before after other same = same ∙ sym (append-nil before) ∙ ap (λ ys. before ++ ys) (at i.kind refl)
  where
    at : (k : ImportKind) → i.kind ≡ k → [] ≡ global_of_import i
    at (ImportGlobal t mutable) e = absurd (other t mutable e)
    at _ e = rw e refl

-- what is made of the imported globals alone
pub global_drawn : {A : Type 0} (i : Import) (t : ValType) (mutable : Bool) (made : A) (before after : List A)
    → i.kind ≡ ImportGlobal t mutable → after ≡ before ++ made ∷ []
    → after ≡ before ++ map (λ j. made) (filter is_global_import (i ∷ []))
global_drawn i t mutable made before after e grown = rw e grown

pub no_global_drawn : {A : Type 0} (i : Import) (made : A) (before after : List A)
    → ((t : ValType) (mutable : Bool) → i.kind ≡ ImportGlobal t mutable → ⊥) → after ≡ before
    → after ≡ before ++ map (λ j. made) (filter is_global_import (i ∷ []))
no_global_drawn i made before after other same = same ∙ sym (append-nil before) ∙ ap (λ ys. before ++ ys) (at i.kind refl)
  where
    at : (k : ImportKind) → i.kind ≡ k → [] ≡ map (λ (j : Import). made) (filter is_global_import (i ∷ []))
    at (ImportGlobal t mutable) e = absurd (other t mutable e)
    at _ e = rw e refl
