-- Names in an ordered set, and the exports that have a name of an earlier one.
use Rattle.wasm_valid.proofs.Common.{◌≡◌, ℕ, suc, ◌+◌, ◌<◌, Bool, true, false, not, ◌||◌, List, [], ◌∷◌, ◌++◌, length, get_or, take, drop}
use Rattle.wasm_valid.proofs.Common.{Option, bytes_eq, nat_cmp, sym, refl, ap, ◌∙◌, add-one, drop-cons, take-suc, Bor, list_any_more}
use Rattle.wasm_valid.proofs.Common.{list_any, entered, duplicate_exports, fault_if, Fault}
use Rattle.std.specs.declared.cmp.Ordering.{Ordering}
use Rattle.std.specs.declared.cmp.Ordering.TheVariants.{Less, Equal, Greater}
use Rattle.std.specs.Ordering.{match_ordering}
use Rattle.std.specs.Cmp.Lexicographic.{slice_cmp}
use Rattle.std.specs.BTreeMap.{is_at}
use Rattle.std.specs.BTreeSet.{insert_key}
use Rattle.std.proofs.lemmas.Map.Lookups.{exact_bytes}
use Rattle.std.proofs.lemmas.Map.Text.{is_eq-slice_cmp}
use Rattle.std.proofs.Math.Bool.{or_comm}
use Rattle.w2c_base.proofs.Tests.{bytes_eq-sym}
use Rattle.wasm_tree.specs.declared.entries.Export.{Export}
use Rattle.wasm_valid.proofs.Entered.{entered-append}
use Rattle.wasm_typing.specs.declared.fault.ValidCause.TheVariants as cause

abbrev pub name_cmp : Bor (List ℕ) → Bor (List ℕ) → Ordering
name_cmp x y = slice_cmp nat_cmp x.now y.now

-- whether a name is among the keys
abbrev pub is_among : List ℕ → List (Bor (List ℕ)) → Bool
is_among name keys = list_any (λ key. bytes_eq key.now name) keys

pub found_name : (k : Bor (List ℕ)) (keys : List (Bor (List ℕ))) → list_any (is_at (name_cmp k)) keys ≡ is_among k.now keys
found_name k [] = refl
found_name k (x ∷ keys) =
    ap (λ b. b || list_any (is_at (name_cmp k)) keys) (is_eq-slice_cmp k.now x.now ∙ bytes_eq-sym k.now x.now)
    ∙ ap (λ b. bytes_eq x.now k.now || b) (found_name k keys)

-- one more key
at_place : (name : List ℕ) (k x : Bor (List ℕ)) (keys more : List (Bor (List ℕ))) (o : Ordering) → (o ≡ Equal → k.now ≡ x.now)
    → is_among name more ≡ (bytes_eq k.now name || is_among name keys)
    → is_among name (match_ordering o (k ∷ x ∷ keys) (x ∷ keys) (x ∷ more)) ≡ (bytes_eq k.now name || is_among name (x ∷ keys))
at_place name k x keys more Less same e = refl
at_place name k x keys more Equal same e =
    twice (bytes_eq x.now name) (is_among name keys) ∙ ap (λ n. bytes_eq n name || is_among name (x ∷ keys)) (sym (same refl))
  where
    twice : (a b : Bool) → (a || b) ≡ (a || (a || b))
    twice true b = refl
    twice false b = refl
at_place name k x keys more Greater same e =
    ap (λ b. bytes_eq x.now name || b) e ∙ swap (bytes_eq x.now name) (bytes_eq k.now name) (is_among name keys)
  where
    swap : (a b c : Bool) → (a || (b || c)) ≡ (b || (a || c))
    swap true true c = refl
    swap true false c = refl
    swap false b c = refl

is_among-insert : (name : List ℕ) (keys : List (Bor (List ℕ))) (k : Bor (List ℕ))
    → is_among name (insert_key name_cmp keys k) ≡ (bytes_eq k.now name || is_among name keys)
is_among-insert name [] k = refl
is_among-insert name (x ∷ keys) k =
    at_place name k x keys (insert_key name_cmp keys k) (name_cmp k x) (exact_bytes k.now x.now) (is_among-insert name keys k)

abbrev is_named : List ℕ → Export → Bool
is_named name e = bytes_eq e.name name

-- the keys have the names of the first i exports; then one more of each
pub one_more_name : (name : List ℕ) (old new : List (Bor (List ℕ))) (k : Bor (List ℕ)) (exports : List Export) (i : ℕ) (e : Export)
    → i < length exports → e ≡ get_or exports i e → k.now ≡ e.name → new ≡ insert_key name_cmp old k
    → is_among name old ≡ list_any (is_named name) (take i exports)
    → is_among name new ≡ list_any (is_named name) (take (i + 1) exports)
one_more_name name old new k exports i e less read named inserted so_far =
    ap (is_among name) inserted ∙ is_among-insert name old k
    ∙ ap (λ b. bytes_eq k.now name || b) so_far
    ∙ ap (λ n. bytes_eq n name || list_any (is_named name) (take i exports)) (named ∙ ap (λ x. x.name) read)
    ∙ or_comm (is_named name (get_or exports i e)) (list_any (is_named name) (take i exports))
    ∙ sym (list_any_more (is_named name) exports i e less)

-- what the set says of a name
pub known_name : (is_new : Bool) (keys : List (Bor (List ℕ))) (k : Bor (List ℕ)) (name : List ℕ) (known : Bool)
    → is_new ≡ not (list_any (is_at (name_cmp k)) keys) → k.now ≡ name → is_among name keys ≡ known → not is_new ≡ known
known_name is_new keys k name known added named so_far =
    ap not added ∙ not-not (list_any (is_at (name_cmp k)) keys) ∙ found_name k keys ∙ ap (λ n. is_among n keys) named ∙ so_far
  where
    not-not : (b : Bool) → not (not b) ≡ b
    not-not true = refl
    not-not false = refl

-- one step over the exports
pub next_export : (before after whole : Option Fault) (exports : List Export) (i : ℕ) (e : Export) (is_new : Bool)
    → i < length exports → e ≡ get_or exports i e → not is_new ≡ list_any (is_named e.name) (take i exports)
    → after ≡ entered before (fault_if (not is_new) e.name_place cause.DuplicateExport)
    → entered before (duplicate_exports (take i exports) (drop i exports)) ≡ whole
    → entered after (duplicate_exports (take (i + 1) exports) (drop (i + 1) exports)) ≡ whole
next_export before after whole exports i e is_new less read known new so_far =
    ap (λ found. entered found (duplicate_exports (take (i + 1) exports) (drop (i + 1) exports)))
    (new ∙ ap (λ b. entered before (fault_if b e.name_place cause.DuplicateExport)) known)
    ∙ (ap (λ n. entered (entered before (fault_of e)) (duplicate_exports (take n exports) (drop n exports))) (add-one i)
    ∙ ap (λ xs. entered (entered before (fault_of e)) (duplicate_exports xs (drop (suc i) exports)))
    (take-suc exports i e less ∙ ap (λ x. take i exports ++ x ∷ []) (sym read))
    ∙ sym (ap (λ xs. entered before (duplicate_exports (take i exports) xs))
    (drop-cons exports i e less ∙ ap (λ x. x ∷ drop (suc i) exports) (sym read))
    ∙ entered-append before (fault_of e) (duplicate_exports (take i exports ++ e ∷ []) (drop (suc i) exports)))
    ∙ so_far)
  where
    fault_of : Export → List Fault
    fault_of x = fault_if (list_any (is_named x.name) (take i exports)) x.name_place cause.DuplicateExport
