-- Some text spells the one unit.
use Rattle.c_merge.proofs.Common.{◌≡◌, ℕ, zero, suc, ◌+◌, ◌-◌, ◌<◌, Bool, true, false, not, ◌&&◌, ◌||◌, List, [], ◌∷◌, ◌++◌, map, ◌==◌, sym}
use Rattle.c_merge.proofs.Common.{if◌then◌else◌, slice_get, Some, None, Option, option_map, bytes_eq, refl, ap, ◌∙◌, subst, arith, list_all}
use Rattle.c_merge.proofs.Common.{and_parts, both_ways, false≢true, length-map, bytes_eq-Decides, AllByRecursion, list_any, all_join, Name}
use Rattle.c_merge.proofs.Common.{by_test, FitsArg, FitsBody, FitsCallee, FitsExpr, FitsItem, FitsNum, FitsStmt, Formed, depth_limit}
use Rattle.c_merge.proofs.Common.{Program, decimal_text, is_outside, name_in, Renaming, merge_names, merged, or_right}
use Rattle.std.specs.Int.Digits.{digits_of, AllBelowBase}
use Rattle.std.proofs.lemmas.Bool.Decides.{nat_tests}
use Rattle.std.proofs.lemmas.Int.Digits.{all_below_base_digits_of}
use Rattle.std.proofs.Math.Bool.{or-true}
use Rattle.c_tree.specs.Tree as tree
use Rattle.c_tree.specs.Tokens.{fixed_text}
use Rattle.c_tree.specs.Text.{is_letter, is_word_byte, is_digit, key_words, other_words}
use Rattle.c_tree.specs.WellFormed.{is_key_word, IsName, IsNamedIfAny, NamedExpr, NamedArg, NamedCallee, NamedStmt, NamedBody, NamedItem}
use Rattle.c_tree.proofs.WellFormedUnits.{formed, well_formed}
use Rattle.c_renaming.specs.Renamed as renamed
use Rattle.w2c_base.proofs.OfEach.{all_from, all_at}
use Rattle.c_merge.proofs.NewNames.{new, new_var}
use Rattle.c_merge.proofs.Places.{placed_at}

-- ---- lists

all_map : {A B : Type 0} (P : A → Type 0) (Q : B → Type 0) (f : A → B) → ((a : A) → P a → Q (f a)) → (xs : List A)
    → AllByRecursion P xs → AllByRecursion Q (map f xs)
all_map P Q f give [] all = tt
all_map P Q f give (x ∷ xs) all = (give x all.0, all_map P Q f give xs all.1)

-- ---- new names are names

digit : (d : ℕ) → d < 10 → is_word_byte (48 + d) ≡ true
digit d less = or_right (is_letter (48 + d)) (is_digit (48 + d)) (grind (arith, nat_tests))

digits_words : (ds : List ℕ) → AllBelowBase 10 ds → list_all is_word_byte (map (λ d. 48 + d) ds) ≡ true
digits_words [] all = refl
digits_words (d ∷ ds) all = λ i. digit d all.0 i && digits_words ds all.1 i

text_words : (n : ℕ) → list_all is_word_byte (decimal_text n) ≡ true
text_words zero = refl
text_words (suc n) = digits_words (digits_of 10 (suc n)) (all_below_base_digits_of 10 (suc n) (omega arith))

name_words : (n : Name) → IsName n → list_all is_word_byte n ≡ true
name_words [] is = absurd (false≢true is)
name_words (b ∷ bs) is =
    let parts = and_parts (is_letter b && list_all is_word_byte bs) (not (is_key_word (b ∷ bs))) is in
    let word = and_parts (is_letter b) (list_all is_word_byte bs) parts.0 in
    λ i. ap (λ c. c || is_digit b) word.0 i && word.1 i

-- of the words that begin with u no key word has an underscore
abbrev is_apart : List ℕ → Bool
is_apart [] = true
is_apart (b ∷ bs) = not (b == 117) || not (list_any (λ c. c == 95) bs)

words_apart : list_all is_apart (map fixed_text key_words ++ other_words) ≡ true
words_apart = refl

none_equal : (w : List ℕ) → is_apart w ≡ false → (words : List (List ℕ)) → list_all is_apart words ≡ true
    → list_any (bytes_eq w) words ≡ false
none_equal w near [] all = refl
none_equal w near (v ∷ words) all =
    let both = and_parts (is_apart v) (list_all is_apart words) all in
    by_test (bytes_eq w v)
    (λ is. absurd (both_ways (is_apart w) near (ap is_apart ((bytes_eq-Decides w v).0 is) ∙ both.0)))
    (λ is. (λ i. is i || none_equal w near words both.1 i))

underscore : (ds : List ℕ) (x : Name) → list_any (λ c. c == 95) (ds ++ 95 ∷ x) ≡ true
underscore [] x = refl
underscore (d ∷ ds) x = ap (λ b. (d == 95) || b) (underscore ds x) ∙ or-true (d == 95)

pub new_named : (u : ℕ) (x : Name) → IsName x → IsName (name_in u x)
new_named u x is =
    let rest : list_all is_word_byte (decimal_text u ++ 95 ∷ x)
    ≡ true = all_join is_word_byte (decimal_text u) (95 ∷ x) (text_words u) (name_words x is) in
    let near : is_apart (name_in u x) ≡ false = ap not (underscore (decimal_text u) x) in
    λ i. rest i && not (none_equal (name_in u x) near (map fixed_text key_words ++ other_words) words_apart i)

var_named : (u : ℕ) (x : Name) → IsName x → IsName (new_var u x)
var_named u x is = grind (arith, new_named u x is)

func_named : (u : ℕ) (x : Name) → IsName x → IsName (new u x)
func_named u x is = go (is_outside x)
  where
    go : (b : Bool) → IsName (if b then x else name_in u x)
    go true = is
    go false = new_named u x is

maybe_named : (u : ℕ) (o : Option Name) → IsNamedIfAny o → IsNamedIfAny (option_map (new_var u) o)
maybe_named u None is = tt
maybe_named u (Some x) is = var_named u x is

module _ (p : Program) (u : ℕ) where
  abbrev ρ : Renaming
  ρ = merge_names p

  -- ---- the names of a tree

  expr_named : (e : tree.Expr) → NamedExpr e → NamedExpr (renamed.expr ρ u e)
  expr_named (tree.Name n) is = var_named u n is
  expr_named (tree.At n i) is = (var_named u n is.0, expr_named i is.1)
  expr_named (tree.Number n) is = tt
  expr_named (tree.To32 e) is = expr_named e is
  expr_named (tree.To64 e) is = expr_named e is
  expr_named (tree.Star n) is = var_named u n is
  expr_named (tree.Op o a b) is = (expr_named a is.0, expr_named b is.1)

  arg_named : (a : tree.Arg) → NamedArg a → NamedArg (renamed.arg ρ u a)
  arg_named (tree.Value e) is = expr_named e is
  arg_named (tree.Address n) is = var_named u n is
  arg_named (tree.OfFunction n) is = func_named u n is

  callee_named : (c : tree.Callee) → NamedCallee c → NamedCallee (renamed.callee ρ u c)
  callee_named (tree.Called n) is = func_named u n is
  callee_named (tree.Through t n) is = var_named u n is

  stmt_named : (s : tree.Stmt) → NamedStmt s → NamedStmt (renamed.stmt ρ u s)
  stmt_named (tree.Label n) is = new_named u n is
  stmt_named (tree.Set n a) is = (var_named u n is.0, arg_named a is.1)
  stmt_named (tree.SetStar n e) is = (var_named u n is.0, expr_named e is.1)
  stmt_named (tree.Call n f args) is =
      (maybe_named u n is.0, callee_named f is.1, all_map NamedArg NamedArg (renamed.arg ρ u) arg_named args is.2)
  stmt_named (tree.Goto n) is = new_named u n is
  stmt_named (tree.If o a b n) is = (expr_named a is.0, expr_named b is.1, new_named u n is.2)
  stmt_named (tree.Switch e cases n) is = (
    expr_named e is.0,
    all_map (λ (c : tree.Case). IsName c.1) (λ (c : tree.Case). IsName c.1) (renamed.case ρ u) (λ c. new_named u c.1) cases is.1,
    new_named u n is.2,
  )
  stmt_named (tree.Return a) is = arg_named a is
  stmt_named _ is = tt

  body_named : (o : Option tree.Body) → NamedBody o → NamedBody (option_map (renamed.body ρ u) o)
  body_named None is = tt
  body_named (Some b) is = (
    all_map (λ (l : tree.Local). IsName l.1) (λ (l : tree.Local). IsName l.1) (renamed.local ρ u) (λ l. var_named u l.1) b.locals is.0,
    all_map NamedStmt NamedStmt (renamed.stmt ρ u) stmt_named b.stmts is.1,
  )

  item_named : (i : tree.Item) → NamedItem i → NamedItem (renamed.item ρ u i)
  item_named (tree.Array n count bytes) is = var_named u n is
  item_named (tree.Var t n v) is = var_named u n is
  item_named (tree.Function f) is = (
    func_named u f.name is.0,
    all_map (λ (q : tree.Param). IsNamedIfAny q.1) (λ (q : tree.Param). IsNamedIfAny q.1) (renamed.param ρ u)
        (λ q. maybe_named u q.1) f.params is.1,
    body_named f.body is.2,
  )

  -- ---- its numbers and its depth

  expr_fits : (d : ℕ) (e : tree.Expr) → FitsExpr d e → FitsExpr d (renamed.expr ρ u e)
  expr_fits zero e is = absurd is
  expr_fits (suc d) (tree.At n i) is = expr_fits d i is
  expr_fits (suc d) (tree.Number n) is = is
  expr_fits (suc d) (tree.To32 e) is = expr_fits d e is
  expr_fits (suc d) (tree.To64 e) is = expr_fits d e is
  expr_fits (suc d) (tree.Op o a b) is = (expr_fits d a is.0, expr_fits d b is.1)
  expr_fits _ _ is = tt

  arg_fits : (d : ℕ) (a : tree.Arg) → FitsArg d a → FitsArg d (renamed.arg ρ u a)
  arg_fits d (tree.Value e) is = expr_fits d e is
  arg_fits d _ is = tt

  callee_fits : (c : tree.Callee) → FitsCallee c → FitsCallee (renamed.callee ρ u c)
  callee_fits (tree.Called n) is = tt
  callee_fits (tree.Through t n) is = is

  stmt_fits : (d : ℕ) (s : tree.Stmt) → FitsStmt d s → FitsStmt d (renamed.stmt ρ u s)
  stmt_fits d (tree.Set n a) is = arg_fits d a is
  stmt_fits d (tree.SetStar n e) is = expr_fits d e is
  stmt_fits d (tree.Call None f args) is = (callee_fits f is.0, all_map (FitsArg d) (FitsArg d) (renamed.arg ρ u) (arg_fits d) args is.1)
  stmt_fits d (tree.Call (Some n) f args) is =
      (callee_fits f is.0, all_map (FitsArg (d - 1)) (FitsArg (d - 1)) (renamed.arg ρ u) (arg_fits (d - 1)) args is.1)
  stmt_fits d (tree.If o a b n) is = (expr_fits d a is.0, expr_fits d b is.1)
  stmt_fits d (tree.Switch e cases n) is = (
    expr_fits d e is.0,
    all_map (λ (c : tree.Case). FitsNum c.0) (λ (c : tree.Case). FitsNum c.0) (renamed.case ρ u) (λ c fits. fits) cases is.1,
  )
  stmt_fits d (tree.Return a) is = arg_fits d a is
  stmt_fits d _ is = tt

  body_fits : (d : ℕ) (o : Option tree.Body) → FitsBody d o → FitsBody d (option_map (renamed.body ρ u) o)
  body_fits d None is = tt
  body_fits d (Some b) is = (
    all_map (λ (l : tree.Local). FitsNum l.2) (λ (l : tree.Local). FitsNum l.2) (renamed.local ρ u) (λ l fits. fits) b.locals is.0,
    all_map (FitsStmt d) (FitsStmt d) (renamed.stmt ρ u) (stmt_fits d) b.stmts is.1,
  )

  item_fits : (d : ℕ) (i : tree.Item) → FitsItem d i → FitsItem d (renamed.item ρ u i)
  item_fits d (tree.Function f) is = (subst (λ k. 0 < k) (sym (length-map f.params (renamed.param ρ u))) is.0, body_fits d f.body is.1)
  item_fits d _ is = is

-- units that texts spell become one that some text spells
pub one_formed : (p : Program) → ((u : ℕ) (items : List tree.Item) → slice_get p.units u ≡ Some items → Formed items)
    → Formed (merged p.units)
one_formed p each = formed (merged p.units) (record {
  named = all_from NamedItem (merged p.units) named;
  fits = all_from (FitsItem depth_limit) (merged p.units) fits;
})
  where
    named : (k : ℕ) (y : tree.Item) → slice_get (merged p.units) k ≡ Some y → NamedItem y
    named k y at =
        let from = (placed_at p k y at).from in
        let u = (placed_at p k y at).unit in
        subst NamedItem (sym from.is)
        (item_named p u from.item
        (all_at NamedItem from.items from.number from.item (well_formed from.items (each u from.items from.there)).named
        from.at))

    fits : (k : ℕ) (y : tree.Item) → slice_get (merged p.units) k ≡ Some y → FitsItem depth_limit y
    fits k y at =
        let from = (placed_at p k y at).from in
        let u = (placed_at p k y at).unit in
        subst (FitsItem depth_limit) (sym from.is)
        (item_fits p u depth_limit from.item
        (all_at (FitsItem depth_limit) from.items from.number from.item (well_formed from.items (each u from.items from.there)).fits
        from.at))
