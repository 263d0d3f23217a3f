-- Labels of statements that are the names of distinct numbers are distinct.
use Rattle.std.proofs.lemmas.List.Elements.{filter_map-append}
use Rattle.c_tree.specs.Tree as tree
use Rattle.c_tree.specs.Rules.{labels_of, label_of, are_distinct}
use Rattle.c_tree.proofs.Common.{◌≡◌, ℕ, ◌+◌, ◌^◌, ◌<◌, ◌≤◌, true, false, ◌||◌, ◌≢◌, List, [], ◌∷◌, ◌++◌, map, if◌then◌else◌, sym, refl, ap}
use Rattle.c_tree.proofs.Common.{◌∙◌, subst, arith, AllByRecursion, all_append}
use Rattle.std.proofs.lemmas.List.{map-append}
use Rattle.std.specs.Prelude.{⊤}
use Rattle.c_tree.specs.Scope.{Name, is_among}
use Rattle.c_tree.specs.DefinedNames.{label_name}
use Rattle.w2c_base.proofs.Lists.{all_weaker}
use Rattle.c_tree.proofs.NameClasses.{GivesNames, lettered}

pub labels-append : (xs ys : List tree.Stmt) → labels_of (xs ++ ys) ≡ labels_of xs ++ labels_of ys
labels-append xs ys = filter_map-append label_of xs ys

-- ---- numbers

abbrev pub NoneIs : ℕ → List ℕ → Type 0
NoneIs n numbers = AllByRecursion (λ m. n ≢ m) numbers

abbrev pub Differ : List ℕ → Type 0
Differ [] = ⊤
Differ (n ∷ numbers) = NoneIs n numbers × Differ numbers

-- the labels are those of distinct numbers, and this holds of them
pub record Numbered (P : ℕ → Type 0) (stmts : List tree.Stmt) : Type 0 where
  pub numbers : List ℕ
  pub same : labels_of stmts ≡ map label_name numbers
  pub all : AllByRecursion P numbers
  pub differ : Differ numbers

abbrev pub Between : ℕ → ℕ → ℕ → Type 0
Between l u n = (l ≤ n) × (n < u)

-- numbers from l on, below u
abbrev pub Within : ℕ → ℕ → List tree.Stmt → Type 0
Within l u stmts = Numbered (Between l u) stmts

differ_by : (P Q : ℕ → Type 0) (xs ys : List ℕ) → ((n k : ℕ) → P n → Q k → n ≢ k) → AllByRecursion P xs → AllByRecursion Q ys
    → Differ xs → Differ ys → Differ (xs ++ ys)
differ_by P Q [] ys apart p q d e = e
differ_by P Q (x ∷ xs) ys apart p q d e = (
  all_append (λ k. x ≢ k) xs ys d.0 (all_weaker Q (λ k. x ≢ k) ys (λ k h. apart x k p.0 h) q),
  differ_by P Q xs ys apart p.1 q d.1 e,
)

-- ---- statements

pub none : (l u : ℕ) (stmts : List tree.Stmt) → labels_of stmts ≡ [] → Within l u stmts
none l u stmts e = record { numbers = []; same = e; all = tt; differ = tt }

pub one : (l u n : ℕ) → l ≤ n → n < u → Within l u (tree.Label (label_name n) ∷ [])
one l u n le less = record { numbers = n ∷ []; same = refl; all = ((le, less), tt); differ = (tt, tt) }

pub joined : (P Q R : ℕ → Type 0) (xs ys : List tree.Stmt) → ((n : ℕ) → P n → R n) → ((n : ℕ) → Q n → R n)
    → ((n k : ℕ) → P n → Q k → n ≢ k) → Numbered P xs → Numbered Q ys → Numbered R (xs ++ ys)
joined P Q R xs ys f g apart a b = record {
  numbers = a.numbers ++ b.numbers;
  same = labels-append xs ys ∙ (ap (λ names. names ++ labels_of ys) a.same
      ∙ (ap (λ names. map label_name a.numbers ++ names) b.same ∙ sym (map-append label_name a.numbers b.numbers)));
  all = all_append R a.numbers b.numbers (all_weaker P R a.numbers f a.all) (all_weaker Q R b.numbers g b.all);
  differ = differ_by P Q a.numbers b.numbers apart a.all b.all a.differ b.differ;
}

-- the first's numbers lie below the second's
pub upward : (l m u : ℕ) (xs ys : List tree.Stmt) → l ≤ m → m ≤ u → Within l m xs → Within m u ys → Within l u (xs ++ ys)
upward l m u xs ys p q a b = joined (Between l m) (Between m u) (Between l u) xs ys (λ n h. (h.0, omega (arith, h.1, q)))
    (λ n h. (omega (arith, h.0, p), h.1)) (λ n k h j e. absurd (omega (arith, h.1, j.0, e))) a b

-- the second's lie below the first's
pub downward : (l m u : ℕ) (xs ys : List tree.Stmt) → l ≤ m → m ≤ u → Within m u xs → Within l m ys → Within l u (xs ++ ys)
downward l m u xs ys p q a b = joined (Between m u) (Between l m) (Between l u) xs ys (λ n h. (omega (arith, h.0, p), h.1))
    (λ n h. (h.0, omega (arith, h.1, q))) (λ n k h j e. absurd (omega (arith, h.0, j.1, e))) a b

pub wider : (l u l' u' : ℕ) (xs : List tree.Stmt) → l' ≤ l → u ≤ u' → Within l u xs → Within l' u' xs
wider l u l' u' xs p q a = record {
  numbers = a.numbers;
  same = a.same;
  all = all_weaker (Between l u) (Between l' u') a.numbers (λ n h. (omega (arith, h.0, p), omega (arith, h.1, q))) a.all;
  differ = a.differ;
}

-- statements in front without labels, and one
pub skip : (P : ℕ → Type 0) (xs ys : List tree.Stmt) → labels_of xs ≡ [] → Numbered P ys → Numbered P (xs ++ ys)
skip P xs ys e a = record {
  numbers = a.numbers;
  same = labels-append xs ys ∙ (ap (λ o. o ++ labels_of ys) e ∙ a.same);
  all = a.all;
  differ = a.differ;
}

pub behind_one : (l u : ℕ) (stmt : tree.Stmt) (xs : List tree.Stmt) → labels_of (stmt ∷ []) ≡ [] → Within l u xs → Within l u (stmt ∷ xs)
behind_one l u stmt xs e a = skip (Between l u) (stmt ∷ []) xs e a

-- ---- distinct labels

other_label : GivesNames label_name
other_label = lettered 76

pub not_among : (f : ℕ → Name) → GivesNames f → (n : ℕ) (numbers : List ℕ) → n < 2 ^ 64 → AllByRecursion (λ m. m < 2 ^ 64) numbers
    → NoneIs n numbers
    → is_among (f n) (map f numbers) ≡ false
not_among f gives n [] small high none_is = refl
not_among f gives n (m ∷ numbers) small high none_is = rw (gives n m small high.0 none_is.0)
    (not_among f gives n numbers small high.1 none_is.1)

pub all_differ : (f : ℕ → Name) → GivesNames f → (numbers : List ℕ) → AllByRecursion (λ m. m < 2 ^ 64) numbers → Differ numbers
    → are_distinct (map f numbers) ≡ true
all_differ f gives [] high differ = refl
all_differ f gives (n ∷ numbers) high differ = rw (not_among f gives n numbers high.0 high.1 differ.0)
    (all_differ f gives numbers high.1 differ.1)

pub labels_differ : (l u : ℕ) (stmts : List tree.Stmt) → u ≤ 2 ^ 64 → Within l u stmts → are_distinct (labels_of stmts) ≡ true
labels_differ l u stmts few a =
    subst (λ names. are_distinct names ≡ true) (sym a.same)
    (all_differ label_name other_label a.numbers (all_weaker (Between l u) (λ n. n < 2 ^ 64) a.numbers
    (λ n h. omega (arith, h.1, few)) a.all) a.differ)
