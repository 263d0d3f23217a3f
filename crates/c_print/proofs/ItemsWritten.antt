-- The include line and the first items of a unit stand in the current file, and the others are left.
use Rattle.c_print.proofs.Common.{◌≡◌, List, [], ◌∷◌, ◌++◌, Contains, Option, sym, refl, ap, ◌∙◌, subst, append_assoc, append-nil, arith}
use Rattle.c_print.proofs.Common.{front_passed, more_passed, none_passed, nothing_put, part_passed, fixed_text, Item, each, print_item_of}
use Rattle.c_print.proofs.Common.{print_of}
use Rattle.std.proofs.lemmas.List.Elements.{Contains-append_right}
use Rattle.w2c_io.specs.Contents.{Name, Told, appending, AppendsPart}
use Rattle.w2c_io.specs.declared.answers.WriteAnswer.{WriteAnswer}
use Rattle.w2c_io.specs.declared.answers.WriteAnswer.TheVariants as writing
use Rattle.w2c_io.specs.Events.{Event}
use Rattle.w2c_io.specs.Passed.{Passes, PutsText, PutsPart}
use Rattle.w2c_io.proofs.Appending.{append_more, part_in_front, done_is_part, part_behind}
use Rattle.c_tree.specs.declared.token.Tok.TheVariants as tok

pub record IsWritten (old now : Told) (current : Option Name) (all left : List Item) : Type 0 where
  pub given : List Item
  pub split : all ≡ given ++ left
  pub stands : now ≡ appending old current (print_of given)

-- ---- texts of items

each_both : {A B : Type 0} (f : A → List B) (xs ys : List A) → each f (xs ++ ys) ≡ each f xs ++ each f ys
each_both f [] ys = refl
each_both f (x ∷ xs) ys = ap (λ l. f x ++ l) (each_both f xs ys) ∙ sym (append_assoc (f x) (each f xs) (each f ys))

print_both : (given left : List Item) → print_of (given ++ left) ≡ print_of given ++ each print_item_of left
print_both given left =
    ap (λ l. fixed_text tok.Include ++ l) (each_both print_item_of given left)
    ∙ sym (append_assoc (fixed_text tok.Include) (each print_item_of given) (each print_item_of left))

print_next : (given : List Item) (item : Item) → print_of (given ++ item ∷ []) ≡ print_of given ++ print_item_of item
print_next given item = print_both given (item ∷ []) ∙ ap (λ l. print_of given ++ l) (append-nil (print_item_of item))

-- ---- from the include line to the end

pub begun : (old now : Told) (current : Option Name) (all : List Item) → now ≡ appending old current (fixed_text tok.Include)
    → IsWritten old now current all all
begun old now current all is = record {
  given = [];
  split = refl;
  stands = is ∙ ap (appending old current) (sym (append-nil (fixed_text tok.Include)));
}

pub is_contained : (old now : Told) (current : Option Name) (all left after : List Item) (item : Item)
    → IsWritten old now current all left → left ≡ item ∷ after → Contains all item
is_contained old now current all left after item so_far next =
    subst (λ items. Contains items item) (sym (so_far.split ∙ ap (λ l. so_far.given ++ l) next))
    (Contains-append_right so_far.given (item ∷ after) item (0, omega arith, refl))

pub one_more : (old before now : Told) (current : Option Name) (all left after : List Item) (item : Item)
    → IsWritten old before current all left → left ≡ item ∷ after → now ≡ appending before current (print_item_of item)
    → IsWritten old now current all after
one_more old before now current all left after item so_far next is = record {
  given = so_far.given ++ item ∷ [];
  split = so_far.split ∙ ap (λ l. so_far.given ++ l) next ∙ sym (append_assoc so_far.given (item ∷ []) after);
  stands = is ∙ ap (λ told. appending told current (print_item_of item)) so_far.stands
      ∙ append_more old current (print_of so_far.given) (print_item_of item)
      ∙ ap (appending old current) (sym (print_next so_far.given item));
}

pub all_written : (old now : Told) (current : Option Name) (all left : List Item)
    → IsWritten old now current all left → left ≡ [] → now ≡ appending old current (print_of all)
all_written old now current all left so_far none =
    so_far.stands ∙ ap (λ items. appending old current (print_of items))
    (sym (so_far.split ∙ ap (λ l. so_far.given ++ l) none ∙ append-nil so_far.given))

-- ---- where it stops

pub stops_at_include : (old now : Told) (current : Option Name) (all : List Item)
    → AppendsPart old now current (fixed_text tok.Include) → AppendsPart old now current (print_of all)
stops_at_include old now current all part = part_in_front old now current (fixed_text tok.Include) (each print_item_of all) part

pub stops_between : (old now : Told) (current : Option Name) (all left : List Item)
    → IsWritten old now current all left → AppendsPart old now current (print_of all)
stops_between old now current all left so_far =
    subst (AppendsPart old now current) (sym (ap print_of so_far.split ∙ print_both so_far.given left))
    (done_is_part old now current (print_of so_far.given) (each print_item_of left) so_far.stands)

pub stops_in : (old before now : Told) (current : Option Name) (all left after : List Item) (item : Item)
    → IsWritten old before current all left → left ≡ item ∷ after → AppendsPart before now current (print_item_of item)
    → AppendsPart old now current (print_of all)
stops_in old before now current all left after item so_far next part =
    subst (AppendsPart old now current)
    (sym (ap print_of (so_far.split ∙ ap (λ l. so_far.given ++ l) next) ∙ print_both so_far.given (item ∷ after)))
    (part_behind old before now current (print_of so_far.given) (each print_item_of (item ∷ after)) so_far.stands
    (part_in_front before now current (print_item_of item) (each print_item_of after) part))

-- ---- what passes through the files meanwhile

-- the include line and the first items were put, and the others are left
pub record ArePut (old now : List Event) (all left : List Item) : Type 0 where
  pub given : List Item
  pub split : all ≡ given ++ left
  pub put : Passes old now (PutsText (print_of given))

pub put_include : (old now : List Event) (all : List Item) → Passes old now (PutsText (fixed_text tok.Include)) → ArePut old now all all
put_include old now all put = record {
  given = [];
  split = refl;
  put = subst (λ l. Passes old now (PutsText l)) (sym (append-nil (fixed_text tok.Include))) put;
}

pub put_more : (old before now : List Event) (all left after : List Item) (item : Item) → ArePut old before all left → left ≡ item ∷ after
    → Passes before now (PutsText (print_item_of item)) → ArePut old now all after
put_more old before now all left after item so_far next put = record {
  given = so_far.given ++ item ∷ [];
  split = so_far.split ∙ ap (λ l. so_far.given ++ l) next ∙ sym (append_assoc so_far.given (item ∷ []) after);
  put = subst (λ l. Passes old now (PutsText l)) (sym (print_next so_far.given item))
      (more_passed old before now (print_of so_far.given) (print_item_of item) so_far.put put);
}

pub put_all : (old now : List Event) (all left : List Item) → ArePut old now all left → left ≡ [] → Passes old now (PutsText (print_of all))
put_all old now all left so_far none =
    subst (λ items. Passes old now (PutsText (print_of items)))
    (sym (so_far.split ∙ ap (λ l. so_far.given ++ l) none ∙ append-nil so_far.given)) so_far.put

pub fails_at_include : (old now : List Event) (all : List Item) (why : WriteAnswer) → Passes old now (PutsPart (fixed_text tok.Include) why)
    → Passes old now (PutsPart (print_of all) why)
fails_at_include old now all why part =
    part_passed old old now (print_of all) [] (fixed_text tok.Include) (each print_item_of all) why refl
    (none_passed old (PutsText []) nothing_put) part

pub fails_between : (old now : List Event) (all left : List Item) → ArePut old now all left
    → Passes old now (PutsPart (print_of all) writing.Memory)
fails_between old now all left so_far =
    front_passed old now (print_of all) (print_of so_far.given) (each print_item_of left)
    (ap print_of so_far.split ∙ print_both so_far.given left) so_far.put

pub fails_in : (old before now : List Event) (all left after : List Item) (item : Item) (why : WriteAnswer) → ArePut old before all left
    → left ≡ item ∷ after → Passes before now (PutsPart (print_item_of item) why) → Passes old now (PutsPart (print_of all) why)
fails_in old before now all left after item why so_far next part =
    part_passed old before now (print_of all) (print_of so_far.given) (print_item_of item) (each print_item_of after) why
    (ap print_of (so_far.split ∙ ap (λ l. so_far.given ++ l) next) ∙ print_both so_far.given (item ∷ after)) so_far.put part
