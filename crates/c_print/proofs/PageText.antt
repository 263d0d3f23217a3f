-- The text of a page on which tokens and items were put.
use Rattle.c_print.proofs.Common.{◌≡◌, ℕ, List, [], ◌∷◌, ◌++◌, sym, refl, ap, ◌∙◌, append_assoc, append-nil, laid, Fixed, Token, fixed_text}
use Rattle.c_print.proofs.Common.{kind_of, token_text, Item, each, item_tokens, items_onto, printed_onto, gap, gap_between, print_item_of}
use Rattle.c_print.proofs.Common.{Page}
use Rattle.c_tree.specs.declared.token.Tok.TheVariants as tok
use Rattle.c_tree.specs.declared.token.Kind.TheVariants as kind
use Rattle.c_print.specs.Page.{printed, ended}

-- an include line on an empty page
pub include_put : printed (record { text = []; last = kind.Fixed tok.Include }) (Fixed tok.Include)
    ≡ record { text = fixed_text tok.Include; last = kind.Fixed tok.Include }
unfolding printed
include_put = refl

pub onto_text : (page : Page) (t : Token) (ts : List Token) → page.last ≡ kind_of t
    → (printed_onto page ts).text ≡ page.text ++ laid gap_between t ts
unfolding printed
onto_text page t [] e = sym (append-nil page.text)
onto_text page t (u ∷ us) e =
    onto_text (printed page u) u us refl
    ∙ append_assoc (page.text ++ gap page.last (kind_of u)) (token_text u) (laid gap_between u us)
    ∙ append_assoc page.text (gap page.last (kind_of u)) (token_text u ++ laid gap_between u us)
    ∙ ap (λ last. page.text ++ (gap last (kind_of u) ++ (token_text u ++ laid gap_between u us))) e

pub items_text : (page : Page) (items : List Item) → page.last ≡ kind.Fixed tok.Include
    → (items_onto page items).text ≡ page.text ++ each print_item_of items
unfolding ended
items_text page [] e = sym (append-nil page.text)
items_text page (i ∷ is) e =
    let line : List ℕ = laid gap_between (Fixed tok.Include) (item_tokens i) in
    items_text (ended (printed_onto page (item_tokens i))) is refl
    ∙ ap (λ text. (text ++ 10 ∷ []) ++ each print_item_of is) (onto_text page (Fixed tok.Include) (item_tokens i) e)
    ∙ ap (λ text. text ++ each print_item_of is) (append_assoc page.text line (10 ∷ []))
    ∙ append_assoc page.text (line ++ 10 ∷ []) (each print_item_of is)

-- the text of one item on a page of its own
pub item_text : (item : Item) → (ended (printed_onto (record { text = []; last = kind.Fixed tok.Include }) (item_tokens item))).text
    ≡ print_item_of item
unfolding ended
item_text item =
    ap (λ text. text ++ 10 ∷ []) (onto_text (record { text = []; last = kind.Fixed tok.Include }) (Fixed tok.Include)
    (item_tokens item) refl)
