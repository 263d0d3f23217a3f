-- A text that grows by tokens at its end.
use Rattle.std.specs.Prelude.{List, [], ◌∷◌, ◌++◌}
use Rattle.c_tree.specs.declared.token.Tok.TheVariants as tok
use Rattle.c_tree.specs.declared.token.Kind.TheVariants as kind
use Rattle.c_tree.specs.Tree.{Item}
use Rattle.c_tree.specs.Tokens.{Token, token_text, kind_of}
use Rattle.c_tree.specs.Trees.{item_tokens}
use Rattle.c_print.specs.declared.page.Page.{Page}
use Rattle.c_print.specs.Print.{gap}

-- with a token at its end
unfoldable pub printed : Page → Token → Page
printed page t = record { text = (page.text ++ gap page.last (kind_of t)) ++ token_text t; last = kind_of t }

-- with these tokens at its end
abbrev pub printed_onto : Page → List Token → Page
printed_onto page [] = page
printed_onto page (t ∷ ts) = printed_onto (printed page t) ts

-- with its last line ended
unfoldable pub ended : Page → Page
ended page = record { text = page.text ++ 10 ∷ []; last = kind.Fixed tok.Include }

-- with these items at its end, each followed by a newline
abbrev pub items_onto : Page → List Item → Page
items_onto page [] = page
items_onto page (item ∷ items) = items_onto (ended (printed_onto page (item_tokens item))) items
