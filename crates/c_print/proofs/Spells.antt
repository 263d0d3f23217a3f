-- The text that is printed of a unit spells it.
use Rattle.c_print.proofs.Common.{◌≡◌, ℕ, ◌+◌, Bool, true, false, cond, ◌&&◌, List, [], ◌∷◌, ◌++◌, map, sym, refl, ap, ◌∙◌, append_assoc}
use Rattle.c_print.proofs.Common.{append-nil, laid, CSpells, FitsItem, Formed, depth_limit, Fixed, Token, kind_of, token_text, Item, each}
use Rattle.c_print.proofs.Common.{item_tokens, unit_tokens, begins_list, closes, ends_block, ends_line, gap_between, is_named, opens}
use Rattle.c_print.proofs.Common.{print_item_of, print_of}
use Rattle.std.specs.List.{AllByRecursion}
use Rattle.c_tree.specs.declared.token.Tok.TheVariants as tok
use Rattle.c_tree.specs.Text.{lexeme, lexemes}
use Rattle.c_tree.proofs.Proper.{IsProper, EndsToken, IsReadAnywhere, reads, include_read, left_paren_read, left_bracket_read}
use Rattle.c_tree.proofs.Laid.{tokens_from, KeepsApart, laid_tokens}
use Rattle.c_tree.proofs.TextIsProper.{tokens_proper}
use Rattle.c_tree.proofs.TreeIsProper.{AllProper, each_of}
use Rattle.c_print.specs.ItemText.{IsItemOfUnit, SpellsItem}
use Rattle.w2c_base.proofs.OfEach.{of_contained}
use Rattle.w2c_base.proofs.Conjunctions.{both_hold}

-- ---- what stands between two tokens keeps them apart

-- this gap between a token and the text of the next one
abbrev IsApart : Token → Token → List ℕ → Type 0
IsApart t u space =
    (rest : List ℕ) (place : ℕ) → (q : ℕ)
    × (lexemes 0 place (token_text t ++ (space ++ (token_text u ++ rest))) ≡ lexeme place t ∷ lexemes 0 q (token_text u ++ rest))

choose : (t u : Token) (b : Bool) (x y : List ℕ) → (b ≡ true → IsApart t u x) → (b ≡ false → IsApart t u y) → IsApart t u (cond b x y)
choose t u true x y f g = f refl
choose t u false x y f g = g refl

opens_read : (t : Token) → opens (kind_of t) ≡ true → IsReadAnywhere t
opens_read (Fixed tok.Include) e = include_read
opens_read (Fixed tok.LeftParen) e = left_paren_read
opens_read (Fixed tok.LeftBracket) e = left_bracket_read
opens_read _ e = absurd cc

closes_ends : (u : Token) (rest : List ℕ) → closes (kind_of u) ≡ true → EndsToken (token_text u ++ rest)
closes_ends (Fixed tok.RightParen) rest e = refl
closes_ends (Fixed tok.RightBracket) rest e = refl
closes_ends (Fixed tok.RightBrace) rest e = refl
closes_ends (Fixed tok.Semicolon) rest e = refl
closes_ends (Fixed tok.Comma) rest e = refl
closes_ends (Fixed tok.Colon) rest e = refl
closes_ends _ rest e = absurd cc

begins_ends : (u : Token) (rest : List ℕ) → begins_list (kind_of u) ≡ true → EndsToken (token_text u ++ rest)
begins_ends (Fixed tok.LeftParen) rest e = refl
begins_ends (Fixed tok.LeftBracket) rest e = refl
begins_ends _ rest e = absurd cc

line_apart : (t u : Token) → IsProper t → IsApart t u (10 ∷ [])
line_apart t u is rest place = let h = reads t is (10 ∷ (token_text u ++ rest)) place refl in (h.0 + 1, h.1)

space_apart : (t u : Token) → IsProper t → IsApart t u (32 ∷ [])
space_apart t u is rest place = let h = reads t is (32 ∷ (token_text u ++ rest)) place refl in (h.0 + 1, h.1)

gap_apart : KeepsApart gap_between
gap_apart t u is next =
    choose t u (opens (kind_of t)) _ _ (λ e rest place. opens_read t e (token_text u ++ rest) place) (λ _.
    choose t u (ends_line (kind_of t)) _ _ (λ _. line_apart t u is) (λ _.
    choose t u (ends_block (kind_of t) (kind_of u)) _ _ (λ _. line_apart t u is) (λ _.
    choose t u (closes (kind_of u)) _ _ (λ e rest place. reads t is (token_text u ++ rest) place (closes_ends u rest e)) (λ _.
    choose t u (is_named (kind_of t) && begins_list (kind_of u)) _ _
    (λ e rest place. reads t is (token_text u ++ rest) place
    (begins_ends u rest (both_hold (is_named (kind_of t)) (begins_list (kind_of u)) e).1)) (λ _. space_apart t u is)))))

-- ---- the tokens of the text are those of the unit

-- of an item, in front of others
item_read : (ts : List Token) → AllProper ts → (rest : List ℕ) (place : ℕ)
    → (q : ℕ) × (tokens_from 0 place ((laid gap_between (Fixed tok.Include) ts ++ 10 ∷ []) ++ rest) ≡ ts ++ tokens_from 0 q rest)
item_read [] all rest place = (place + 1, refl)
item_read (t ∷ ts) all rest place =
    let h = laid_tokens gap_between gap_apart t ts all.0 all.1 (10 ∷ rest) refl place in
    let same : ((token_text t ++ laid gap_between t ts) ++ 10 ∷ []) ++ rest ≡ token_text t ++ (laid gap_between t ts ++ 10 ∷ rest) =
    append_assoc (token_text t ++ laid gap_between t ts) (10 ∷ []) rest ∙ append_assoc (token_text t) (laid gap_between t ts) (10 ∷ rest) in
    (h.0 + 1, ap (tokens_from 0 place) same ∙ h.1)

items_read : (u : List Item) → AllByRecursion (λ i. AllProper (item_tokens i)) u → (place : ℕ)
    → tokens_from 0 place (each print_item_of u) ≡ each item_tokens u ++ Fixed tok.End ∷ []
items_read [] all place = refl
items_read (i ∷ is) all place =
    let h = item_read (item_tokens i) all.0 (each print_item_of is) place in
    h.1 ∙ ap (λ ts. item_tokens i ++ ts) (items_read is all.1 h.0)
    ∙ sym (append_assoc (item_tokens i) (each item_tokens is) (Fixed tok.End ∷ []))

items_proper : (u : List Item) → Formed u → AllByRecursion (λ i. AllProper (item_tokens i)) u
items_proper u formed =
    let proper = tokens_proper formed.0 (unit_tokens u) formed.1.in_order in
    each_of item_tokens (λ i. AllProper (item_tokens i)) (λ i all. all) u proper.1

pub spells : (u : List Item) → Formed u → CSpells u (print_of u)
spells u formed =
    let items = items_proper u formed in
    let h = include_read (each print_item_of u) 0 in
    record {
      in_order = ap (map (λ l. l.token)) h.1 ∙ ap (λ ts. Fixed tok.Include ∷ ts) (items_read u items h.0);
      fits = formed.1.fits;
    }

pub spells_item : (item : Item) → IsItemOfUnit item → SpellsItem item (print_item_of item)
spells_item item (unit, formed, there) =
    let proper = of_contained (λ i. AllProper (item_tokens i)) unit item (items_proper unit formed) there in
    let h = item_read (item_tokens item) proper [] 0 in
    record {
      in_order = ap (tokens_from 0 0) (sym (append-nil (print_item_of item))) ∙ h.1;
      fits = of_contained (FitsItem depth_limit) unit item formed.1.fits there;
    }
