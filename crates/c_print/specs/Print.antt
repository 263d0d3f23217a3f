-- The text that is printed of a unit.
use Rattle.std.specs.Prelude.{ℕ, Bool, true, false, ◌&&◌, List, [], ◌∷◌, ◌++◌, if◌then◌else◌}
use Rattle.c_tree.specs.declared.token.Tok.TheVariants as tok
use Rattle.c_tree.specs.declared.token.Kind.{Kind}
use Rattle.c_tree.specs.declared.token.Kind.TheVariants as kind
use Rattle.c_tree.specs.Tree.{Item}
use Rattle.c_tree.specs.Tokens.{Token, Fixed, fixed_text, kind_of}
use Rattle.c_tree.specs.Layout.{laid}
use Rattle.c_tree.specs.Trees.{each, item_tokens}

-- nothing stands behind the include line, ( and [
abbrev pub opens : Kind → Bool
opens (kind.Fixed tok.Include) = true
opens (kind.Fixed tok.LeftParen) = true
opens (kind.Fixed tok.LeftBracket) = true
opens _ = false

-- ; and { end a line
abbrev pub ends_line : Kind → Bool
ends_line (kind.Fixed tok.Semicolon) = true
ends_line (kind.Fixed tok.LeftBrace) = true
ends_line _ = false

-- } ends one too, unless ; follows
abbrev pub ends_block : Kind → Kind → Bool
ends_block (kind.Fixed tok.RightBrace) (kind.Fixed tok.Semicolon) = false
ends_block (kind.Fixed tok.RightBrace) _ = true
ends_block _ _ = false

-- nothing stands in front of ) ] } ; , and :
abbrev pub closes : Kind → Bool
closes (kind.Fixed tok.RightParen) = true
closes (kind.Fixed tok.RightBracket) = true
closes (kind.Fixed tok.RightBrace) = true
closes (kind.Fixed tok.Semicolon) = true
closes (kind.Fixed tok.Comma) = true
closes (kind.Fixed tok.Colon) = true
closes _ = false

-- nor between a name and ( or [
abbrev pub is_named : Kind → Bool
is_named kind.Name = true
is_named _ = false

abbrev pub begins_list : Kind → Bool
begins_list (kind.Fixed tok.LeftParen) = true
begins_list (kind.Fixed tok.LeftBracket) = true
begins_list _ = false

-- what stands between two tokens: nothing, a newline or a space
abbrev pub gap : Kind → Kind → List ℕ
gap last next =
    if opens last then [] else (
    if ends_line last then 10 ∷ [] else (
    if ends_block last next then 10 ∷ [] else (
    if closes next then [] else (
    if is_named last && begins_list next then [] else 32 ∷ []))))

abbrev pub gap_between : Token → Token → List ℕ
gap_between last next = gap (kind_of last) (kind_of next)

-- an item's tokens, and a newline
abbrev pub print_item_of : Item → List ℕ
print_item_of item = laid gap_between (Fixed tok.Include) (item_tokens item) ++ 10 ∷ []

-- the include line and the items in order
abbrev pub print_of : List Item → List ℕ
print_of unit = fixed_text tok.Include ++ each print_item_of unit
