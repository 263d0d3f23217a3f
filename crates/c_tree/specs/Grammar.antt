-- The grammar: what each part becomes at the next token.
use Rattle.std.specs.Prelude.{◌≡◌, ℕ, zero, suc, ◌+◌, ◌-◌, ◌*◌, ◌^◌, Bool, true, false, nat_lt, List, [], ◌∷◌, ◌++◌, Option, Some, None}
use Rattle.std.specs.Prelude.{if◌then◌else◌}
use Rattle.c_tree.specs.declared.token.Tok.{Tok}
use Rattle.c_tree.specs.declared.token.Tok.TheVariants as tok
use Rattle.c_tree.specs.declared.token.Part.{Part}
use Rattle.c_tree.specs.declared.token.Part.TheVariants as part
use Rattle.c_tree.specs.declared.token.Kind.{Kind}
use Rattle.c_tree.specs.declared.token.Kind.TheVariants as kind
use Rattle.c_tree.specs.declared.token.Suffix.{Suffix}
use Rattle.c_tree.specs.declared.token.Suffix.TheVariants.{OfPlain, Of32, Of64}
use Rattle.c_tree.specs.declared.token.Wanted.TheVariants as wanted
use Rattle.c_tree.specs.declared.token.CReadFault.{CReadFault}
use Rattle.c_tree.specs.declared.token.CReadFault.TheVariants.{Unexpected, NumberTooLarge, TooDeep}
use Rattle.c_tree.specs.Tokens.{Token, Fixed, Number, kind_of, same_tok}
use Rattle.c_tree.specs.Text.{Lexeme, lexeme}

-- What is expected: a token, an array's byte, a number, or a part with the number of exprs that may stand inside one another in it.
pub data Symbol : Type 0 where
  One : Tok → Symbol
  OneByte : Symbol
  OneNumber : Symbol
  Of : Part → ℕ → Symbol

-- a type comes
abbrev pub begins_type : Kind → Bool
begins_type (kind.Fixed tok.WordVoid) = true
begins_type (kind.Fixed tok.WordU32) = true
begins_type (kind.Fixed tok.WordU64) = true
begins_type (kind.Fixed tok.WordW2cMem) = true
begins_type (kind.Fixed tok.WordW2cTab) = true
begins_type (kind.Fixed tok.WordW2cFn) = true
begins_type _ = false

-- what stands behind the parenthesis of an expr (C11, 6.5.4 and 6.5.3.2, or an operation): an operation begins as its
-- first expr does, with a name, a number or a parenthesis
abbrev pub operation : ℕ → List Symbol
operation d = Of part.InExpr d ∷ Of part.InOperator d ∷ Of part.InExpr d ∷ One tok.RightParen ∷ []

abbrev pub as_group : ℕ → Kind → Option (List Symbol)
as_group d (kind.Fixed tok.WordU32) = Some (One tok.WordU32 ∷ One tok.RightParen ∷ Of part.InExpr d ∷ [])
as_group d (kind.Fixed tok.WordU64) = Some (One tok.WordU64 ∷ One tok.RightParen ∷ Of part.InExpr d ∷ [])
as_group d (kind.Fixed tok.Star) = Some (One tok.Star ∷ One tok.Name ∷ One tok.RightParen ∷ [])
as_group d kind.Name = Some (operation d)
as_group d (kind.Number s) = Some (operation d)
as_group d (kind.Fixed tok.LeftParen) = Some (operation d)
as_group d _ = None

-- what stands behind the parenthesis of an argument: a function as an element of a table, else what stands in a group
abbrev pub as_agroup : ℕ → Kind → Option (List Symbol)
as_agroup d (kind.Fixed tok.WordW2cFn) = Some (One tok.WordW2cFn ∷ One tok.RightParen ∷ One tok.Name ∷ [])
as_agroup d k = as_group d k

-- the expansion of a part at a token
abbrev pub expansion : Part → ℕ → Kind → Option (List Symbol)
expansion part.InUnit d _ = Some (One tok.Include ∷ Of part.InItems d ∷ One tok.End ∷ [])
expansion part.InItems d (kind.Fixed tok.End) = Some []
expansion part.InItems d _ = Some (Of part.InItem d ∷ Of part.InItems d ∷ [])
expansion part.InItem d (kind.Fixed tok.WordStatic) = Some (One tok.WordStatic ∷ Of part.InInner d ∷ [])
expansion part.InItem d k =
    if begins_type k then Some (Of part.InType d ∷ One tok.Name ∷ One tok.LeftParen ∷ Of part.InFunction d ∷ []) else None
expansion part.InInner d (kind.Fixed tok.WordConst) =
    Some (One tok.WordConst ∷ One tok.WordU8 ∷ One tok.Name ∷ One tok.LeftBracket ∷ One tok.Plain ∷ One tok.RightBracket ∷ One tok.Assign
    ∷ One tok.LeftBrace ∷ OneByte ∷ Of part.InMore d ∷ One tok.RightBrace ∷ One tok.Semicolon ∷ [])
expansion part.InInner d k = if begins_type k then Some (Of part.InType d ∷ One tok.Name ∷ Of part.InRest d ∷ []) else None
expansion part.InMore d (kind.Fixed tok.Comma) = Some (One tok.Comma ∷ OneByte ∷ Of part.InMore d ∷ [])
expansion part.InMore d _ = Some []
expansion part.InRest d (kind.Fixed tok.Semicolon) = Some (One tok.Semicolon ∷ [])
expansion part.InRest d (kind.Fixed tok.Assign) = Some (One tok.Assign ∷ Of part.InNumber d ∷ One tok.Semicolon ∷ [])
expansion part.InRest d (kind.Fixed tok.LeftParen) = Some (One tok.LeftParen ∷ Of part.InFunction d ∷ [])
expansion part.InRest d _ = None
expansion part.InType d (kind.Fixed tok.WordVoid) = Some (One tok.WordVoid ∷ [])
expansion part.InType d (kind.Fixed tok.WordU32) = Some (One tok.WordU32 ∷ Of part.InStar d ∷ [])
expansion part.InType d (kind.Fixed tok.WordU64) = Some (One tok.WordU64 ∷ Of part.InStar d ∷ [])
expansion part.InType d (kind.Fixed tok.WordW2cMem) = Some (One tok.WordW2cMem ∷ Of part.InStar d ∷ [])
expansion part.InType d (kind.Fixed tok.WordW2cTab) = Some (One tok.WordW2cTab ∷ Of part.InStar d ∷ [])
expansion part.InType d (kind.Fixed tok.WordW2cFn) = Some (One tok.WordW2cFn ∷ [])
expansion part.InType d _ = None
expansion part.InStar d (kind.Fixed tok.Star) = Some (One tok.Star ∷ [])
expansion part.InStar d _ = Some []
expansion part.InFunction d _ = Some (Of part.InParameters d ∷ One tok.RightParen ∷ Of part.InClose d ∷ [])
expansion part.InParameters d _ = Some (Of part.InType d ∷ Of part.InPname d ∷ Of part.InPtail d ∷ [])
expansion part.InPname d kind.Name = Some (One tok.Name ∷ [])
expansion part.InPname d _ = Some []
expansion part.InPtail d (kind.Fixed tok.Comma) = Some (One tok.Comma ∷ Of part.InType d ∷ Of part.InPname d ∷ Of part.InPtail d ∷ [])
expansion part.InPtail d _ = Some []
expansion part.InClose d (kind.Fixed tok.Semicolon) = Some (One tok.Semicolon ∷ [])
expansion part.InClose d (kind.Fixed tok.LeftBrace) = Some (One tok.LeftBrace ∷ Of part.InBody d ∷ One tok.RightBrace ∷ [])
expansion part.InClose d _ = None
expansion part.InBody d k =
    if begins_type k then Some (Of part.InDeclaration d ∷ Of part.InBody d ∷ []) else Some (Of part.InStatements d ∷ [])
expansion part.InDeclaration d _ = Some (Of part.InType d ∷ One tok.Name ∷ One tok.Assign ∷ Of part.InNumber d ∷ One tok.Semicolon ∷ [])
expansion part.InStatements d (kind.Fixed tok.RightBrace) = Some []
expansion part.InStatements d _ = Some (Of part.InStatement d ∷ Of part.InStatements d ∷ [])
expansion part.InStatement d (kind.Fixed tok.Semicolon) = Some (One tok.Semicolon ∷ [])
expansion part.InStatement d kind.Name = Some (One tok.Name ∷ Of part.InAfter d ∷ [])
expansion part.InStatement d (kind.Fixed tok.Star) =
    Some (One tok.Star ∷ One tok.Name ∷ One tok.Assign ∷ Of part.InExpr d ∷ One tok.Semicolon ∷ [])
expansion part.InStatement d (kind.Fixed tok.LeftParen) =
    Some (One tok.LeftParen ∷ One tok.Star ∷ Of part.InThrough d ∷ One tok.Semicolon ∷ [])
expansion part.InStatement d (kind.Fixed tok.WordGoto) = Some (One tok.WordGoto ∷ One tok.Name ∷ One tok.Semicolon ∷ [])
expansion part.InStatement d (kind.Fixed tok.WordIf) =
    Some (One tok.WordIf ∷ One tok.LeftParen ∷ Of part.InExpr d ∷ Of part.InOperator d ∷ Of part.InExpr d ∷ One tok.RightParen
    ∷ One tok.WordGoto ∷ One tok.Name ∷ One tok.Semicolon ∷ [])
expansion part.InStatement d (kind.Fixed tok.WordSwitch) =
    Some (One tok.WordSwitch ∷ One tok.LeftParen ∷ Of part.InExpr d ∷ One tok.RightParen ∷ One tok.LeftBrace ∷ Of part.InCases d
    ∷ One tok.RightBrace ∷ [])
expansion part.InStatement d (kind.Fixed tok.WordReturn) = Some (One tok.WordReturn ∷ Of part.InResult d ∷ One tok.Semicolon ∷ [])
expansion part.InStatement d _ = None
expansion part.InAfter d (kind.Fixed tok.Colon) = Some (One tok.Colon ∷ [])
expansion part.InAfter d (kind.Fixed tok.Assign) = Some (One tok.Assign ∷ Of part.InRight d ∷ One tok.Semicolon ∷ [])
expansion part.InAfter d (kind.Fixed tok.LeftParen) =
    Some (One tok.LeftParen ∷ Of part.InArguments d ∷ One tok.RightParen ∷ One tok.Semicolon ∷ [])
expansion part.InAfter d _ = None
expansion part.InRight d kind.Name = Some (One tok.Name ∷ Of part.InRname d ∷ [])
expansion part.InRight d (kind.Number s) = Some (Of part.InNumber d ∷ [])
expansion part.InRight d (kind.Fixed tok.Amp) = Some (One tok.Amp ∷ One tok.Name ∷ [])
expansion part.InRight d (kind.Fixed tok.LeftParen) = Some (One tok.LeftParen ∷ Of part.InRgroup d ∷ [])
expansion part.InRight d _ = None
expansion part.InRname d (kind.Fixed tok.LeftBracket) = Some (One tok.LeftBracket ∷ Of part.InExpr d ∷ One tok.RightBracket ∷ [])
expansion part.InRname d (kind.Fixed tok.LeftParen) = Some (One tok.LeftParen ∷ Of part.InArguments d ∷ One tok.RightParen ∷ [])
expansion part.InRname d _ = Some []
expansion part.InRgroup d (kind.Fixed tok.Star) = Some (One tok.Star ∷ Of part.InRstar d ∷ [])
expansion part.InRgroup d k = as_agroup d k
expansion part.InRstar d kind.Name = Some (One tok.Name ∷ One tok.RightParen ∷ [])
expansion part.InRstar d (kind.Fixed tok.LeftParen) = Some (Of part.InThrough d ∷ [])
expansion part.InRstar d _ = None
expansion part.InThrough d _ =
    Some (One tok.LeftParen ∷ Of part.InType d ∷ One tok.LeftParen ∷ One tok.Star ∷ One tok.RightParen ∷ One tok.LeftParen
    ∷ Of part.InTypes d ∷ One tok.RightParen ∷ One tok.RightParen ∷ One tok.Name ∷ One tok.RightParen ∷ One tok.LeftParen
    ∷ Of part.InArguments d ∷ One tok.RightParen ∷ [])
expansion part.InTypes d _ = Some (Of part.InType d ∷ Of part.InTtail d ∷ [])
expansion part.InTtail d (kind.Fixed tok.Comma) = Some (One tok.Comma ∷ Of part.InType d ∷ Of part.InTtail d ∷ [])
expansion part.InTtail d _ = Some []
expansion part.InArguments d (kind.Fixed tok.RightParen) = Some []
expansion part.InArguments d _ = Some (Of part.InArgument d ∷ Of part.InAtail d ∷ [])
expansion part.InArgument d (kind.Fixed tok.Amp) = Some (One tok.Amp ∷ One tok.Name ∷ [])
expansion part.InArgument d (kind.Fixed tok.LeftParen) = Some (One tok.LeftParen ∷ Of part.InAgroup d ∷ [])
expansion part.InArgument d kind.Name = Some (One tok.Name ∷ Of part.InIndex d ∷ [])
expansion part.InArgument d (kind.Number s) = Some (Of part.InNumber d ∷ [])
expansion part.InArgument d _ = None
expansion part.InAtail d (kind.Fixed tok.Comma) = Some (One tok.Comma ∷ Of part.InArgument d ∷ Of part.InAtail d ∷ [])
expansion part.InAtail d _ = Some []
expansion part.InAgroup d k = as_agroup d k
expansion part.InResult d (kind.Fixed tok.Semicolon) = Some []
expansion part.InResult d _ = Some (Of part.InArgument d ∷ [])
expansion part.InCases d (kind.Fixed tok.WordCase) =
    Some (One tok.WordCase ∷ Of part.InNumber d ∷ One tok.Colon ∷ One tok.WordGoto ∷ One tok.Name ∷ One tok.Semicolon ∷ Of part.InCases d
    ∷ [])
expansion part.InCases d (kind.Fixed tok.WordDefault) =
    Some (One tok.WordDefault ∷ One tok.Colon ∷ One tok.WordGoto ∷ One tok.Name ∷ One tok.Semicolon ∷ [])
expansion part.InCases d _ = None
expansion part.InExpr d kind.Name = Some (One tok.Name ∷ Of part.InIndex d ∷ [])
expansion part.InExpr d (kind.Number s) = Some (Of part.InNumber d ∷ [])
expansion part.InExpr d (kind.Fixed tok.LeftParen) = Some (One tok.LeftParen ∷ Of part.InGroup d ∷ [])
expansion part.InExpr d _ = None
expansion part.InIndex d (kind.Fixed tok.LeftBracket) = Some (One tok.LeftBracket ∷ Of part.InExpr d ∷ One tok.RightBracket ∷ [])
expansion part.InIndex d _ = Some []
expansion part.InGroup d k = as_group d k
expansion part.InOperator d (kind.Fixed tok.Plus) = Some (One tok.Plus ∷ [])
expansion part.InOperator d (kind.Fixed tok.Minus) = Some (One tok.Minus ∷ [])
expansion part.InOperator d (kind.Fixed tok.Star) = Some (One tok.Star ∷ [])
expansion part.InOperator d (kind.Fixed tok.Slash) = Some (One tok.Slash ∷ [])
expansion part.InOperator d (kind.Fixed tok.Percent) = Some (One tok.Percent ∷ [])
expansion part.InOperator d (kind.Fixed tok.Amp) = Some (One tok.Amp ∷ [])
expansion part.InOperator d (kind.Fixed tok.Bar) = Some (One tok.Bar ∷ [])
expansion part.InOperator d (kind.Fixed tok.Caret) = Some (One tok.Caret ∷ [])
expansion part.InOperator d (kind.Fixed tok.ShiftLeft) = Some (One tok.ShiftLeft ∷ [])
expansion part.InOperator d (kind.Fixed tok.ShiftRight) = Some (One tok.ShiftRight ∷ [])
expansion part.InOperator d (kind.Fixed tok.Equal) = Some (One tok.Equal ∷ [])
expansion part.InOperator d (kind.Fixed tok.NotEqual) = Some (One tok.NotEqual ∷ [])
expansion part.InOperator d (kind.Fixed tok.Less) = Some (One tok.Less ∷ [])
expansion part.InOperator d (kind.Fixed tok.LessEqual) = Some (One tok.LessEqual ∷ [])
expansion part.InOperator d (kind.Fixed tok.Greater) = Some (One tok.Greater ∷ [])
expansion part.InOperator d (kind.Fixed tok.GreaterEqual) = Some (One tok.GreaterEqual ∷ [])
expansion part.InOperator d _ = None
expansion part.InNumber d (kind.Number s) = Some (OneNumber ∷ [])
expansion part.InNumber d _ = None

-- an expr counts against the depth, and so does an argument or a right side
abbrev pub counts : Part → Bool
counts part.InExpr = true
counts part.InRight = true
counts part.InArgument = true
counts _ = false

-- the greatest number with a suffix
abbrev pub limit : Suffix → ℕ
limit OfPlain = 2 ^ 32
limit Of32 = 2 ^ 32
limit Of64 = 2 ^ 64

abbrev pub fits : Tok → Kind → Bool
fits tok.Name kind.Name = true
fits tok.Name _ = false
fits tok.Plain (kind.Number OfPlain) = true
fits tok.Plain _ = false
fits t (kind.Fixed u) = same_tok t u
fits t _ = false

-- the number that digits write behind those of n
abbrev pub value_of : ℕ → List ℕ → ℕ
value_of n [] = n
value_of n (d ∷ ds) = value_of (10 * n + (d - 48)) ds

abbrev pub is_large : Token → Bool
is_large (Number s digits) = if nat_lt (value_of 0 digits) (limit s) then false else true
is_large _ = false

abbrev pub is_number : Token → Bool
is_number (Number s digits) = true
is_number _ = false

-- What happens to the first expected symbol at a token.
pub data Move : Type 0 where
  Takes : Move
  Becomes : List Symbol → Move
  Faulty : CReadFault → Move

-- an array's byte
abbrev pub is_plain : Token → Bool
is_plain (Number OfPlain digits) = true
is_plain _ = false

abbrev pub is_byte : Token → Bool
is_byte (Number OfPlain digits) = nat_lt (value_of 0 digits) 256
is_byte _ = false

-- a token that fits is taken, unless its number is too large
abbrev pub taking : Lexeme → Move
taking l = if is_large l.token then Faulty (NumberTooLarge l.place) else Takes

abbrev pub becoming : Part → ℕ → Option (List Symbol) → Move
becoming p place None = Faulty (Unexpected place (wanted.Part p))
becoming p place (Some new) = Becomes new

-- no more exprs may stand inside one another: what begins one is too deep
abbrev pub too_deep : Part → ℕ → Option (List Symbol) → Move
too_deep p place None = Faulty (Unexpected place (wanted.Part p))
too_deep p place (Some new) = Faulty (TooDeep place)

abbrev pub counted : Part → ℕ → Lexeme → Move
counted p zero l = too_deep p l.place (expansion p zero (kind_of l.token))
counted p (suc d) l = becoming p l.place (expansion p d (kind_of l.token))

abbrev pub move : Symbol → Lexeme → Move
move (One t) l = if fits t (kind_of l.token) then taking l else Faulty (Unexpected l.place (wanted.Token t))
move OneByte l =
    if is_plain l.token then (if is_byte l.token then Takes else Faulty (NumberTooLarge l.place))
    else Faulty (Unexpected l.place (wanted.Token tok.Plain))
move OneNumber l = if is_number l.token then taking l else Faulty (Unexpected l.place (wanted.Part part.InNumber))
move (Of p d) l = if counts p then counted p d l else becoming p l.place (expansion p d (kind_of l.token))

-- the next token, which is the end where there is none
abbrev pub first : List Lexeme → Lexeme
first [] = lexeme 0 (Fixed tok.End)
first (l ∷ ls) = l

abbrev pub others : List Lexeme → List Lexeme
others [] = []
others (l ∷ ls) = ls

-- With these symbols expected at these tokens the table comes to a first faulty token.
pub data Stops : List Symbol → List Lexeme → CReadFault → Type 0 where
  here : {s : Symbol} {ss : List Symbol} {ls : List Lexeme} {f : CReadFault} → move s (first ls) ≡ Faulty f → Stops (s ∷ ss) ls f
  taken : {s : Symbol} {ss : List Symbol} {ls : List Lexeme} {f : CReadFault} → move s (first ls) ≡ Takes → Stops ss (others ls) f
      → Stops (s ∷ ss) ls f
  opened : {s : Symbol} {ss new : List Symbol} {ls : List Lexeme} {f : CReadFault} → move s (first ls) ≡ Becomes new
      → Stops (new ++ ss) ls f → Stops (s ∷ ss) ls f
