-- A text that is put to a file in pieces, while the page that it stands on grows.
use Rattle.std.specs.Prelude.{◌≡◌, ◌⊎◌, ℕ, List, [], ◌∷◌, ◌++◌, Option, Err}
use Rattle.w2c_io.specs.Contents.{Name, Told, appending, AppendsPart}
use Rattle.w2c_io.specs.Causes.{WriteCause, name_after_write}
use Rattle.w2c_io.specs.Passed.{Passes, PutsText, PutsPart}
use Rattle.w2c_io.specs.declared.files.Files.{Ghosts as Files}
use Rattle.w2c_io.specs.declared.answers.WriteAnswer.{WriteAnswer}
use Rattle.c_tree.specs.declared.token.Tok.TheVariants as tok
use Rattle.c_tree.specs.declared.tree.Num.TheVariants.{Plain}
use Rattle.c_tree.specs.Tree.{Func, Expr}
use Rattle.c_tree.specs.Tokens.{Token, Fixed, Named}
use Rattle.c_tree.specs.Trees.{static_tokens, type_tokens, param_tokens, expr_tokens, goto_tokens, num_token, separated}
use Rattle.c_print.specs.declared.page.Page.{Page}
use Rattle.c_print.specs.Page.{printed_onto}

-- no piece was put yet, or the current file has gained the text
abbrev pub Gains : Told → Told → Option Name → List ℕ → Type 0
Gains old new current text = ((text ≡ []) × (new ≡ old)) ⊎ (new ≡ appending old current text)

-- a text was put whole at the end of the current file, in pieces
pub record HasPut {F : Type 0} (f : Files F) (old new : F) (text : List ℕ) : Type 0 where
  pub gained : Gains (f.told old) (f.told new) (f.current old) text
  pub current : f.current new ≡ f.current old
  pub kept : f.write_faults new ≡ f.write_faults old
  pub named : f.fault_name new ≡ f.fault_name old
  pub reads : f.read_faults new ≡ f.read_faults old
  pub passed : Passes (f.trace old) (f.trace new) (PutsText text)

-- the first pieces of a text were put, and no more of it for this reason
pub record HasFailed {F : Type 0} (f : Files F) (old new : F) (text : List ℕ) (why : WriteAnswer) : Type 0 where
  pub part : AppendsPart (f.told old) (f.told new) (f.current old) text
  pub current : f.current new ≡ f.current old
  pub cause : WriteCause {A = Unit {0}} (f.write_faults old) (f.write_faults new) (Err why)
  pub named : f.fault_name new ≡ name_after_write {A = Unit {0}} (Err why) (f.current old) (f.fault_name old)
  pub reads : f.read_faults new ≡ f.read_faults old
  pub tried : Passes (f.trace old) (f.trace new) (PutsPart text why)

-- a page with a text in front of its own
abbrev pub behind : List ℕ → Page → Page
behind text page = record { text = text ++ page.text; last = page.last }

-- tokens were put at the end of a page, and the first of its text was put to the file meanwhile
pub record Prints {F : Type 0} (f : Files F) (old new : F) (before after : Page) (tokens : List Token) : Type 0 where
  pub text : List ℕ
  pub put : HasPut f old new text
  pub page : behind text after ≡ printed_onto before tokens

-- of the page's text with these tokens the first pieces were put to the file, and no more for this reason
abbrev pub PrintsPart : {F : Type 0} → Files F → F → F → Page → List Token → WriteAnswer → Type 0
PrintsPart f old new page tokens why = HasFailed f old new (printed_onto page tokens).text why

-- ---- what stands in front

-- of the bytes of an array, by its name and its count
abbrev pub array_head : List ℕ → ℕ → List Token
array_head name count =
    Fixed tok.WordStatic ∷ Fixed tok.WordConst ∷ Fixed tok.WordU8 ∷ Named name ∷ Fixed tok.LeftBracket ∷ num_token (Plain count)
    ∷ Fixed tok.RightBracket ∷ Fixed tok.Assign ∷ Fixed tok.LeftBrace ∷ []

-- of a function's body, or of the sign in its place
abbrev pub func_head : Func → List Token
func_head f =
    static_tokens f.is_static ++ (type_tokens f.result
    ++ (Named f.name ∷ Fixed tok.LeftParen ∷ (separated param_tokens f.params ++ Fixed tok.RightParen ∷ [])))

-- of the cases of a switch: on this expression
abbrev pub switch_head : Expr → List Token
switch_head on =
    Fixed tok.WordSwitch ∷ Fixed tok.LeftParen ∷ (expr_tokens on ++ (Fixed tok.RightParen ∷ Fixed tok.LeftBrace ∷ []))

-- behind the cases: to this label in all others
abbrev pub switch_end : List ℕ → List Token
switch_end label = Fixed tok.WordDefault ∷ Fixed tok.Colon ∷ (goto_tokens label ++ Fixed tok.RightBrace ∷ [])
