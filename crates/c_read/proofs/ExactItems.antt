-- Functions, items and units.
use Rattle.c_read.proofs.Common.{◌≡◌, ℕ, ◌<◌, Bool, true, false, cond, List, [], ◌∷◌, ◌++◌, length, Some, Ok, Err, refl, subst}
use Rattle.c_read.proofs.Common.{append_assoc, AllByRecursion, Becomes, FitsBody, FitsItem, FitsNum, Of, One, OneByte, begins_type, first}
use Rattle.c_read.proofs.Common.{move, Lexeme, Fixed, Named, Token, kind_of, close_tokens, each, item_tokens, local_tokens, maybe_name}
use Rattle.c_read.proofs.Common.{param_tokens, separated, static_tokens, stmt_tokens, type_tokens, unit_tokens, Kind, CType, Outcome}
use Rattle.c_read.proofs.Common.{and_then, expect, close_by, inner_by, item_by, not_end, rest_by, is_comma}
use Rattle.c_tree.specs.declared.token.Tok.TheVariants as tok
use Rattle.c_tree.specs.declared.token.Part.TheVariants as part
use Rattle.c_tree.specs.declared.token.Kind.TheVariants as kind
use Rattle.c_tree.specs.declared.tree.CType.TheVariants as type
use Rattle.c_tree.specs.Tree as tree
use Rattle.c_lex.specs.Reading.{next_kind, unexpected}
use Rattle.c_read.specs.Items.{byte, next_byte, more_bytes, array_bytes, array, pname, pname_by, param, next_param, more_params, params}
use Rattle.c_read.specs.Items.{declaration, declarations, body, close, function, rest, static_rest, inner, external, item, items, unit}
use Rattle.c_read.proofs.Exact.{Exact, ExactAt, Proper, free, proper_behind, done, next, then_all, last, open_part, no_part}
use Rattle.c_read.proofs.ExactTokens.{text, expect_exact, named, number_exact, plain_tokens, byte_exact, count_exact}
use Rattle.c_read.proofs.ExactLists.{Lists, Tail, tail, pieces, pieces_alone, EndsAt, pieces_end}
use Rattle.c_read.proofs.ExactExpressions.{ctype_exact}
use Rattle.c_read.proofs.ExactStatements.{statements_exact}

-- ---- arrays

bytes_tail : (d : ℕ) → Tail (Of part.InMore d) (OneByte ∷ [])
bytes_tail d = record { more = λ l e. rw e refl; ends = by }
  where
    by : (l : Lexeme) (k : Kind) → kind_of l.token ≡ k → is_comma k ≡ false → move (Of part.InMore d) l ≡ Becomes []
    by l (kind.Fixed tok.Comma) e off = absurd cc
    by l _ e off = rw e refl

bytes_exact : (d : ℕ) (ls : List Lexeme) → Proper ls
    → Exact [] (separated plain_tokens) (λ (bs : List ℕ). (0 < length bs) × AllByRecursion (λ b. b < 256) bs)
    (OneByte ∷ Of part.InMore d ∷ []) ls (array_bytes ls)
unfolding array_bytes more_bytes next_byte byte
bytes_exact d ls proper =
    next proper (byte_exact ls proper) (λ b l1 p1 h. tail (bytes_tail d) byte_exact p1 h (λ bs some hs. (some, hs)))

array_exact : (d : ℕ) (ls : List Lexeme) → Proper ls
    → Exact (Fixed tok.WordStatic ∷ []) item_tokens (FitsItem 100)
    (One tok.WordConst ∷ One tok.WordU8 ∷ One tok.Name ∷ One tok.LeftBracket ∷ One tok.Plain ∷ One tok.RightBracket ∷ One tok.Assign
    ∷ One tok.LeftBrace ∷ OneByte ∷ Of part.InMore d ∷ One tok.RightBrace ∷ One tok.Semicolon ∷ []) ls (array ls)
unfolding array
array_exact d ls proper =
    text refl proper
    (λ l1 p1. text refl p1
    (λ l2 p2. named p2 (λ n l3 p3. text refl p3
    (λ l4 p4. next p4 (count_exact l4 p4) (λ count l5 p5 h. text refl p5 (λ l6 p6. text refl p6 (λ l7 p7. text refl p7 (λ l8 p8.
    then_all (OneByte ∷ Of part.InMore d ∷ []) (One tok.RightBrace ∷ One tok.Semicolon ∷ []) p8 (bytes_exact d l8 p8)
    (λ bs l9 p9 hs. text refl p9 (λ l10 p10. text refl p10 (λ l11 p11. done (simp append_assoc) (h, hs.0, hs.1))))))))))))

-- ---- parameters

pname_exact : (d : ℕ) (ls : List Lexeme) → Proper ls → Exact [] maybe_name free (Of part.InPname d ∷ []) ls (pname ls)
unfolding pname next_kind
pname_exact d ls proper = by (kind_of (first ls).token) refl
  where
    by : (k : Kind) → kind_of (first ls).token ≡ k → Exact [] maybe_name free (Of part.InPname d ∷ []) ls (pname_by k ls)
    by kind.Name e = open_part (rw e refl) (named proper (λ n l1 p1. done refl tt))
    by _ e = open_part (rw e refl) (done refl tt)

param_exact : (d : ℕ) (ls : List Lexeme) → Proper ls → Exact [] param_tokens free (Of part.InType d ∷ Of part.InPname d ∷ []) ls (param ls)
unfolding param
param_exact d ls proper =
    next proper (ctype_exact d ls proper) (λ t l1 p1 ht. next p1 (pname_exact d l1 p1) (λ n l2 p2 hn. done refl tt))

params_tail : (d : ℕ) → Tail (Of part.InPtail d) (Of part.InType d ∷ Of part.InPname d ∷ [])
params_tail d = record { more = λ l e. rw e refl; ends = by }
  where
    by : (l : Lexeme) (k : Kind) → kind_of l.token ≡ k → is_comma k ≡ false → move (Of part.InPtail d) l ≡ Becomes []
    by l (kind.Fixed tok.Comma) e off = absurd cc
    by l _ e off = rw e refl

params_exact : (d : ℕ) (ls : List Lexeme) → Proper ls
    → Exact [] (separated param_tokens) (λ (ps : List tree.Param). 0 < length ps) (Of part.InParameters d ∷ []) ls (params ls)
unfolding params more_params next_param
params_exact d ls proper =
    open_part refl (then_all (Of part.InType d ∷ Of part.InPname d ∷ []) (Of part.InPtail d ∷ []) proper (param_exact d ls proper)
    (λ p l1 p1 h. tail (params_tail d) (param_exact d) p1 h (λ ps some each_free. some)))

-- ---- bodies

abbrev FitsLocal : tree.Local → Type 0
FitsLocal l = FitsNum l.2

declaration_exact : (d : ℕ) (ls : List Lexeme) → Proper ls
    → Exact [] local_tokens FitsLocal (Of part.InDeclaration d ∷ []) ls (declaration ls)
unfolding declaration
declaration_exact d ls proper =
    open_part refl (next proper (ctype_exact d ls proper)
    (λ t l1 p1 ht. named p1 (λ n l2 p2. text refl p2
    (λ l3 p3. next p3 (number_exact d l3 p3) (λ v l4 p4 h. text refl p4 (λ l5 p5. done (simp append_assoc) h))))))

-- a type has a first token, also with tokens behind it
some_type : (t : CType) (more : List Token) → (u : Token) × (ts : List Token) × (type_tokens t ++ more ≡ u ∷ ts)
some_type type.Void more = (_, _, refl)
some_type _ more = (_, _, refl)

declarations_list : Lists (Of part.InBody 100) begins_type declaration local_tokens FitsLocal
declarations_list = record {
  new = Of part.InDeclaration 100 ∷ [];
  more = λ l on. rw on refl;
  exact = declaration_exact 100;
  some = λ x. some_type x.0 _;
}

body_exact : (ls : List Lexeme) → Proper ls
    → Exact [] (λ b. each local_tokens b.locals ++ each stmt_tokens b.stmts) (λ b. FitsBody 100 (Some b)) (Of part.InBody 100 ∷ []) ls
    (body ls)
unfolding body declarations
body_exact ls proper =
    pieces declarations_list proper
    (λ xs m pm off hs. open_part (rw off refl) (next pm (statements_exact m pm) (λ ss l1 p1 h. done refl (hs, h))))

close_exact : (ls : List Lexeme) → Proper ls → Exact [] close_tokens (FitsBody 100) (Of part.InClose 100 ∷ []) ls (close ls)
unfolding close next_kind unexpected
close_exact ls proper = by (kind_of (first ls).token) refl
  where
    by : (k : Kind) → kind_of (first ls).token ≡ k → Exact [] close_tokens (FitsBody 100) (Of part.InClose 100 ∷ []) ls (close_by k ls)
    by (kind.Fixed tok.Semicolon) e = open_part (rw e refl) (text refl proper (λ l1 p1. done refl tt))
    by (kind.Fixed tok.LeftBrace) e =
        open_part (rw e refl)
        (text refl proper (λ l1 p1. next p1 (body_exact l1 p1) (λ b l2 p2 h. text refl p2 (λ l3 p3. done (simp append_assoc) h))))
    by _ e = no_part (rw e refl)

-- ---- functions

abbrev func_before : Bool → CType → List ℕ → List Token
func_before is_static t n = static_tokens is_static ++ (type_tokens t ++ (Named n ∷ Fixed tok.LeftParen ∷ []))

function_exact : (s : Bool) (t : CType) (n : List ℕ) (ls : List Lexeme) → Proper ls
    → Exact (func_before s t n) item_tokens (FitsItem 100) (Of part.InFunction 100 ∷ []) ls (function s t n ls)
unfolding function
function_exact s t n ls proper =
    open_part refl (next proper (params_exact 100 ls proper)
    (λ ps l1 p1 some. text refl p1 (λ l2 p2. next p2 (close_exact l2 p2) (λ b l3 p3 h. done (simp append_assoc) (some, h)))))

-- ---- items

-- behind a type and a name
rest_exact : (t : CType) (n : List ℕ) (ls : List Lexeme) → Proper ls
    → Exact (Fixed tok.WordStatic ∷ (type_tokens t ++ Named n ∷ [])) item_tokens (FitsItem 100) (Of part.InRest 100 ∷ []) ls (rest t n ls)
unfolding rest next_kind unexpected
rest_exact t n ls proper = by (kind_of (first ls).token) refl
  where
    function_behind : (m : List Lexeme) → Proper m
        → Exact ((Fixed tok.WordStatic ∷ (type_tokens t ++ Named n ∷ [])) ++ Fixed tok.LeftParen ∷ []) item_tokens (FitsItem 100)
        (Of part.InFunction 100 ∷ []) m (function true t n m)
    function_behind m pm =
        subst (λ before. Exact before item_tokens (FitsItem 100) (Of part.InFunction 100 ∷ []) m (function true t n m)) (simp append_assoc)
        (function_exact true t n m pm)

    by : (k : Kind) → kind_of (first ls).token ≡ k
        → Exact (Fixed tok.WordStatic ∷ (type_tokens t ++ Named n ∷ [])) item_tokens (FitsItem 100) (Of part.InRest 100 ∷ []) ls
        (rest_by t n k ls)
    by (kind.Fixed tok.Semicolon) e = open_part (rw e refl) (text refl proper (λ l1 p1. done (simp append_assoc) tt))
    by (kind.Fixed tok.Assign) e =
        open_part (rw e refl)
        (text refl proper (λ l1 p1. next p1 (number_exact 100 l1 p1) (λ v l2 p2 h. text refl p2 (λ l3 p3. done (simp append_assoc) h))))
    by (kind.Fixed tok.LeftParen) e = open_part (rw e refl) (text refl proper (λ l1 p1. function_behind l1 p1))
    by _ e = no_part (rw e refl)

static_exact : (ls : List Lexeme) → Proper ls
    → Exact (Fixed tok.WordStatic ∷ []) item_tokens (FitsItem 100) (Of part.InType 100 ∷ One tok.Name ∷ Of part.InRest 100 ∷ []) ls
    (static_rest ls)
unfolding static_rest
static_exact ls proper = next proper (ctype_exact 100 ls proper) (λ t l1 p1 h. named p1 (λ n l2 p2. rest_exact t n l2 p2))

inner_exact : (ls : List Lexeme) → Proper ls
    → Exact (Fixed tok.WordStatic ∷ []) item_tokens (FitsItem 100) (Of part.InInner 100 ∷ []) ls (inner ls)
unfolding inner next_kind unexpected
inner_exact ls proper = by (kind_of (first ls).token) refl
  where
    by : (k : Kind) → kind_of (first ls).token ≡ k
        → Exact (Fixed tok.WordStatic ∷ []) item_tokens (FitsItem 100) (Of part.InInner 100 ∷ []) ls
        (cond (begins_type k) (static_rest ls) (inner_by k ls))
    by (kind.Fixed tok.WordVoid) e = open_part (rw e refl) (static_exact ls proper)
    by (kind.Fixed tok.WordU32) e = open_part (rw e refl) (static_exact ls proper)
    by (kind.Fixed tok.WordU64) e = open_part (rw e refl) (static_exact ls proper)
    by (kind.Fixed tok.WordW2cMem) e = open_part (rw e refl) (static_exact ls proper)
    by (kind.Fixed tok.WordW2cTab) e = open_part (rw e refl) (static_exact ls proper)
    by (kind.Fixed tok.WordW2cFn) e = open_part (rw e refl) (static_exact ls proper)
    by (kind.Fixed tok.WordConst) e = open_part (rw e refl) (array_exact 100 ls proper)
    by _ e = no_part (rw e refl)

external_exact : (ls : List Lexeme) → Proper ls
    → Exact [] item_tokens (FitsItem 100) (Of part.InType 100 ∷ One tok.Name ∷ One tok.LeftParen ∷ Of part.InFunction 100 ∷ []) ls
    (external ls)
unfolding external
external_exact ls proper =
    next proper (ctype_exact 100 ls proper) (λ t l1 p1 h. named p1 (λ n l2 p2. text refl p2 (λ l3 p3. function_behind t n l3 p3)))
  where
    function_behind : (t : CType) (n : List ℕ) (m : List Lexeme) → Proper m
        → Exact ((type_tokens t ++ Named n ∷ []) ++ Fixed tok.LeftParen ∷ []) item_tokens (FitsItem 100) (Of part.InFunction 100 ∷ []) m
        (function false t n m)
    function_behind t n m pm =
        subst (λ before. Exact before item_tokens (FitsItem 100) (Of part.InFunction 100 ∷ []) m (function false t n m)) (simp append_assoc)
        (function_exact false t n m pm)

item_exact : (ls : List Lexeme) → Proper ls → Exact [] item_tokens (FitsItem 100) (Of part.InItem 100 ∷ []) ls (item ls)
unfolding item next_kind unexpected
item_exact ls proper = by (kind_of (first ls).token) refl
  where
    by : (k : Kind) → kind_of (first ls).token ≡ k
        → Exact [] item_tokens (FitsItem 100) (Of part.InItem 100 ∷ []) ls (cond (begins_type k) (external ls) (item_by k ls))
    by (kind.Fixed tok.WordVoid) e = open_part (rw e refl) (external_exact ls proper)
    by (kind.Fixed tok.WordU32) e = open_part (rw e refl) (external_exact ls proper)
    by (kind.Fixed tok.WordU64) e = open_part (rw e refl) (external_exact ls proper)
    by (kind.Fixed tok.WordW2cMem) e = open_part (rw e refl) (external_exact ls proper)
    by (kind.Fixed tok.WordW2cTab) e = open_part (rw e refl) (external_exact ls proper)
    by (kind.Fixed tok.WordW2cFn) e = open_part (rw e refl) (external_exact ls proper)
    by (kind.Fixed tok.WordStatic) e = open_part (rw e refl) (text refl proper (λ l1 p1. inner_exact l1 p1))
    by _ e = no_part (rw e refl)

-- an item has a first token
some_item : (x : tree.Item) → (t : Token) × (ts : List Token) × (item_tokens x ≡ t ∷ ts)
some_item (tree.Function f) = by f.is_static
  where
    by : (b : Bool) → (t : Token) × (ts : List Token)
        × (static_tokens b ++ (type_tokens f.result
        ++ (Named f.name ∷ Fixed tok.LeftParen ∷ (separated param_tokens f.params ++ (Fixed tok.RightParen ∷ close_tokens f.body))))
        ≡ t ∷ ts)
    by true = (_, _, refl)
    by false = some_type f.result _
some_item _ = (_, _, refl)

items_list : Lists (Of part.InItems 100) not_end item item_tokens (FitsItem 100)
items_list = record {
  new = Of part.InItem 100 ∷ [];
  more = λ l on. by l (kind_of l.token) refl on;
  exact = item_exact;
  some = some_item;
}
  where
    by : (l : Lexeme) (k : Kind) → kind_of l.token ≡ k → not_end k ≡ true
        → move (Of part.InItems 100) l ≡ Becomes (Of part.InItem 100 ∷ Of part.InItems 100 ∷ [])
    by l (kind.Fixed tok.End) e on = absurd cc
    by l _ e on = rw e refl

items_end : (l : Lexeme) (k : Kind) → kind_of l.token ≡ k → not_end k ≡ false → move (Of part.InItems 100) l ≡ Becomes []
items_end l (kind.Fixed tok.End) e off = rw e refl
items_end l _ e off = absurd cc

items_exact : (ls : List Lexeme) → Proper ls
    → Exact [] (each item_tokens) (AllByRecursion (FitsItem 100)) (Of part.InItems 100 ∷ []) ls (items ls)
unfolding items
items_exact ls proper = pieces_alone items_list (λ l off. items_end l (kind_of l.token) refl off) proper

-- the include line and the items, in front of the end
pub unit_exact : (ls : List Lexeme) → Proper ls
    → Exact [] unit_tokens (AllByRecursion (FitsItem 100)) (One tok.Include ∷ Of part.InItems 100 ∷ []) ls (unit ls)
unfolding unit
unit_exact ls proper = text refl proper (λ l1 p1. last (λ xs. refl) (items_exact l1 p1))

ends_behind : (o : Outcome (Unit {0})) (ls : List Lexeme) → ExactAt [] (λ u. Fixed tok.Include ∷ []) free (One tok.Include ∷ []) ls o
    → Proper ls → EndsAt not_end (and_then o (λ u. items))
unfolding items
ends_behind (Ok p) ls one proper = pieces_end items_list p.1 (proper_behind ls one.1 p.1 one.2 proper)
ends_behind (Err f) ls one proper = tt

-- the items end at the end
pub unit_end : (ls : List Lexeme) → Proper ls → EndsAt not_end (unit ls)
unfolding unit
unit_end ls proper = ends_behind (expect tok.Include ls) ls (expect_exact tok.Include ls refl).is proper
