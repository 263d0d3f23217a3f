-- A text that spells a unit has no first fault.
use Rattle.c_tree.proofs.Common.{◌≡◌, ℕ, suc, ◌^◌, ◌<◌, Bool, true, false, List, [], ◌∷◌, ◌++◌, length, Some, None, Option, refl}
use Rattle.c_tree.proofs.Common.{append_assoc, arith, AllByRecursion, always, Becomes, Of, One, OneByte, Symbol, Takes, move, CSpells}
use Rattle.c_tree.proofs.Common.{CUpto, FitsBody, FitsItem, FitsNum, FitsStmt, FitsValue, lexeme, lexemes, Fixed, Named, Token}
use Rattle.c_tree.proofs.Common.{close_tokens, each, item_tokens, local_tokens, maybe_name, num_token, param_tokens, separated}
use Rattle.c_tree.proofs.Common.{static_tokens, stmt_tokens, type_tokens, unit_tokens, value_tokens, CReadFault, CType, Num, Plain}
use Rattle.w2c_base.proofs.Numbers.{below_is_found}
use Rattle.c_tree.specs.declared.token.Tok.TheVariants as tok
use Rattle.c_tree.specs.declared.token.Part.TheVariants as part
use Rattle.c_tree.specs.declared.tree.CType.TheVariants as type
use Rattle.c_tree.specs.Tree as tree
use Rattle.c_tree.proofs.OneUnit.{body_front, func_front, array_front, byte_tokens}
use Rattle.c_tree.proofs.Passes.{Passes, take, become, become_none, become_any, nothing, BehindType, type_passes, pieces_pass}
use Rattle.c_tree.proofs.PassesExpressions.{number_passes, value_decimal}
use Rattle.c_tree.proofs.PassesStatements.{body_passes}

-- ---- bodies

in_body : (d : ℕ) (t : CType) (ss : List Symbol) (ts : List Token)
    → Passes (Of part.InDeclaration d ∷ Of part.InBody d ∷ ss) (type_tokens t ++ ts) → Passes (Of part.InBody d ∷ ss) (type_tokens t ++ ts)
in_body d type.Void ss ts next = become (λ p. refl) next
in_body d _ ss ts next = become (λ p. refl) next

locals_pass : (d : ℕ) (ls : List tree.Local) (xs : List tree.Stmt) (ss : List Symbol) (ts : List Token)
    → AllByRecursion (λ (l : tree.Local). FitsNum l.2) ls → AllByRecursion (FitsStmt (suc (suc d))) xs
    → Passes ss (Fixed tok.RightBrace ∷ ts)
    → Passes (Of part.InBody (suc (suc d)) ∷ ss) (each local_tokens ls ++ (each stmt_tokens xs ++ (Fixed tok.RightBrace ∷ ts)))
locals_pass d [] xs ss ts fits all next = body_passes d xs ss ts all next
locals_pass d (l ∷ ls) xs ss ts fits all next =
    let rest : List Token = each stmt_tokens xs ++ (Fixed tok.RightBrace ∷ ts) in
    rw (
      append_assoc (local_tokens l) (each local_tokens ls) rest,
      append_assoc (type_tokens l.0) (Named l.1 ∷ Fixed tok.Assign ∷ num_token l.2 ∷ Fixed tok.Semicolon ∷ [])
          (each local_tokens ls ++ rest),
    )
    (in_body (suc (suc d)) l.0 ss _ (become_any (λ k. refl) (type_passes (suc (suc d)) l.0 _ _ _ (record { no_star = λ e p. refl })
    (take (λ p. refl)
    (take (λ p. refl) (number_passes (suc (suc d)) l.2 _ _ fits.0 (take (λ p. refl) (locals_pass d ls xs ss ts fits.1 all next))))))))

close_passes : (d : ℕ) (b : Option tree.Body) (ss : List Symbol) (ts : List Token) → FitsBody (suc (suc d)) b → Passes ss ts
    → Passes (Of part.InClose (suc (suc d)) ∷ ss) (close_tokens b ++ ts)
close_passes d None ss ts fits next = become (λ p. refl) (take (λ p. refl) next)
close_passes d (Some b) ss ts fits next =
    rw (body_front b ts) (become (λ p. refl) (take (λ p. refl) (locals_pass d b.locals b.stmts _ _ fits.0 fits.1 (take (λ p. refl) next))))

-- ---- functions

-- what may follow a parameter
record BehindParam (t : Token) : Type 0 where
  pub behind_type : BehindType t
  pub no_name : (d p : ℕ) → move (Of part.InPname d) (lexeme p t) ≡ Becomes []

param_passes : (d : ℕ) (ty : CType) (n : Option (List ℕ)) (ss : List Symbol) (t : Token) (ts : List Token) → BehindParam t
    → Passes ss (t ∷ ts) → Passes (Of part.InType d ∷ Of part.InPname d ∷ ss) (type_tokens ty ++ (maybe_name n ++ (t ∷ ts)))
param_passes d ty None ss t ts is next = type_passes d ty _ t ts is.behind_type (become_none (is.no_name d) next)
param_passes d ty (Some n) ss t ts is next =
    type_passes d ty _ (Named n) _ (record { no_star = λ e p. refl }) (become (λ p. refl) (take (λ p. refl) next))

params_pass : (d : ℕ) (xs : List tree.Param) (ss : List Symbol) (ts : List Token) → 0 < length xs → Passes ss (Fixed tok.RightParen ∷ ts)
    → Passes (Of part.InParameters d ∷ ss) (separated param_tokens xs ++ (Fixed tok.RightParen ∷ ts))
params_pass d [] ss ts some next = absurd (omega arith)
params_pass d (x ∷ xs) ss ts some next =
    become_any (λ l. refl) (pieces_pass param_tokens (λ p. Unit {0}) BehindParam (Of part.InType d ∷ Of part.InPname d ∷ [])
    (Of part.InPtail d) tok.RightParen
    (λ y us t vs p is more. rw (append_assoc (type_tokens y.0) (maybe_name y.1) (t ∷ vs)) (param_passes d y.0 y.1 us t vs is more))
    (λ us vs more. become (λ p. refl) (take (λ p. refl) more)) (λ us vs more. become (λ p. refl) more)
    (record { behind_type = record { no_star = λ e p. refl }; no_name = λ e p. refl })
    (record { behind_type = record { no_star = λ e p. refl }; no_name = λ e p. refl }) x xs ss ts tt (always xs) next)

function_passes : (d : ℕ) (f : tree.Func) (ss : List Symbol) (ts : List Token) → 0 < length f.params → FitsBody (suc (suc d)) f.body
    → Passes ss ts
    → Passes (Of part.InFunction (suc (suc d)) ∷ ss)
    (separated param_tokens f.params ++ (Fixed tok.RightParen ∷ (close_tokens f.body ++ ts)))
function_passes d f ss ts some fits next =
    become_any (λ l. refl) (params_pass (suc (suc d)) f.params _ _ some (take (λ p. refl) (close_passes d f.body ss ts fits next)))

-- ---- items

count_taken : (n : ℕ) → n < 2 ^ 32 → (p : ℕ) → move (One tok.Plain) (lexeme p (num_token (Plain n))) ≡ Takes
count_taken n small p = rw (value_decimal n (omega arith), below_is_found n (2 ^ 32) small) refl

byte_taken : (n : ℕ) → n < 256 → (p : ℕ) → move OneByte (lexeme p (num_token (Plain n))) ≡ Takes
byte_taken n small p = rw (value_decimal n (omega arith), below_is_found n 256 small) refl

bytes_pass : (d : ℕ) (xs : List ℕ) (ss : List Symbol) (ts : List Token) → 0 < length xs → AllByRecursion (λ b. b < 256) xs
    → Passes ss (Fixed tok.RightBrace ∷ ts)
    → Passes (OneByte ∷ Of part.InMore d ∷ ss) (separated byte_tokens xs ++ (Fixed tok.RightBrace ∷ ts))
bytes_pass d [] ss ts some all next = absurd (omega arith)
bytes_pass d (x ∷ xs) ss ts some all next =
    pieces_pass byte_tokens (λ b. b < 256) (λ t. Unit {0}) (OneByte ∷ []) (Of part.InMore d) tok.RightBrace
    (λ y us t vs p is more. take (byte_taken y p) more) (λ us vs more. become (λ p. refl) (take (λ p. refl) more))
    (λ us vs more. become (λ p. refl) more) tt tt x xs ss ts all.0 all.1 next

in_inner : (d : ℕ) (t : CType) (ss : List Symbol) (ts : List Token)
    → Passes (Of part.InType d ∷ One tok.Name ∷ Of part.InRest d ∷ ss) (type_tokens t ++ ts)
    → Passes (Of part.InInner d ∷ ss) (type_tokens t ++ ts)
in_inner d type.Void ss ts next = become (λ p. refl) next
in_inner d _ ss ts next = become (λ p. refl) next

in_item : (d : ℕ) (t : CType) (ss : List Symbol) (ts : List Token)
    → Passes (Of part.InType d ∷ One tok.Name ∷ One tok.LeftParen ∷ Of part.InFunction d ∷ ss) (type_tokens t ++ ts)
    → Passes (Of part.InItem d ∷ ss) (type_tokens t ++ ts)
in_item d type.Void ss ts next = become (λ p. refl) next
in_item d _ ss ts next = become (λ p. refl) next

in_items : (d : ℕ) (t : CType) (ss : List Symbol) (ts : List Token)
    → Passes (Of part.InItem d ∷ Of part.InItems d ∷ ss) (type_tokens t ++ ts) → Passes (Of part.InItems d ∷ ss) (type_tokens t ++ ts)
in_items d type.Void ss ts next = become (λ p. refl) next
in_items d _ ss ts next = become (λ p. refl) next

value_passes : (d : ℕ) (v : Option Num) (ss : List Symbol) (ts : List Token) → FitsValue v → Passes ss ts
    → Passes (Of part.InRest d ∷ ss) (value_tokens v ++ ts)
value_passes d None ss ts fits next = become (λ p. refl) (take (λ p. refl) next)
value_passes d (Some n) ss ts fits next = become (λ p. refl) (take (λ p. refl) (number_passes d n _ _ fits (take (λ p. refl) next)))

-- a function as an item, behind the word static or not
func_passes : (d : ℕ) (b : Bool) (t : CType) (n : List ℕ) (ss : List Symbol) (ts : List Token)
    → Passes (Of part.InFunction d ∷ Of part.InItems d ∷ ss) ts
    → Passes (Of part.InItems d ∷ ss) (static_tokens b ++ (type_tokens t ++ (Named n ∷ Fixed tok.LeftParen ∷ ts)))
func_passes d true t n ss ts next =
    become (λ p. refl)
    (become (λ p. refl)
    (take (λ p. refl)
    (in_inner d t _ _ (type_passes d t _ _ _ (record { no_star = λ e p. refl })
    (take (λ p. refl) (become (λ p. refl) (take (λ p. refl) next)))))))
func_passes d false t n ss ts next =
    in_items d t _ _ (in_item d t _ _ (type_passes d t _ _ _ (record { no_star = λ e p. refl }) (take (λ p. refl) (take (λ p. refl) next))))

item_passes : (d : ℕ) (x : tree.Item) (ss : List Symbol) (ts : List Token) → FitsItem (suc (suc d)) x
    → Passes (Of part.InItems (suc (suc d)) ∷ ss) ts → Passes (Of part.InItems (suc (suc d)) ∷ ss) (item_tokens x ++ ts)
item_passes d (tree.Array n count bytes) ss ts fits next =
    rw (array_front n count bytes ts)
    (become (λ p. refl)
    (become (λ p. refl)
    (take (λ p. refl)
    (become (λ p. refl)
    (take (λ p. refl)
    (take (λ p. refl)
    (take (λ p. refl)
    (take (λ p. refl) (take (count_taken count fits.0)
    (take (λ p. refl)
    (take (λ p. refl)
    (take (λ p. refl) (bytes_pass (suc (suc d)) bytes _ _ fits.1 fits.2 (take (λ p. refl) (take (λ p. refl) (next))))))))))))))))
item_passes d (tree.Var t n v) ss ts fits next =
    rw (append_assoc (type_tokens t) (Named n ∷ value_tokens v) ts)
    (become (λ p. refl)
    (become (λ p. refl)
    (take (λ p. refl)
    (in_inner (suc (suc d)) t _ _ (type_passes (suc (suc d)) t _ _ _ (record { no_star = λ e p. refl })
    (take (λ p. refl) (value_passes (suc (suc d)) v _ _ fits next)))))))
item_passes d (tree.Function f) ss ts fits next =
    rw (func_front f ts) (func_passes (suc (suc d)) f.is_static f.result f.name ss _ (function_passes d f _ ts fits.0 fits.1 next))

items_pass : (d : ℕ) (xs : List tree.Item) (ss : List Symbol) (ts : List Token) → AllByRecursion (FitsItem (suc (suc d))) xs
    → Passes ss (Fixed tok.End ∷ ts) → Passes (Of part.InItems (suc (suc d)) ∷ ss) (each item_tokens xs ++ (Fixed tok.End ∷ ts))
items_pass d [] ss ts all next = become (λ p. refl) next
items_pass d (x ∷ xs) ss ts all next =
    rw (append_assoc (item_tokens x) (each item_tokens xs) (Fixed tok.End ∷ ts))
    (item_passes d x ss _ all.0 (items_pass d xs ss ts all.1 next))

unit_passes : (d : ℕ) (u : List tree.Item) → AllByRecursion (FitsItem (suc (suc d))) u
    → Passes (Of part.InUnit (suc (suc d)) ∷ []) (unit_tokens u ++ Fixed tok.End ∷ [])
unit_passes d u all = become (λ p. refl) (take (λ p. refl) (items_pass d u _ _ all (take (λ p. refl) (nothing []))))

pub no_fault : (u : List tree.Item) (text : List ℕ) (f : CReadFault) → CSpells u text → CUpto text f → ⊥
no_fault u text f is stops = (unit_passes 98 u is.fits).no_fault (lexemes 0 0 text) f is.in_order stops
