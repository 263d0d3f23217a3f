-- Words say one thing at most.
use Rattle.journal_lines.proofs.Common.{◌≡◌, ℕ, List, [], ◌∷◌, ◌++◌, map, Some, None, codes, decimal, Option, sym, refl, ap, ◌∙◌, arith}
use Rattle.journal_lines.proofs.Common.{decimal_injective, AllByRecursion, IsNumber, ValType, Value, I32, I64, escaped, reply_of, HostReply}
use Rattle.journal_lines.proofs.Common.{reply_text, name_text, number_text, or_z, IsGiven, IsLine, IsProper, result_text, type_text, equals}
use Rattle.journal_lines.proofs.Common.{line_words, JournalLine}
use Rattle.w2c_base.specs.declared.value.ValType.TheVariants as type
use Rattle.w2c_mangle.proofs.EscapedNames.{escaped-injective, escaped_apart}
use Rattle.c_meaning.specs.declared.reply.HostReply.TheVariants as reply
use Rattle.journal_lines.specs.declared.line.FunctionLine.{FunctionLine}
use Rattle.journal_lines.specs.declared.line.HostLine.{HostLine}
use Rattle.journal_lines.specs.declared.line.JournalLine.TheVariants as line
use Rattle.w2c_base.proofs.Nothing.{same_parts}
use Rattle.journal_lines.proofs.Equals.{equals_same}
use Rattle.journal_lines.proofs.Texts.{said_by_words}

or_z_same : (x y : List ℕ) → (x ≡ codes "Z" → ⊥) → (y ≡ codes "Z" → ⊥) → or_z x ≡ or_z y → x ≡ y
or_z_same [] [] hx hy e = refl
or_z_same [] (c ∷ y) hx hy e = absurd (hy (sym e))
or_z_same (b ∷ x) [] hx hy e = absurd (hx e)
or_z_same (b ∷ x) (c ∷ y) hx hy e = e

pub name_same : (x y : List ℕ) → name_text x ≡ name_text y → x ≡ y
name_same x y e = escaped-injective x y (or_z_same (escaped x) (escaped y) (escaped_apart x) (escaped_apart y) e)

type_same : (t u : ValType) → type_text t ≡ type_text u → t ≡ u
type_same type.I32 type.I32 e = refl
type_same type.I64 type.I64 e = refl
type_same type.I32 type.I64 e = absurd (grind (arith, e))
type_same type.I64 type.I32 e = absurd (grind (arith, e))

types_same : (ts us : List ValType) → map type_text ts ≡ map type_text us → ts ≡ us
types_same [] [] e = refl
types_same [] (u ∷ us) e = absurd cc
types_same (t ∷ ts) [] e = absurd cc
types_same (t ∷ ts) (u ∷ us) e =
    let both = same_parts (type_text t) (type_text u) (map type_text ts) (map type_text us) e in
    λ i. type_same t u both.0 i ∷ types_same ts us both.1 i

not_none : (t : ValType) → codes "none" ≡ type_text t → ⊥
not_none type.I32 e = absurd (grind (arith, e))
not_none type.I64 e = absurd (grind (arith, e))

result_same : (t u : Option ValType) → result_text t ≡ result_text u → t ≡ u
result_same None None e = refl
result_same None (Some u) e = absurd (not_none u e)
result_same (Some t) None e = absurd (not_none t (sym e))
result_same (Some t) (Some u) e = ap Some (type_same t u e)

number_same : (v w : Value) → IsNumber v → IsNumber w → number_text v ≡ number_text w → v ≡ w
number_same (I32 n) (I32 m) hn hm e =
    let digits : decimal n ≡ decimal m = cc in ap I32 (decimal_injective n m (omega (arith, hn)) (omega (arith, hm)) digits)
number_same (I64 n) (I64 m) hn hm e = let digits : decimal n ≡ decimal m = cc in ap I64 (decimal_injective n m hn hm digits)
number_same (I32 n) (I64 m) hn hm e = absurd (grind (arith, e))
number_same (I64 n) (I32 m) hn hm e = absurd (grind (arith, e))

numbers_same : (vs ws : List Value) → AllByRecursion IsNumber vs → AllByRecursion IsNumber ws
    → map number_text vs ≡ map number_text ws → vs ≡ ws
numbers_same [] [] hv hw e = refl
numbers_same [] (w ∷ ws) hv hw e = absurd cc
numbers_same (v ∷ vs) [] hv hw e = absurd cc
numbers_same (v ∷ vs) (w ∷ ws) hv hw e =
    let both = same_parts (number_text v) (number_text w) (map number_text vs) (map number_text ws) e in
    λ i. number_same v w hv.0 hw.0 both.0 i ∷ numbers_same vs ws hv.1 hw.1 both.1 i

no_number : (v : Value) → (codes "none" ≡ number_text v → ⊥) × (codes "trap" ≡ number_text v → ⊥)
no_number (I32 n) = ((λ e. grind (arith, e)), (λ e. grind (arith, e)))
no_number (I64 n) = ((λ e. grind (arith, e)), (λ e. grind (arith, e)))

reply_same : (r s : HostReply) → IsGiven r → IsGiven s → reply_text (reply_of r) ≡ reply_text (reply_of s) → r ≡ s
reply_same reply.Trap reply.Trap hr hs e = refl
reply_same (reply.Value None) (reply.Value None) hr hs e = refl
reply_same (reply.Value (Some v)) (reply.Value (Some w)) hr hs e = ap (λ (n : Value). reply.Value (Some n)) (number_same v w hr hs e)
reply_same reply.Trap (reply.Value None) hr hs e = absurd (grind (arith, e))
reply_same (reply.Value None) reply.Trap hr hs e = absurd (grind (arith, e))
reply_same reply.Trap (reply.Value (Some w)) hr hs e = absurd ((no_number w).1 e)
reply_same (reply.Value (Some v)) reply.Trap hr hs e = absurd ((no_number v).1 (sym e))
reply_same (reply.Value None) (reply.Value (Some w)) hr hs e = absurd ((no_number w).0 e)
reply_same (reply.Value (Some v)) (reply.Value None) hr hs e = absurd ((no_number v).0 (sym e))

module_same : (x y : List ℕ) → line_words (line.Module x) ≡ line_words (line.Module y) → line.Module x ≡ line.Module y
module_same x y e = let names : name_text x ≡ name_text y = cc in ap line.Module (name_same x y names)

function_same : (f g : FunctionLine) → line_words (line.Function f) ≡ line_words (line.Function g) → line.Function f ≡ line.Function g
function_same f g e =
    let names : name_text f.name ≡ name_text g.name = cc in
    let rest : equals (map type_text f.ty.params) (result_text f.ty.result)
    ≡ equals (map type_text g.ty.params) (result_text g.ty.result) = cc in
    let both = equals_same (map type_text f.ty.params) (map type_text g.ty.params) (result_text f.ty.result)
    (result_text g.ty.result) rest in
    let name = name_same f.name g.name names in
    let params = types_same f.ty.params g.ty.params both.0 in
    let result = result_same f.ty.result g.ty.result both.1 in
    λ i. line.Function (record { name = name i; ty = record { params = params i; result = result i } })

host_same : (h k : HostLine) → IsProper (line.Host h) → IsProper (line.Host k) → line_words (line.Host h) ≡ line_words (line.Host k)
    → line.Host h ≡ line.Host k
host_same h k ih ik e =
    let hosts : name_text h.host ≡ name_text k.host = cc in
    let functions : name_text h.function ≡ name_text k.function = cc in
    let rest : equals (map number_text h.args) (reply_text (reply_of h.reply))
    ≡ equals (map number_text k.args) (reply_text (reply_of k.reply)) = cc in
    let both = equals_same (map number_text h.args) (map number_text k.args) (reply_text (reply_of h.reply))
    (reply_text (reply_of k.reply)) rest in
    let host = name_same h.host k.host hosts in
    let function = name_same h.function k.function functions in
    let args = numbers_same h.args k.args ih.2 ik.2 both.0 in
    let reply = reply_same h.reply k.reply ih.3 ik.3 both.1 in
    λ i. line.Host (record { host = host i; function = function i; args = args i; reply = reply i })

words_same : (l m : JournalLine) → IsProper l → IsProper m → line_words l ≡ line_words m → l ≡ m
words_same (line.Module x) (line.Module y) il im e = module_same x y e
words_same (line.Function f) (line.Function g) il im e = function_same f g e
words_same (line.Host h) (line.Host k) il im e = host_same h k il im e
words_same _ _ il im e = absurd (grind (arith, e))

pub one_line : (text : List ℕ) (l m : JournalLine) → IsLine text l → IsLine text m → l ≡ m
one_line text l m il im =
    words_same l m il.0 im.0 (sym (said_by_words text l il).1 ∙ (said_by_words text m im).1)
