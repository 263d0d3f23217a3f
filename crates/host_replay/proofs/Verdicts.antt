-- Lines have one verdict: they are one journal at most, or one of them is the first that is refused.
use Rattle.host_replay.proofs.Common.{◌≡◌, ℕ, suc, ◌+◌, ◌⊎◌, List, [], ◌∷◌, ◌++◌, length, Some, sym, refl, ap, ◌∙◌, subst, inl, inr}
use Rattle.host_replay.proofs.Common.{same_from_push, join_with_byte, Host, HostFunction, HostReply, joined, one_line, line_words}
use Rattle.host_replay.proofs.Common.{FunctionLine, JournalLine, reply_of, Adds, AddsEntry, AddsFunction, IsOffered, IsRefused, Read, Says}
use Rattle.host_replay.proofs.Common.{empty, named_function, symbol_of, with_function, Recorded, AreDistinct}
use Rattle.journal_lines.specs.declared.line.HostLine.{HostLine}
use Rattle.journal_lines.specs.declared.line.JournalLine.TheVariants as line
use Rattle.c_meaning.specs.declared.reply.HostReply.TheVariants as reply
use Rattle.host_replay.proofs.Symbols.{function_more, module_more}

-- ---- symbols stay distinct

pub none_distinct : AreDistinct []
none_distinct h f k g s a b = absurd cc

module_distinct : (hosts : List Host) (name : List ℕ) → AreDistinct hosts
    → AreDistinct (hosts ++ record { name = name; functions = [] } ∷ [])
module_distinct hosts name d h f k g s a b = d h f k g s (sym (module_more hosts name h f) ∙ a) (sym (module_more hosts name k g) ∙ b)

function_distinct : (front : List Host) (last : Host) (x : HostFunction) → AreDistinct (front ++ last ∷ [])
    → (IsOffered (front ++ last ∷ []) (symbol_of last x) → ⊥) → AreDistinct (front ++ with_function last x ∷ [])
function_distinct front last x d new h f k g s a b = elim (function_more last x front h f s a) [
  | inl old ↦ elim (function_more last x front k g s b) [
    | inl other ↦ d h f k g s old other
    | inr here ↦ absurd (new (h, f, old ∙ ap Some (sym here.2)))
  ]
  | inr here ↦ elim (function_more last x front k g s b) [
    | inl old ↦ absurd (new (k, g, old ∙ ap Some (sym here.2)))
    | inr other ↦ (here.0 ∙ sym other.0, here.1 ∙ sym other.1)
  ]
]

pub stay_distinct : (before after : Recorded) (l : JournalLine) → AreDistinct before.hosts → Adds before l after → AreDistinct after.hosts
stay_distinct before after (line.Module name) d adds = rw adds.after_is (module_distinct before.hosts name d)
stay_distinct before after (line.Function f) d adds =
    subst (λ (j : Recorded). AreDistinct j.hosts) (sym adds.after_is)
    (function_distinct adds.front adds.last (named_function f) (subst AreDistinct adds.hosts_are d)
    (λ offered. adds.is_new (rw adds.hosts_are offered)))
stay_distinct before after (line.Host call) d adds = rw adds.after_is d

-- ---- a line adds one thing at most

pub reply_same : (r s : HostReply) → reply_of r ≡ reply_of s → r ≡ s
reply_same (reply.Value v) (reply.Value w) e = let same : v ≡ w = cc in ap reply.Value same
reply_same reply.Trap reply.Trap e = refl
reply_same _ _ e = absurd cc

one_function : (before a b : Recorded) (f : FunctionLine) → AddsFunction before f a → AddsFunction before f b → a ≡ b
one_function before a b f x y =
    let same = same_from_push x.front y.front x.last y.last (sym x.hosts_are ∙ y.hosts_are) in
    x.after_is
    ∙ (λ i. record { hosts = same.0 i ++ with_function (same.1 i) (named_function f) ∷ []; entries = [] })
    ∙ sym y.after_is

one_entry : (before a b : Recorded) (call : HostLine) → AreDistinct before.hosts → AddsEntry before call a → AddsEntry before call b → a ≡ b
one_entry before a b call d x y =
    let places = d x.entry.host x.entry.function y.entry.host y.entry.function _ x.is_offered y.is_offered in
    let args = x.args_are ∙ sym y.args_are in
    let replies = x.reply_is ∙ sym y.reply_is in
    let same : x.entry ≡ y.entry = λ i. record { host = places.0 i; function = places.1 i; args = args i; reply = replies i } in
    x.after_is ∙ (λ i. record { hosts = before.hosts; entries = before.entries ++ same i ∷ [] }) ∙ sym y.after_is

one_after : (before a b : Recorded) (l : JournalLine) → AreDistinct before.hosts → Adds before l a → Adds before l b → a ≡ b
one_after before a b (line.Module name) d x y = x.after_is ∙ sym y.after_is
one_after before a b (line.Function f) d x y = one_function before a b f x y
one_after before a b (line.Host call) d x y = one_entry before a b call d x y

pub one_said : (text : List ℕ) (l m : JournalLine) → Says text l → Says text m → l ≡ m
one_said text l m x y = one_line (join_with_byte 32 (line_words l)) l m (x.0, joined l) (y.0, y.1 ∙ sym x.1 ∙ joined l)

-- ---- lines

pub one_read : (before a b : Recorded) (lines : List (List ℕ)) → AreDistinct before.hosts → Read before lines a
    → Read before lines b → a ≡ b
one_read before a b [] d x y = x ∙ sym y
one_read before a b (text ∷ lines) d x y =
    let adds : Adds before x.0 y.1 = subst (λ (l : JournalLine). Adds before l y.1) (sym (one_said text x.0 y.0 x.2 y.2)) y.3 in
    let middle = one_after before x.1 y.1 x.0 d x.3 adds in
    one_read x.1 a b lines (stay_distinct before x.1 x.0 d x.3) x.4 (subst (λ (j : Recorded). Read j lines b) (sym middle) y.4)

-- a front of lines that are read, and the line behind it
record Parted (before : Recorded) (front : List (List ℕ)) (text : List ℕ) : Type 0 where
  known : Recorded
  read : Read before front known
  said : JournalLine
  after : Recorded
  says : Says text said
  adds : Adds known said after

parted : (before j : Recorded) (front : List (List ℕ)) (text : List ℕ) (rest : List (List ℕ))
    → Read before (front ++ text ∷ rest) j → Parted before front text
parted before j [] text rest r = record { known = before; read = refl; said = r.0; after = r.1; says = r.2; adds = r.3 }
parted before j (t ∷ front) text rest r =
    let p = parted r.1 j front text rest r.4 in
    record { known = p.known; read = (r.0, r.1, r.2, r.3, p.read); said = p.said; after = p.after; says = p.says; adds = p.adds }

stops : (j : Recorded) (lines : List (List ℕ)) (n : ℕ) (rest : List (List ℕ)) (r : IsRefused lines n)
    → Read empty (r.front ++ r.text_line ∷ rest) j → ⊥
stops j lines n rest r read =
    let p = parted empty j r.front r.text_line rest read in
    let same = one_read empty p.known r.known r.front none_distinct p.read r.read in
    r.refused p.said p.after p.says (subst (λ (k : Recorded). Adds k p.said p.after) same p.adds)

pub read_or_refused : (j : Recorded) (lines : List (List ℕ)) (n : ℕ) → Read empty lines j → IsRefused lines n → ⊥
read_or_refused j lines n read r = stops j lines n r.rest r (subst (λ (ls : List (List ℕ)). Read empty ls j) r.lines_are read)

-- of two fronts of one list the lengths are equal, or one goes on with what stands behind the other
fronts : {A : Type 0} (xs ys : List A) (x y : A) (us vs : List A) → xs ++ x ∷ us ≡ ys ++ y ∷ vs
    → (length xs ≡ length ys) ⊎ (((more : List A) × (ys ≡ xs ++ x ∷ more)) ⊎ ((more : List A) × (xs ≡ ys ++ y ∷ more)))
fronts [] [] x y us vs e = inl refl
fronts [] (b ∷ ys) x y us vs e = let same : x ≡ b = cc in inr (inl (ys, (λ i. sym same i ∷ ys)))
fronts (a ∷ xs) [] x y us vs e = let same : a ≡ y = cc in inr (inr (xs, (λ i. same i ∷ xs)))
fronts (a ∷ xs) (b ∷ ys) x y us vs e =
    let first : a ≡ b = cc in
    let rest : xs ++ x ∷ us ≡ ys ++ y ∷ vs = cc in
    elim (fronts xs ys x y us vs rest) [
      | inl h ↦ inl (ap suc h)
      | inr h ↦ elim h [
        | inl m ↦ inr (inl (m.0, (λ i. sym first i ∷ m.1 i)))
        | inr m ↦ inr (inr (m.0, (λ i. first i ∷ m.1 i)))
      ]
    ]

pub one_refused : (lines : List (List ℕ)) (m n : ℕ) → IsRefused lines m → IsRefused lines n → m ≡ n
one_refused lines m n r s = elim (fronts r.front s.front r.text_line s.text_line r.rest s.rest (sym r.lines_are ∙ s.lines_are)) [
  | inl h ↦ r.number_is ∙ ap (λ k. k + 1) h ∙ sym s.number_is
  | inr h ↦ elim h [
    | inl p ↦ absurd (stops s.known lines m p.0 r (subst (λ (ls : List (List ℕ)). Read empty ls s.known) p.1 s.read))
    | inr p ↦ absurd (stops r.known lines n p.0 s (subst (λ (ls : List (List ℕ)). Read empty ls r.known) p.1 r.read))
  ]
]

-- the symbols of a journal that is read differ
pub read_distinct : (before after : Recorded) (lines : List (List ℕ)) → AreDistinct before.hosts → Read before lines after
    → AreDistinct after.hosts
read_distinct before after [] d r = subst (λ (j : Recorded). AreDistinct j.hosts) (sym r) d
read_distinct before after (text ∷ lines) d r = read_distinct r.1 after lines (stay_distinct before r.1 r.0 d r.3) r.4
