-- The sample can be written; a module behind its calls is refused.
use Rattle.host_replay.proofs.Common.{◌≡◌, ℕ, zero, suc, ◌+◌, ◌<◌, List, [], ◌∷◌, ◌++◌, length, get_or, Some, None, codes, Option, sym}
use Rattle.host_replay.proofs.Common.{refl, ap, ◌∙◌, subst, arith, lit<, All-from_recursion, AllByRecursion, IsBytes, JournalLine, Adds}
use Rattle.host_replay.proofs.Common.{AddsModule, IsRefusedAt, Says, lines_of, env, ticks, Recorded, journal_text, AreDistinct, IsWritable}
use Rattle.journal_lines.specs.declared.line.JournalLine.TheVariants as line
use Rattle.host_replay.proofs.Spelled.{spelled}
use Rattle.host_replay.proofs.Verdicts.{one_said}

-- a letter of a symbol
abbrev letter : ℕ → Option (List ℕ) → ℕ
letter k None = 0
letter k (Some symbol) = get_or symbol k 0

distinct : AreDistinct (env ∷ [])
distinct zero zero zero zero s a b = (refl, refl)
distinct zero (suc zero) zero (suc zero) s a b = (refl, refl)
distinct zero (suc (suc zero)) zero (suc (suc zero)) s a b = (refl, refl)
distinct zero zero zero (suc zero) s a b = (let e : 51 ≡ 54 = ap (letter 18) (a ∙ sym b) in absurd (grind (arith, e)))
distinct zero zero zero (suc (suc zero)) s a b = (let e : 112 ≡ 116 = ap (letter 13) (a ∙ sym b) in absurd (grind (arith, e)))
distinct zero (suc zero) zero zero s a b = (let e : 54 ≡ 51 = ap (letter 18) (a ∙ sym b) in absurd (grind (arith, e)))
distinct zero (suc zero) zero (suc (suc zero)) s a b = (let e : 112 ≡ 116 = ap (letter 13) (a ∙ sym b) in absurd (grind (arith, e)))
distinct zero (suc (suc zero)) zero zero s a b = (let e : 116 ≡ 112 = ap (letter 13) (a ∙ sym b) in absurd (grind (arith, e)))
distinct zero (suc (suc zero)) zero (suc zero) s a b = (let e : 116 ≡ 112 = ap (letter 13) (a ∙ sym b) in absurd (grind (arith, e)))
distinct _ _ _ _ s a b = absurd cc

bytes : (name : List ℕ) → AllByRecursion (λ b. b < 256) name → IsBytes name
bytes name each = All-from_recursion (λ b. b < 256) name each

pub writable : IsWritable ticks
writable = record {
  names = (
    (
      bytes (codes "env") (lit< tt, (lit< tt, (lit< tt, tt))),
      (
        bytes (codes "put_i32") (lit< tt, (lit< tt, (lit< tt, (lit< tt, (lit< tt, (lit< tt, (lit< tt, tt))))))),
        (
          bytes (codes "put_i64") (lit< tt, (lit< tt, (lit< tt, (lit< tt, (lit< tt, (lit< tt, (lit< tt, tt))))))),
          (bytes (codes "tick") (lit< tt, (lit< tt, (lit< tt, (lit< tt, tt)))), tt),
        ),
      ),
    ),
    tt,
  );
  distinct = distinct;
  fitting = refl;
  numbers = (tt, (tt, tt));
}

no_module : (l : JournalLine) (after : Recorded) → Says (codes "module env\n") l → Adds ticks l after → ⊥
no_module l after says adds =
    let same : l ≡ line.Module (codes "env") = one_said (codes "module env\n") l (line.Module (codes "env")) says
    (writable.names.0.0, refl) in
    let added : AddsModule ticks (codes "env") after = subst (λ (l : JournalLine). Adds ticks l after) same adds in
    (let none = added.no_entries in cc)

pub behind : lines_of (journal_text ticks ++ codes "module env\n") ≡ lines_of (journal_text ticks) ++ codes "module env\n" ∷ []
    → length (lines_of (journal_text ticks)) ≡ 6
    → IsRefusedAt (journal_text ticks ++ codes "module env\n") 7
behind lines count = record {
  front = lines_of (journal_text ticks);
  text_line = codes "module env\n";
  rest = [];
  lines_are = lines;
  number_is = sym (ap (λ n. n + 1) count);
  known = ticks;
  read = spelled ticks writable;
  refused = no_module;
}
