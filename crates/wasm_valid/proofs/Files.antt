-- A file has one verdict: it has one reading, and a module has one verdict.
use Rattle.wasm_tree.specs.Limits.{most_module_bytes}
use Rattle.wasm_valid.proofs.Common.{◌≡◌, ℕ, ◌≤◌, ◌⊎◌, List, length, ap, ◌∙◌, subst, inl, inr, Module, Outcome, Verdict}
use Rattle.wasm_spelling.specs.declared.fault.ReadFault.{ReadFault}
use Rattle.wasm_spelling.specs.ModuleFields.{Spells}
use Rattle.wasm_spelling.specs.Table.{Upto}
use Rattle.wasm_spelling.proofs.Whole.{some_reading, one_tree, one_first, not_both}
use Rattle.wasm_valid.specs.FileVerdict.{FileVerdict, Unread, Read, IsVerdictOn}
use Rattle.wasm_valid.proofs.Verdicts.{some_verdict, one_verdict}

by_reading : (bytes : List ℕ) → ((tree : Module) × Spells tree bytes) ⊎ ((fault : ReadFault) × Upto bytes fault)
    → (verdict : FileVerdict) × IsVerdictOn bytes verdict
by_reading bytes (inl m) = let said = some_verdict m.0 in (Read m.0 said.0, (m.1, said.1))
by_reading bytes (inr f) = (Unread f.0, f.1)

pub some_file_verdict : (bytes : List ℕ) → length bytes ≤ most_module_bytes → (verdict : FileVerdict) × IsVerdictOn bytes verdict
some_file_verdict bytes short = by_reading bytes (some_reading bytes short)

same_tree : (tree other : Module) (a b : Outcome) → tree ≡ other → Verdict tree a → Verdict other b → Read tree a ≡ Read other b
same_tree tree other a b e h k =
    ap (λ t. Read t a) e ∙ ap (Read other) (one_verdict other a b (subst (λ t. Verdict t a) e h) k)

pub one_file_verdict : (bytes : List ℕ) (verdict other : FileVerdict) → IsVerdictOn bytes verdict → IsVerdictOn bytes other
    → verdict ≡ other
one_file_verdict bytes (Unread f) (Unread g) h k = ap Unread (one_first bytes f g h k)
one_file_verdict bytes (Unread f) (Read t a) h k = absurd (not_both bytes t f k.0 h)
one_file_verdict bytes (Read t a) (Unread f) h k = absurd (not_both bytes t f h.0 k)
one_file_verdict bytes (Read t a) (Read u b) h k = same_tree t u a b (one_tree bytes t u h.0 k.0) h.1 k.1
