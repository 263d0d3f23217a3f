-- A script has one report at most: each command comes to one word, with one list of modules and of calls behind it. A part is a
-- prefix of it.
use Rattle.wast_run.proofs.Common.{◌≡◌, ℕ, suc, ◌+◌, List, [], ◌∷◌, ◌++◌, length, Some, None, Option, sym, refl, ap, ◌∙◌, subst, inl, inr}
use Rattle.wast_run.proofs.Common.{append_assoc, append-nil, arith, same_Some, Contents, IsPrefix, Name, Module, FileVerdict, LinkedSet}
use Rattle.wast_run.proofs.Common.{ListedCall, WasmRun, prefix_in_front, Command, IsPart, lines_before, AreWords, Asserts, Comes, EndsWith}
use Rattle.wast_run.proofs.Common.{IsFile, IsJudged, Joins, Lead, Runs, Setting, TrapsIn, Where, accepted_tree, at_first, calls_with}
use Rattle.wast_run.proofs.Common.{command_line, holds, is_invalid, is_malformed, lines_from, lines_of, ok_count, report_of, set_at}
use Rattle.wast_run.proofs.Common.{total_line, Word}
use Rattle.wasm_valid.proofs.Files.{one_file_verdict}
use Rattle.wast_script.specs.Commands as script
use Rattle.wast_run.proofs.PartLaws.{lead_plain}

-- two things that are said by one choice are said in the same case of it
same_case : (P A B C D G : Type 0) → (A → C → G) → (B → D → G) → Where P A B → Where P C D → G
same_case P A B C D G both neither (inl a) (inl b) = both a.1 b.1
same_case P A B C D G both neither (inl a) (inr b) = absurd (b.0 a.0)
same_case P A B C D G both neither (inr a) (inl b) = absurd (a.0 b.0)
same_case P A B C D G both neither (inr a) (inr b) = neither a.1 b.1

alike : {A : Type 0} (a b c : A) → a ≡ c → b ≡ c → a ≡ b
alike a b c e f = e ∙ sym f

-- ---- files

one_judged : (bytes : List ℕ) (a b : Option FileVerdict) → IsJudged bytes a → IsJudged bytes b → a ≡ b
one_judged bytes None None said other = refl
one_judged bytes (Some a) (Some b) said other = ap Some (one_file_verdict bytes a b said.1 other.1)
one_judged bytes _ _ said other = absurd (omega arith)

one_file : (contents : Contents) (name : Name) (a b : Option FileVerdict) → IsFile contents name a → IsFile contents name b → a ≡ b
one_file contents name a b (bytes, held, judged) (others, held', judged') =
    one_judged bytes a b judged (subst (λ l. IsJudged l b) (same_Some others bytes (sym held' ∙ held)) judged')

-- ---- one command

module _ (w v : Word) (after other : Setting) where
  abbrev AreSame : Type 0
  AreSame = (w ≡ v) × (after ≡ other)

  both_are : (x : Word) (s : Setting) → (w ≡ x) × (after ≡ s) → (v ≡ x) × (other ≡ s) → AreSame
  both_are x s a b = (alike w v x a.0 b.0, alike after other s a.1 b.1)

  one_joining : (at : Setting) (name : List ℕ) (tree : Option Module) → Joins at name tree w after → Joins at name tree v other → AreSame
  one_joining at name None a b = both_are _ at a b
  one_joining at name (Some tree) a b = same_case _ _ _ _ _ _ (both_are _ _) (both_are _ at) a b

  one_run : (s : LinkedSet) (calls : List ListedCall) (steps : ℕ) (IsRight : WasmRun → Type 0)
      → Runs s calls steps IsRight w → Runs s calls steps IsRight v → w ≡ v
  one_run s calls steps IsRight a b = same_case _ _ _ _ _ _ (alike w v _) (same_case _ _ _ _ _ _ (alike w v _) (alike w v _)) a b

  one_assertion : (at : Setting) (call : script.Call) (steps : ℕ) (IsRight : WasmRun → Type 0)
      → Asserts at call steps IsRight w after → Asserts at call steps IsRight v other → AreSame
  one_assertion at call steps IsRight a b =
      (same_case _ _ _ _ _ _ (one_run (set_at at) (calls_with at call) steps IsRight) (alike w v _) a.1 b.1, alike after other at a.0 b.0)

  one_word : (contents : Contents) (steps : ℕ) (at : Setting) (command : Command)
      → Comes contents steps at command w after → Comes contents steps at command v other → AreSame
  one_word contents steps at (script.Module file) (a, there, joins) (b, there', joins') =
      let same = one_file contents file.filename b a there' there in
      one_joining at file.name (accepted_tree a) joins (subst (λ o. Joins at file.name (accepted_tree o) v other) same joins')
  one_word contents steps at (script.Invoke call) a b = same_case _ _ _ _ _ _ (both_are _ _) (both_are _ at) a b
  one_word contents steps at (script.AssertReturn call expected) a b = one_assertion at call steps (EndsWith expected) a b
  one_word contents steps at (script.AssertTrap call cause) a b = one_assertion at call steps (TrapsIn (length at.kept) cause) a b
  one_word contents steps at (script.AssertInvalid file) (a, there, is, stays) (b, there', is', stays') =
      let same = one_file contents file b a there' there in
      both_are (holds (is_invalid a)) at (is, stays) (is' ∙ ap (λ o. holds (is_invalid o)) same, stays')
  one_word contents steps at (script.AssertMalformed file) (a, there, is, stays) (b, there', is', stays') =
      let same = one_file contents file b a there' there in
      both_are (holds (is_malformed a)) at (is, stays) (is' ∙ ap (λ o. holds (is_malformed o)) same, stays')

-- ---- commands

module _ (contents : Contents) (steps : ℕ) where
  one_lead : (commands : List Command) (at : Setting) (words others : List Word) (after other : Setting)
      → Lead contents steps at commands words after → Lead contents steps at commands others other → (words ≡ others) × (after ≡ other)
  one_lead [] at words others after other a b = (alike words others [] a.0 b.0, alike after other at a.1 b.1)
  one_lead (c ∷ commands) at words others after other (w, ws, between, comes, lead, is) (v, vs, between', comes', lead', is') =
      let same = one_word w v between between' contents steps at c comes comes' in
      let rest = one_lead commands between' ws vs after other (rw same.1 at lead) lead' in
      (is ∙ ap (λ x. x ∷ ws) same.0 ∙ ap (λ l. v ∷ l) rest.0 ∙ sym is', rest.1)

  pub one_report : (commands : List Command) (words others : List Word)
      → AreWords contents steps commands words → AreWords contents steps commands others → words ≡ others
  one_report commands words others (after, lead) (other, lead') = (one_lead commands at_first words others after other lead lead').0

  -- the words of the first commands stand first
  front_words : (front rest : List Command) (at : Setting) (words : List Word) (after : Setting)
      → Lead contents steps at (front ++ rest) words after
      → (first others : List Word) × (between : Setting) × Lead contents steps at front first between
      × Lead contents steps between rest others after × (words ≡ first ++ others)
  front_words [] rest at words after lead = ([], words, at, (refl, refl), lead, refl)
  front_words (c ∷ front) rest at words after (w, ws, next, comes, lead, is) =
      let more = front_words front rest next ws after lead in
      (w ∷ more.0, more.1, more.2, (w, more.0, next, comes, more.3, refl), more.4, is ∙ ap (λ l. w ∷ l) more.5)

lines_append : (number : ℕ) (words others : List Word)
    → lines_from number (words ++ others) ≡ lines_from number words ++ lines_from (number + length words) others
lines_append number [] others = let e : number ≡ number + 0 = omega arith in ap (λ n. lines_from n others) e
lines_append number (w ∷ words) others =
    let e : suc number + length words ≡ number + suc (length words) = omega arith in
    let first = command_line number w in
    ap (λ l. first ++ l) (lines_append (suc number) words others)
    ∙ sym (append_assoc first (lines_from (suc number) words) (lines_from (suc number + length words) others))
    ∙ ap (λ n. (first ++ lines_from (suc number) words) ++ lines_from n others) e

-- a prefix of the lines of the first commands, or of all and the last line, is one of the report
prefix_of_report : (contents : Contents) (steps : ℕ) (between : Setting) (rest : List Command) (first others : List Word) (after : Setting)
    (text : List ℕ) → Lead contents steps between rest others after → IsPrefix text (lines_before first rest)
    → IsPrefix text (report_of (first ++ others))
prefix_of_report contents steps between [] first others after text lead prefix =
    let e : first ≡ first ++ others = sym (append-nil first) ∙ ap (λ l. first ++ l) (sym lead.0) in
    subst (λ words. IsPrefix text (report_of words)) e prefix
prefix_of_report contents steps between (c ∷ rest) first others after text lead prefix =
    let behind = lines_from (1 + length first) others in
    let last = total_line (length (first ++ others)) (ok_count (first ++ others)) in
    let e : lines_of first ++ (behind ++ last) ≡ report_of (first ++ others) =
    sym (append_assoc (lines_of first) behind last) ∙ ap (λ l. l ++ last) (sym (lines_append 1 first others)) in
    subst (IsPrefix text) e (prefix_in_front text (lines_of first) (behind ++ last) prefix)

pub part_is_prefix : (contents : Contents) (steps : ℕ) (commands : List Command) (words : List Word) (text : List ℕ)
    → AreWords contents steps commands words → IsPart contents steps commands text → IsPrefix text (report_of words)
part_is_prefix contents steps commands words text (after, lead) part =
    let whole = front_words contents steps part.front part.rest at_first words after (rw part.split at lead) in
    let same = (one_lead contents steps part.front at_first part.words whole.0 part.after whole.2
    (lead_plain contents steps at_first part.front part.words part.after part.lead) whole.3).0 in
    rw whole.5 (prefix_of_report contents steps whole.2 part.rest whole.0 whole.1 after text whole.4 (rw same at part.prefix))
