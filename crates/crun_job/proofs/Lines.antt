-- The lines of a calls file that are gone through: one more that names a call, and the first that names none.
use Rattle.crun_job.proofs.Common.{◌≡◌, ℕ, ◌+◌, ◌<◌, List, [], ◌∷◌, ◌++◌, length, get_or, take, sym, refl, ◌∙◌, subst, get_or_default}
use Rattle.crun_job.proofs.Common.{length-map, SymbolCall, seen_lines, seen_numbered, AreCalls, IsFirstRefusedLine, IsRefusedLine, Names}
use Rattle.crun_job.proofs.Common.{NamesFrom, call_seen, calls_seen, NamedCall}
use Rattle.std.proofs.Math.ListN.{get_or-map}
use Rattle.c_tree.specs.Tree as tree
use Rattle.crun_words.specs.CallsFile as file
use Rattle.crun_words.specs.declared.calls_file.NumberedLine.{NumberedLine}
use Rattle.crun_job.proofs.Each.{each_pushed, first_at}
use Rattle.crun_job.proofs.Taken.{take_next}

module _ (units : List (List tree.Item)) (lines : List NumberedLine) (i : ℕ) (d : NumberedLine) (less : i < length lines)
    (calls : List NamedCall) (so_far : AreCalls units (take i (seen_lines lines)) (calls_seen calls)) where
  abbrev pub line : file.NumberedLine
  line = seen_numbered (get_or lines i d)

  less_seen : i < length (seen_lines lines)
  less_seen = rw length-map less

  line_is : line ≡ get_or (seen_lines lines) i line
  line_is =
      sym (get_or-map seen_numbered lines i d)
      ∙ get_or_default (seen_lines lines) i (seen_numbered d) line less_seen

  pub one_more : (call : NamedCall) (new : List NamedCall) → Names units line.text (call_seen call) → new ≡ calls ++ call ∷ []
      → AreCalls units (take (i + 1) (seen_lines lines)) (calls_seen new)
  one_more call new names pushed =
      subst (λ cs. AreCalls units (take (i + 1) (seen_lines lines)) (calls_seen cs)) (sym pushed)
      (subst (λ ls. AreCalls units ls (calls_seen (calls ++ call ∷ []))) (sym (take_next (seen_lines lines) i line less_seen line_is))
      (each_pushed (NamesFrom units) call_seen (take i (seen_lines lines)) calls line call so_far names))

  pub refused_here : (whole : List file.NumberedLine) → seen_lines lines ≡ whole
      → ((call : SymbolCall) → Names units line.text call → ⊥) → IsFirstRefusedLine units whole (get_or lines i d).number
  refused_here whole is none =
      subst (λ ls. IsFirstRefusedLine units ls (get_or lines i d).number) is (
        i,
        first_at (NamesFrom units) (IsRefusedLine units) (seen_lines lines) i line (calls_seen calls) (get_or lines i d).number
            less_seen line_is so_far (refl, none),
      )
