use Rattle.journal_lines.proofs.Common.{◌≡◌, map, take, AllByRecursion, IsNumber, texts, number_text}
use Rattle.journal_lines.proofs.values.values_of.Given as goal

abbrev pub invariant-loop-k : goal.invariant-loop-k
invariant-loop-k l = record {
  numbers : AllByRecursion IsNumber l.values;
  written : map number_text l.values ≡ take l.k (texts l.words);
}
