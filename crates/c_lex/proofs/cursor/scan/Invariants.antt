use Rattle.c_lex.proofs.Common.{◌≡◌, ◌+◌, ◌≤◌, length, lexemes}
use Rattle.c_lex.proofs.cursor.scan.Given as goal

abbrev pub invariant-gaps : goal.invariant-gaps
invariant-gaps l = (l.at + length l.rest ≤ l.place + length l.text) × (lexemes 0 l.at l.rest ≡ lexemes 0 l.place l.text)

abbrev pub decreases-gaps : goal.decreases-gaps
decreases-gaps l = length l.rest
