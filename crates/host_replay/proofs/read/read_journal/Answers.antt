use Rattle.host_replay.proofs.Common.{◌≡◌, ℕ, true, List, [], ◌∷◌, ◌++◌, length, sym, ap, ◌∙◌, subst, arith, Bor, length-map, map_push}
use Rattle.host_replay.proofs.Common.{texts, AllLack, cut, lacks}
use Rattle.host_replay.proofs.Lines.{few_parts, last_of, parts_lack}
use Rattle.host_replay.proofs.read.read_journal.Goals as goal

pub read_lines-requires-clause-small : goal.read_lines-requires-clause-small
read_lines-requires-clause-small c =
    let cuts : length (texts c.in_ok-all.all.items) ≡ length (cut 10 c.args.bytes.now) = ap length c.in_ok-all.ensures in
    let all = length-map c.in_ok-all.all.items (λ (b : Bor (List ℕ)). b.now) in
    let seen : length c.as_slice.result.now ≡ length c.in_ok-all.all.items = ap length c.as_slice.ensures.value in
    omega (arith, few_parts c.args.bytes.now, cuts, all, seen, c.in-Some.ensures.cases.1, c.requires)

pub read_lines-requires-clause-no_newline : goal.read_lines-requires-clause-no_newline
read_lines-requires-clause-no_newline c =
    let parts : cut 10 c.args.bytes.now ≡ texts c.in-Some.lines.now ++ c.in-Some.rest.now.now ∷ [] =
    sym c.in_ok-all.ensures ∙ ap texts (sym c.as_slice.ensures.value ∙ c.in-Some.ensures.cases.0)
    ∙ map_push (λ (b : Bor (List ℕ)). b.now) c.in-Some.lines.now c.in-Some.rest.now in
    last_of (λ (p : List ℕ). lacks 10 p ≡ true) (texts c.in-Some.lines.now) c.in-Some.rest.now.now
    (subst (AllLack 10) parts (parts_lack c.args.bytes.now))
