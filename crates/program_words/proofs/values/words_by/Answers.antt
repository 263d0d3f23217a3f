use Rattle.std.proofs.Common.{◌≡◌, ◌∙◌, sym, ap, List, ℕ, [], Option, Vec, Global, option_map, unwrap_or, Bor}
use Rattle.std.proofs.lemmas.Result.{IfOk-weaker}
use Rattle.clap.specs.Words.{all_of, found_of, rows_of}
use Rattle.clap.proofs.WalkLemmas.{raw_values-rows}
use Rattle.w2c_files.specs.Words.{names_of}
use Rattle.program_words.specs.Command.{words_in}
use Rattle.program_words.proofs.values.words_by.Goals as goal

abbrev Words : Type 0
Words = Bor (List (Bor (List ℕ)))

abbrev seen : Option Words → Option (List (List ℕ))
seen found = option_map (λ (words : Words). names_of words.now) found

-- the words of an entry, or none
abbrev or_none : Option (List (List ℕ)) → List (List ℕ)
or_none words = unwrap_or words []

pub returns-in-Some : goal.returns-in-Some
returns-in-Some c =
    let rows = rows_of (found_of c.args.matches.now) in
    let all : seen c.get_strs.result ≡ all_of c.args.id.now rows =
    c.get_strs.ensures ∙ raw_values-rows (found_of c.args.matches.now) c.args.id.now in
    let same : names_of c.in-Some.words.now ≡ words_in c.args.id.now rows =
    sym (ap (λ found. or_none (seen found)) c.in-Some.is) ∙ ap or_none all in
    IfOk-weaker c.from_slice.result (λ (v : Vec (Bor (List ℕ)) Global). v.items ≡ c.in-Some.words.now)
    (λ (v : Vec (Bor (List ℕ)) Global). names_of v.items ≡ words_in c.args.id.now rows)
    (λ v is. ap names_of is ∙ same) c.from_slice.ensures.items

pub returns-in-None : goal.returns-in-None
returns-in-None c =
    let rows = rows_of (found_of c.args.matches.now) in
    let all : seen c.get_strs.result ≡ all_of c.args.id.now rows =
    c.get_strs.ensures ∙ raw_values-rows (found_of c.args.matches.now) c.args.id.now in
    ap names_of c.new.ensures.items ∙ sym (ap (λ found. or_none (seen found)) c.in-None.is) ∙ ap or_none all
