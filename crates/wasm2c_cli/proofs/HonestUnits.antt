-- The units that were put stand, where the files behave as files.
use Rattle.wasm2c_cli.proofs.Common.{◌≡◌, List, ◌++◌, Some, Option, subst, same_Some, Contents, Name, Told, Event, AreHonest}
use Rattle.wasm2c_cli.proofs.Common.{Line, line_of, AreReadOf, files_of, PutsLinked, PutsLinkedUnits, ReadsWhole, inputs_of, targets_of}
use Rattle.wasm2c_cli.proofs.Common.{DoTheSameWithOthers, HoldsText, HoldsUnit, StandAll, WritesLinkedUnits, WritesUnits, texts_made}
use Rattle.wasm2c_cli.proofs.HonestTop.{all_held, sources_so, whole_put}
use Rattle.wasm2c_cli.proofs.Passed.{passed}
use Rattle.wasm2c_cli.proofs.TopLaws.{texts_stand, units_stand}

module _ (words : List Name) (line : Line) (is : line_of words ≡ Some line) (m : Contents) (new : Told) (current after : Option Name)
    (events : List Event) (puts : PutsLinked line events) (honest : AreHonest events (Some m) current new after) where
  here : AreHonest (puts.given ++ puts.put) (Some m) current new after
  here = subst (λ (es : List Event). AreHonest es (Some m) current new after) puts.split honest

  abbrev units_here : StandAll (HoldsUnit new) line m
  units_here =
      let held = all_held line m puts.given puts.put new current after puts.reads here in
      let read = sources_so (ReadsWhole (inputs_of line) puts.given) (AreReadOf line m) held line puts.stand.sources puts.stand.read in
      let files = files_of (targets_of line) puts.stand.modules in
      let whole = whole_put line m puts.given puts.put new current after puts.reads here files puts.files in
      let all = units_stand m new line puts.stand.sources puts.stand.modules (passed words line is) puts.stand.all whole in
      record { sources = puts.stand.sources; modules = puts.stand.modules; read = read; all = all }

pub honest_units : (words : List Name) (events : List Event) (m : Contents) (new : Told) (current after : Option Name)
    → PutsLinkedUnits words events → AreHonest events (Some m) current new after → WritesUnits words (Some m) new
honest_units words events m new current after (line, is, puts) honest = λ contents told.
    subst (λ (c : Contents). (line : Line) × (line_of words ≡ Some line) × StandAll (HoldsUnit new) line c) (same_Some m contents told)
    (line, is, units_here words line is m new current after events puts honest)

pub honest_linked : (words : List Name) (events : List Event) (m : Contents) (new : Told) (current after : Option Name)
    → PutsLinkedUnits words events → AreHonest events (Some m) current new after → WritesLinkedUnits words (Some m) new
honest_linked words events m new current after (line, is, puts) honest = λ contents told.
    subst (λ (c : Contents). (line : Line) × (line_of words ≡ Some line) × (stand : StandAll (HoldsText new) line c)
    × DoTheSameWithOthers (texts_made (targets_of line) stand.sources stand.modules)) (same_Some m contents told)
    (line, is, texts_stand new line m (units_here words line is m new current after events puts honest), puts.same)
