-- README's run of a unit: what two.c spells, what the calls file says, and what its run prints.
use Rattle.crun_cli.proofs.Common.{◌≡◌, ℕ, ◌+◌, ◌<◌, false, List, [], ◌∷◌, map, length, Some, None, codes, Option, MatchOption, sym, refl}
use Rattle.crun_cli.proofs.Common.{ap, ◌∙◌, subst, inl, inr, arith, leb-true, get, CallEnded, Host, Reply, Value, I32, Contents, extended}
use Rattle.crun_cli.proofs.Common.{print_of, SymbolCall, CRun, Ended, c_run, lines_of, hosts_of, replies_in, HostModule, one_reading, Line}
use Rattle.crun_cli.proofs.Common.{RunLine, line_of, runs, AllRead, IsReading, Reading, most_calls_bytes, most_unit_bytes, most_units_bytes}
use Rattle.crun_cli.proofs.Common.{IsTextsJob, Job, Run, Stops, Write, Usage, Finished, HasPlayed, Ran, WithHosts, IsJob, IsJobBehind}
use Rattle.crun_cli.proofs.Common.{IsLineJob, IsRunJob, symbols_of, Outside, HasStatus}
use Rattle.std.specs.Fmt.{digits}
use Rattle.std.proofs.lemmas.List.Elements.{All-from_recursion}
use Rattle.clap.proofs.OnLiterals.{clap_on_literals}
use Rattle.w2c_base.specs.Run.{Call as InCall}
use Rattle.w2c_base.specs.Values.{number_of}
use Rattle.c_tree.specs.Tree as tree
use Rattle.c_tree.proofs.OneUnit.{one_unit}
use Rattle.c_print.proofs.WorkedUnit.{two_spelled_by, two_unit}
use Rattle.crun_words.specs.CallLine.{Call, IsBytes, SaysCall}
use Rattle.program_words.specs.Command.{rows_read}
use Rattle.crun_words.specs.Command.{values_of}
use Rattle.crun_words.proofs.Said.{one_call}
use Rattle.crun_job.specs.Calls.{Names, NamesFrom}
use Rattle.crun_job.specs.Each.{AreEach}
use Rattle.crun_job.specs.Texts.{IsUnitText}
use Rattle.crun_cli.specs.Example.{two_c, two_calls, two_words}

-- ---- the words

abbrev two_line : RunLine
two_line = record {
  steps = 100;
  calls = codes "examples/sum.calls";
  shows_state = false;
  journal = None;
  replayed = None;
  units = codes "two.c" ∷ [];
}

two_line_is : line_of two_words ≡ Some (runs two_line)
unfolding values_of rows_read clap_on_literals
two_line_is = refl

same_line : (a b : RunLine) → ◌≡◌ {A = Option Line} (Some (runs a)) (Some (runs b)) → a ≡ b
same_line a b e = cc

-- ---- the unit

two_printed : print_of two_unit ≡ two_c
unfolding digits
two_printed = refl

units_are : (units : List (List tree.Item)) → AreEach IsUnitText (two_c ∷ []) units → units ≡ two_unit ∷ []
units_are [] are = absurd are
units_are (unit ∷ []) ((spelled, keeps), others) =
    ap (λ (u : List tree.Item). u ∷ []) (one_unit unit two_unit two_c spelled (two_spelled_by two_c two_printed))
units_are (unit ∷ other ∷ units) (is, others) = absurd others

-- ---- the call

abbrev two_call : SymbolCall
two_call = record { symbol = codes "w2cZ_twoZ_fZ_f"; args = [] }

two_bytes : IsBytes (codes "two")
two_bytes = All-from_recursion (λ b. b < 256) (codes "two") (omega arith, (omega arith, (omega arith, tt)))

f_bytes : IsBytes (codes "f")
f_bytes = All-from_recursion (λ b. b < 256) (codes "f") (omega arith, tt)

abbrev said_of : SymbolCall → Call
said_of call = record { symbol = call.symbol; numbers = map number_of call.args }

two_said : SaysCall (codes "two f") (said_of two_call)
two_said = record {
  module_word = codes "two";
  export_word = codes "f";
  number_words = [];
  words_are = refl;
  symbol = record {
    module_name = codes "two";
    export_name = codes "f";
    module_bytes = two_bytes;
    export_bytes = f_bytes;
    module_is_there = omega arith;
    module_is = refl;
    export_is = refl;
    symbol_is = refl;
  };
  numbers = refl;
}

no_args : (args : List Value) → map number_of args ≡ [] → args ≡ []
no_args [] none = refl
no_args (v ∷ args) none = cc

call_is : (units : List (List tree.Item)) (call : SymbolCall) → Names units (codes "two f") call → call ≡ two_call
call_is units call names =
    let same : said_of call ≡ said_of two_call = one_call (codes "two f") (said_of call) (said_of two_call) names.said two_said in
    let args = no_args call.args (ap (λ (said : Call). said.numbers) same) in
    λ i. record { symbol = (same i).symbol; args = args i }

calls_are : (units : List (List tree.Item)) (calls : List SymbolCall)
    → AreEach (NamesFrom units) (record { number = 1; text = codes "two f" } ∷ []) calls → calls ≡ two_call ∷ []
calls_are units [] are = absurd are
calls_are units (call ∷ []) (names, others) = ap (λ (c : SymbolCall). c ∷ []) (call_is units call names)
calls_are units (call ∷ other ∷ calls) (names, others) = absurd others

-- ---- the run

abbrev ended : CRun
ended = record {
  phase = InCall 0;
  events = CallEnded (Some (I32 42)) ∷ [];
  units = record { vars = []; memories = []; tables = [] } ∷ [];
  outcome = Ended;
}

run_is : (hosts : List Host) (replies : List Reply)
    → c_run (record { units = two_unit ∷ []; hosts = hosts }) (two_call ∷ []) 100 replies ≡ ended
run_is hosts replies = refl

line_is : (hosts : List Host) → lines_of hosts false ended ≡ codes "call 1 = i32:42\n"
unfolding digits
line_is hosts = refl

-- ---- what a call comes to

module _ {H : Type 0} (m : HostModule H) (hosts : List H) (contents : Contents)
    (unit_there : get contents (codes "two.c") ≡ Some two_c)
    (calls_there : get contents (codes "examples/sum.calls") ≡ Some two_calls) where
  two_reading : IsReading contents two_line.units two_line.calls (AllRead (two_c ∷ []) two_calls)
  two_reading = record {
    units_are = record {
      held = (unit_there, tt);
      fit = (leb-true (length two_c) most_unit_bytes refl, tt);
      together = leb-true (length two_c + 0) most_units_bytes refl;
    };
    calls_are = calls_there;
    calls_fit = leb-true (length two_calls) most_calls_bytes refl;
  }

  by_reading : (job : Job) → IsRunJob two_line (hosts_of m hosts) contents job
      → IsTextsJob two_line (symbols_of (hosts_of m hosts)) (two_c ∷ []) two_calls job
  by_reading job (reading, is, behind) = subst (λ (r : Reading). IsJobBehind two_line (hosts_of m hosts) contents r job)
      (one_reading contents two_line.units two_line.calls reading (AllRead (two_c ∷ []) two_calls) is two_reading) behind

  by_texts : (job : Job) → IsJob two_words (hosts_of m hosts) contents job
      → IsTextsJob two_line (symbols_of (hosts_of m hosts)) (two_c ∷ []) two_calls job
  by_texts job is = by_reading job (subst (λ (line : Option Line). MatchOption line (job ≡ Stops Usage)
      (λ l. IsLineJob (hosts_of m hosts) contents l job)) two_line_is is)

  -- what the stream and the files are after it
  abbrev IsPrinted : Outside → Outside → ℕ → Type 0
  IsPrinted old new status = (status ≡ 0) × (new.out.told ≡ extended old.out.told (codes "call 1 = i32:42\n"))
      × (new.files.told ≡ old.files.told)

  printed : (old new : Outside) (status : ℕ) → HasPlayed m hosts two_line (two_unit ∷ []) (two_call ∷ []) old new status
      → IsPrinted old new status
  printed old new status played =
      let run = run_is (hosts_of m hosts) (replies_in played.run.asks) in (
        subst (λ (r : CRun). HasStatus r.outcome status) run played.run.has_status,
        played.run.lines ∙ ap (λ (r : CRun). extended old.out.told (lines_of (hosts_of m hosts) false r)) run
            ∙ ap (extended old.out.told) (line_is (hosts_of m hosts)),
        played.written,
      )

  -- a run of this line, these units and these calls
  abbrev Of : Outside → Outside → ℕ → RunLine → List (List tree.Item) → List SymbolCall → Type 0
  Of old new status line units calls = WithHosts m hosts line.replayed contents (λ G n gs. HasPlayed n gs line units calls old new status)

  by_run : (old new : Outside) (status : ℕ) → Ran m hosts two_words contents old new status → IsPrinted old new status
  by_run old new status (line, units, calls, is_line, job, played) =
      let texts = by_texts (Run units calls line.steps line.shows_state) job in
      let line_same = same_line line two_line (sym is_line ∙ two_line_is) in
      let units_same = units_are units texts.0.0 in
      let calls_same = calls_are units calls texts.1 in
      printed old new status (subst (λ (l : RunLine). Of old new status l (two_unit ∷ []) (two_call ∷ [])) line_same
      (subst (λ (us : List (List tree.Item)). Of old new status line us (two_call ∷ [])) units_same (rw calls_same at played)))

  pub two_finished : (old new : Outside) (status : ℕ) → Finished m hosts two_words contents old new status → IsPrinted old new status
  two_finished old new status (inl ran) = by_run old new status ran
  two_finished old new status (inr (is, wrote)) = absurd (by_texts (Write wrote.output wrote.unit) wrote.job)
