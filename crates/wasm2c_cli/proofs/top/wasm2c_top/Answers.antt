use Rattle.wasm2c_cli.proofs.Common.{refl, inl, passed_so, Says, texts, line_for, PassesWork, TriesWork}
use Rattle.wasm2c_cli.proofs.TopLaws.{are_linked, finish_complete, finish_done, finish_no_stop, finish_part, finish_silent, finish_stands}
use Rattle.wasm2c_cli.proofs.TopLaws.{finish_summary, finish_units, stop_complete, stop_current, stop_not, stop_refused}
use Rattle.wasm2c_cli.proofs.TopLaws.{stop_stands, stop_unread, stop_untouched, stop_unwritten}
use Rattle.wasm2c_cli.proofs.PassingTop.{finish_passes, puts_linked, stop_passes}
use Rattle.wasm2c_cli.proofs.top.wasm2c_top.Goals as goal

-- ---- work that was finished

pub returns-in-Ok-clause-complete : goal.returns-in-Ok-clause-complete
returns-in-Ok-clause-complete g c = finish_complete _ _ _ c.in-Ok.finished c.in-Ok.ensures.done _ c.summarize.ensures.status

pub returns-in-Ok-clause-done : goal.returns-in-Ok-clause-done
returns-in-Ok-clause-done g c = λ zero. finish_done _ _ _ c.in-Ok.finished c.in-Ok.ensures.done

pub returns-in-Ok-clause-units : goal.returns-in-Ok-clause-units
returns-in-Ok-clause-units g c = λ zero. finish_units c.texts_spell_units.ensures.unit _ _ _ c.in-Ok.finished c.in-Ok.ensures.done

pub returns-in-Ok-clause-linked : goal.returns-in-Ok-clause-linked
returns-in-Ok-clause-linked g c =
    λ zero names. are_linked c.linked_units_do_what_modules_do.ensures _ _ _
    (finish_units c.texts_spell_units.ensures.unit _ _ _ c.in-Ok.finished c.in-Ok.ensures.done names)

pub returns-in-Ok-clause-summary : goal.returns-in-Ok-clause-summary
returns-in-Ok-clause-summary g c =
    λ zero. finish_summary _ _ _ c.in-Ok.finished c.in-Ok.ensures.done _ _ _ _ (c.summarize.ensures.says zero)

pub returns-in-Ok-clause-silent : goal.returns-in-Ok-clause-silent
returns-in-Ok-clause-silent g c = λ zero. finish_silent _ _ _ c.in-Ok.finished c.in-Ok.ensures.done _ _ _ _ (c.summarize.ensures.says zero)

pub returns-in-Ok-clause-untouched : goal.returns-in-Ok-clause-untouched
returns-in-Ok-clause-untouched g c = finish_no_stop c.summarize.result c.summarize.ensures.status

pub returns-in-Ok-clause-current : goal.returns-in-Ok-clause-current
returns-in-Ok-clause-current g c = finish_no_stop c.summarize.result c.summarize.ensures.status

pub returns-in-Ok-clause-unfailed : goal.returns-in-Ok-clause-unfailed
returns-in-Ok-clause-unfailed g c = λ zero. (c.in-Ok.ensures.reads_kept, c.in-Ok.ensures.writes_kept)

pub returns-in-Ok-clause-stands : goal.returns-in-Ok-clause-stands
returns-in-Ok-clause-stands g c = λ five. finish_stands _ _ _ c.in-Ok.finished c.in-Ok.ensures.done

pub returns-in-Ok-clause-part : goal.returns-in-Ok-clause-part
returns-in-Ok-clause-part g c = λ five. finish_part c.in-Ok.finished _ _ c.summarize.ensures.part

-- ---- work that stopped

pub returns-in-Err-clause-complete : goal.returns-in-Err-clause-complete
returns-in-Err-clause-complete g c = stop_complete _ _ _ _ _ _ _ _ _ c.in-Err.stop c.in-Err.ensures.stop c.report.ensures.status

pub returns-in-Err-clause-refused : goal.returns-in-Err-clause-refused
returns-in-Err-clause-refused g c =
    stop_refused _ _ _ _ _ _ _ _ _ (Says _ _ _ _) c.in-Err.stop c.in-Err.ensures.stop c.report.ensures.status c.report.ensures.says

pub returns-in-Err-clause-read_fault : goal.returns-in-Err-clause-read_fault
returns-in-Err-clause-read_fault g c =
    stop_unread _ _ _ _ _ _ _ _ _ (Says _ _ _ _) c.in-Err.stop c.in-Err.ensures.stop c.report.ensures.status c.report.ensures.says

pub returns-in-Err-clause-write_fault : goal.returns-in-Err-clause-write_fault
returns-in-Err-clause-write_fault g c =
    stop_unwritten _ _ _ _ _ _ _ _ _ (Says _ _ _ _) c.in-Err.stop c.in-Err.ensures.stop c.report.ensures.status c.report.ensures.says

pub returns-in-Err-clause-done : goal.returns-in-Err-clause-done
returns-in-Err-clause-done g c = stop_not c.report.result c.in-Err.stop c.report.ensures.status

pub returns-in-Err-clause-units : goal.returns-in-Err-clause-units
returns-in-Err-clause-units g c = stop_not c.report.result c.in-Err.stop c.report.ensures.status

pub returns-in-Err-clause-linked : goal.returns-in-Err-clause-linked
returns-in-Err-clause-linked g c = stop_not c.report.result c.in-Err.stop c.report.ensures.status

pub returns-in-Err-clause-summary : goal.returns-in-Err-clause-summary
returns-in-Err-clause-summary g c = stop_not c.report.result c.in-Err.stop c.report.ensures.status

pub returns-in-Err-clause-silent : goal.returns-in-Err-clause-silent
returns-in-Err-clause-silent g c = stop_not c.report.result c.in-Err.stop c.report.ensures.status

pub returns-in-Err-clause-unfailed : goal.returns-in-Err-clause-unfailed
returns-in-Err-clause-unfailed g c = stop_not c.report.result c.in-Err.stop c.report.ensures.status

pub returns-in-Err-clause-untouched : goal.returns-in-Err-clause-untouched
returns-in-Err-clause-untouched g c =
    stop_untouched _ _ _ _ _ _ _ _ _ (λ line. Unit {0}) c.in-Err.stop c.in-Err.ensures.stop c.report.ensures.status (λ is. inl tt)

pub returns-in-Err-clause-current : goal.returns-in-Err-clause-current
returns-in-Err-clause-current g c = stop_current _ _ _ c.in-Err.stop c.in-Err.ensures.current c.report.ensures.status

pub returns-in-Err-clause-stands : goal.returns-in-Err-clause-stands
returns-in-Err-clause-stands g c = λ five. stop_stands _ _ _ _ _ _ _ _ 5 c.in-Err.stop c.in-Err.ensures.stop

pub returns-in-Err-clause-part : goal.returns-in-Err-clause-part
returns-in-Err-clause-part g c = λ five. (line_for c.in-Err.stop, inl (c.in-Err.stop, refl), c.report.ensures.part)

-- ---- what passed through the files

pub returns-in-Ok-clause-passed : goal.returns-in-Ok-clause-passed
returns-in-Ok-clause-passed g c = passed_so _ _ (PassesWork (texts c.args.words.now)) _
    (λ events whole. finish_passes _ _ (Says _ _ _ _) events whole c.summarize.ensures.status) c.in-Ok.ensures.passed

pub returns-in-Err-clause-passed : goal.returns-in-Err-clause-passed
returns-in-Err-clause-passed g c = passed_so _ _ (TriesWork (texts c.args.words.now) c.in-Err.stop) _
    (λ events tried. stop_passes _ _ (Says _ _ _ _) events c.in-Err.stop tried c.report.ensures.status c.report.ensures.says)
    c.in-Err.ensures.tried

pub returns-in-Ok-clause-linked_put : goal.returns-in-Ok-clause-linked_put
returns-in-Ok-clause-linked_put g c = λ zero names. passed_so _ _ (PassesWork (texts c.args.words.now)) _ (λ events whole.
    puts_linked c.linked_units_do_what_modules_do.ensures c.texts_spell_units.ensures.unit _ events whole names) c.in-Ok.ensures.passed

pub returns-in-Err-clause-linked_put : goal.returns-in-Err-clause-linked_put
returns-in-Err-clause-linked_put g c = stop_not c.report.result c.in-Err.stop c.report.ensures.status
