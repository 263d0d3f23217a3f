-- What hosts were asked and replied, as the events of a run tell it.
use Rattle.std.specs.Prelude.{List, map, Some}
use Rattle.w2c_base.specs.Run.{Ask, Event, Reply}
use Rattle.w2c_base.specs.Run as run
use Rattle.c_thread.specs.declared.linked.HostCall.{HostCall}
use Rattle.c_meaning.specs.declared.reply.HostReply.{HostReply}
pub use Rattle.c_meaning.specs.Views.{reply_of}
use Rattle.c_hosts.specs.declared.journal.Asked.{Asked}

-- a call that was answered so
abbrev pub asked : HostCall → HostReply → Asked
asked call r = record { host = call.host; function = call.function; args = call.args.items; reply = r }

-- the same with this reply
abbrev pub with_reply : HostReply → Asked → Asked
with_reply r a = record { host = a.host; function = a.function; args = a.args; reply = r }

abbrev pub ask_of : Asked → Ask
ask_of a = record { host = a.host; function = a.function; args = a.args }

abbrev pub reply_in : Asked → Reply
reply_in a = reply_of a.reply

abbrev pub event_in : Asked → Event
event_in a = run.Asked (ask_of a) (Some (reply_in a))

-- the replies of a journal, and what it tells
abbrev pub replies_in : List Asked → List Reply
replies_in asks = map reply_in asks

abbrev pub events_in : List Asked → List Event
events_in asks = map event_in asks
