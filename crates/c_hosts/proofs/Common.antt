-- What proofs of this crate cite of std, of the crates below and of specs/, passed on from one place. Declares nothing.
pub use Rattle.std.proofs.Common.{◌≡◌, ℕ, ◌+◌, ◌-◌, ◌<◌, ◌≤◌, Bool, true, false, List, [], ◌∷◌, ◌++◌, map, length, get_or, is_some, IfSome}
pub use Rattle.std.proofs.Common.{if◌then◌else◌, slice_get, slice_index_or, slice_set, Some, None, Option, option_map}
pub use Rattle.std.proofs.Common.{bytes_eq, unwrap_or, sym, refl, ap, ◌∙◌, subst, append_assoc, append-nil, arith, length-append}
pub use Rattle.std.proofs.Math.Seq.{get_or-append_seam, map-set_same, set-append_seam}
pub use Rattle.std.proofs.lemmas.Option.{slice_get-map, unwrap_or-slice_get}
pub use Rattle.w2c_base.specs.Lookup.{if_found, named, with_named}
pub use Rattle.w2c_base.specs.Run.{Event, Gave, Reply}
pub use Rattle.w2c_base.specs.Values.{equal_types, is_result, types_of}
pub use Rattle.w2c_base.specs.declared.signature.FuncType.{FuncType}
pub use Rattle.w2c_base.specs.declared.value.Value.{Value}
pub use Rattle.c_meaning.specs.Linking.{Program, host_type}
pub use Rattle.c_meaning.specs.State.{State, Stuck}
pub use Rattle.c_meaning.specs.Step.{Step, Stops, assign, assign_depth, c_step, depth_name, give, in_unit, next, put_in, replied, with_vars}
pub use Rattle.c_objects.specs.Stores.{AreStored}
pub use Rattle.c_objects.specs.Views.{Naming}
pub use Rattle.c_thread.specs.Linked.{below_in, host_asked, machine_in, state_in, step_in, waiting_in}
pub use Rattle.c_thread.specs.declared.linked.HostCall.{HostCall}
pub use Rattle.c_thread.specs.declared.linked.LinkedThread.{LinkedThread}
pub use Rattle.c_hosts.specs.Asking.{Answered, Answers, IsOffered, function_of, host_of, hosts_of, offered}
pub use Rattle.c_hosts.specs.Journals.{ask_of, asked, event_in, events_in, replies_in, reply_in, with_reply}
pub use Rattle.c_hosts.specs.Running.{Asks, IsThread, Runs, RunsPart, settled_in, step_at, trail_before, trail_behind}
pub use Rattle.c_hosts.specs.declared.host.HostFunction.{HostFunction}
pub use Rattle.c_hosts.specs.declared.host.HostModule.{Ghosts as HostModule}
pub use Rattle.c_hosts.specs.declared.journal.Asked.{Asked}
