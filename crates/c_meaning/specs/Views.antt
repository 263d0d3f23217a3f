-- What the code keeps of a run, as the meaning of C has it.
use Rattle.w2c_base.specs.Run.{Reply, Gave, HostTrapped}
use Rattle.c_meaning.specs.declared.reply.HostReply.{HostReply}
use Rattle.c_meaning.specs.declared.reply.HostReply.TheVariants as reply
use Rattle.c_meaning.specs.declared.undefined.UndefinedAt.{UndefinedAt}
use Rattle.c_meaning.specs.State.{Place}

-- the place of what is undefined
abbrev pub place_of : UndefinedAt → Place
place_of at = record { unit = at.unit; item = at.item; statement = at.statement }

abbrev pub reply_of : HostReply → Reply
reply_of (reply.Value value) = Gave value
reply_of reply.Trap = HostTrapped
