-- Where the machine starts for each request. Only contracts of inner functions cite this.
use Rattle.std.specs.Prelude.{ℕ}
use Rattle.slave.specs.declared.SlaveState.{SlaveState}
use Rattle.slave_respond.specs.declared.Job.TheVariants.{Respond, RespondThenFill}
use Rattle.slave_steps.specs.Inner.Machine.{start_reset, start_listen, start_respond, start_fill}
use Rattle.slave_steps.specs.declared.Slave.{Slave}
use Rattle.slave_run.specs.declared.Request.{Request}
use Rattle.slave_run.specs.declared.Request.TheVariants.{Reset, Listen, RespondToRead, RespondTillStop, RespondAndFill}

-- with so many bytes to send, and a buffer so long
abbrev pub started : SlaveState → Request → (bytes buffer : ℕ) → Slave
started me (Reset address general_call) bytes buffer = start_reset me address general_call
started me Listen bytes buffer = start_listen me buffer
started me RespondToRead bytes buffer = start_respond me Respond bytes
started me (RespondTillStop fill) bytes buffer = start_fill me fill
started me (RespondAndFill fill) bytes buffer = start_respond me (RespondThenFill fill) bytes
