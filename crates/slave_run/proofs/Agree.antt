-- A run of the machine from where a request starts it leaves what the program of the request's call leaves.
use Prim.Native.Nat.{ℕ, ◌/◌}
use mathlib.Core.List.{List}
use mathlib.Core.Path.{◌≡◌}
use lib.ListN.{length}
use Rattle.regs.specs.Log.{LeavesAll}
use Rattle.regs.specs.Inner.Machine.{final, ran}
use Rattle.regs.specs.declared.access.Ran.{Ran}
use Rattle.regs.proofs.Refine.{leaves_all}
use Rattle.slave.specs.Calls.{program}
use Rattle.slave.specs.declared.SlaveState.{SlaveState}
use Rattle.slave_steps.specs.Inner.Machine.{machine}
use Rattle.slave_steps.proofs.Resets.{reset_agrees}
use Rattle.slave_steps.proofs.Agrees.{listen_agrees, respond_agrees, respond_till_stop_agrees, respond_and_fill_agrees}
use Rattle.slave_run.specs.Requests.{call_of, left_by}
use Rattle.slave_run.specs.Inner.Starts.{started}
use Rattle.slave_run.specs.declared.Request.{Request}
use Rattle.slave_run.specs.declared.Request.TheVariants.{Reset, Listen, RespondToRead, RespondTillStop, RespondAndFill}

module _ (bytes buffer readings log : List ℕ) (me : SlaveState) {after b : List ℕ} {z : SlaveState} (r : Ran) where
  pub request_leaves : (q : Request)
      → final r.reply r.entries r.used after b z
      ≡ ran (machine bytes) readings (length log / 2) (started me q (length bytes) (length buffer)) 0 0 log buffer
      → LeavesAll (left_by q bytes buffer log readings me) log after b r z
  request_leaves (Reset address g) = leaves_all (machine bytes) (started me (Reset address g) (length bytes) (length buffer))
      (program (call_of (Reset address g) bytes buffer)) readings log _ buffer _ _ r (reset_agrees bytes address g me buffer)
  request_leaves Listen = leaves_all (machine bytes) (started me Listen (length bytes) (length buffer))
      (program (call_of Listen bytes buffer)) readings log _ buffer _ _ r (listen_agrees bytes (length buffer) me buffer)
  request_leaves RespondToRead = leaves_all (machine bytes) (started me RespondToRead (length bytes) (length buffer))
      (program (call_of RespondToRead bytes buffer)) readings log _ buffer _ _ r (respond_agrees bytes me buffer)
  request_leaves (RespondTillStop fill) = leaves_all (machine bytes) (started me (RespondTillStop fill) (length bytes) (length buffer))
      (program (call_of (RespondTillStop fill) bytes buffer)) readings log _ buffer _ _ r (respond_till_stop_agrees bytes fill me buffer)
  request_leaves (RespondAndFill fill) = leaves_all (machine bytes) (started me (RespondAndFill fill) (length bytes) (length buffer))
      (program (call_of (RespondAndFill fill) bytes buffer)) readings log _ buffer _ _ r (respond_and_fill_agrees bytes fill me buffer)
