-- `poll`: the entries so far are put, and the others are to come.
use Rattle.std.specs.Prelude.{drop}
use Rattle.regs_runs.proofs.Polling.{Polling}
use Rattle.regs_runs.proofs.poll.Given as goal

abbrev pub invariant-loop-entry : goal.invariant-loop-entry
invariant-loop-entry l =
    Polling l.initial.recording l.entries l.entry-index (drop l.entry-index l.entries) l.recording
