-- How the code's frames of a fixed length stand for frames. Contracts of inner functions cite this.
use Rattle.std.specs.Prelude.{Option, Some, None, []}
use Rattle.replay_frames.specs.Frame.{Frame, opens, read, reading, run, bad}
use Rattle.replay_frames.specs.declared.Short.{Short}

abbrev pub as_frame : Option Short → Frame
as_frame (Some (Short.Opens c)) = opens c []
as_frame (Some (Short.Read n)) = read n
as_frame (Some (Short.Reading w)) = reading w
as_frame (Some Short.Run) = run
as_frame None = bad
