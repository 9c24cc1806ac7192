-- `push_abort`: the flags of the table, which is `aborts_flags`, and then the causes.
use Rattle.std.proofs.Common.{arith, ap, length}
use Rattle.explain_frames.specs.Tables.{aborts_flags}
use Rattle.explain_frames.proofs.aborts.Names.push_abort.Goals as goal

pub push_flags-requires-clause-in_table : goal.push_flags-requires-clause-in_table
unfolding aborts_flags
push_flags-requires-clause-in_table c = omega (arith, ap length c.args.self.now.of_causes, c.requires.few)
