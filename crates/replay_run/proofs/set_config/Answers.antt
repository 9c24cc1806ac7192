-- `set_config`: `prints_none` turns the log that is left into the printed text; `room` is what `push_outcome` needs.
use Rattle.clock_setting.specs.SetConfig.{set_config}
use Rattle.clock_setting.proofs.Accesses.{every_access_legal}
use Rattle.replay_calls.proofs.Prints.{room, prints_none}
use mathlib.Core.List.{[]}
use Rattle.std.specs.Prelude.{None}
use native.Mathlib.Omega.{arith}
use Rattle.replay_run.proofs.set_config.Goals as goal

pub push_outcome-requires : goal.push_outcome-requires
push_outcome-requires c = let l = c.set_config-ran in
    room l.ensures c.requires.log l.auto.log None c.args.work.now.text (omega arith) c.requires.text

pub returns-clause-ran : goal.returns-clause-ran
returns-clause-ran c = let a = c.args in
    let l = c.set_config-ran in
    prints_none (set_config a.frequency a.clk) (every_access_legal a.frequency a.clk) a.work.now.log.now a.readings.now [] tt
    c.requires.log l.ensures l.auto.log c.push_outcome.ensures
