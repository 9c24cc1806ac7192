-- Each of the five calls by steps is that call. It rests on the agreement of the machine with each (`Agrees`, `Resets`).
use lib.ListN.{length}
use Rattle.regs.proofs.Stepped.{stepped_as}
use Rattle.slave.specs.Calls.{resets, listens, responds, fills, responds_and_fills, program}
use Rattle.slave_steps.specs.Steps.{start, SteppedCalls}
use Rattle.slave_steps.specs.Inner.Machine.{machine}
use Rattle.slave_steps.proofs.Resets.{reset_agrees}
use Rattle.slave_steps.proofs.Agrees.{listen_agrees, respond_agrees, respond_till_stop_agrees, respond_and_fill_agrees}

pub stepped_calls : SteppedCalls
stepped_calls (resets address general_call) any =
    let c = resets address general_call in
    stepped_as (machine any) (program c) (start c) (reset_agrees any address general_call)
stepped_calls (listens buffer) any =
    let c = listens buffer in
    stepped_as (machine any) (program c) (start c) (listen_agrees any (length buffer))
stepped_calls (responds bytes) any =
    let c = responds bytes in
    stepped_as (machine bytes) (program c) (start c) (respond_agrees bytes)
stepped_calls (fills fill) any =
    let c = fills fill in
    stepped_as (machine any) (program c) (start c) (respond_till_stop_agrees any fill)
stepped_calls (responds_and_fills bytes fill) any =
    let c = responds_and_fills bytes fill in
    stepped_as (machine bytes) (program c) (start c) (respond_and_fill_agrees bytes fill)
