-- `ahead_from`: where the burst leads to a point, the polls go on from there (`then_polls`).
use Rattle.transfer_fast.proofs.Coming.{then_polls}
use Rattle.transfer_fast.proofs.ahead_from.Goals as goal

pub returns-in-Some : goal.returns-in-Some
returns-in-Some c = then_polls c.in-Some.ensures c.polls.ensures
