-- `listen_from`: `await_ahead` of proofs/Coming.antt makes the polls that found nothing a run of the slave.
use Rattle.slave_fast.proofs.Coming.{await_ahead}
use Rattle.slave_fast.proofs.listen_from.Goals as goal

pub returns-in-RawIntrStat : goal.returns-in-RawIntrStat
returns-in-RawIntrStat c = λ bytes. await_ahead (rw c.in-RawIntrStat.is at c.requires.at) c.requires.none c.if-index-s.true
    c.listen.ensures bytes c.args.buffer.now
