-- `is_listed`: `sums_are` (proofs/Sums.antt) turns the sums into the totals of the definitions.
use Rattle.std.proofs.Common.{◌&&◌, zero-add}
use lib.Dec.{eqb}
use borrow.Author.Tests.{eq-eqb, le-leb}
use Rattle.regs.proofs.Tests.{by_test}
use Rattle.master.specs.Operations.{known, total, fits, WRITE, READ}
use Rattle.std.proofs.Math.Bool.{and_assoc}
use Rattle.i2c.proofs.Sums.{sums_are}
use Rattle.i2c.proofs.limits.is_listed.Goals as goal

pub returns-then-kinds-le-MOST_OPERATIONS : goal.returns-then-kinds-le-MOST_OPERATIONS
returns-then-kinds-le-MOST_OPERATIONS c =
    let kinds = c.args.operations.now.kinds.now in
    let lengths = c.args.operations.now.lengths.now in
    let same = c.if-kinds-operations.true in
    rw (
      c.eq.ensures,
      c.add_all.ensures,
      sums_are kinds lengths _ same,
      c.are_fitting.ensures,
      eq-eqb _ _ same,
      le-leb _ _ c.if-kinds-le-MOST_OPERATIONS.true,
    )
    (by_test (known kinds) (λ q. rw (q, zero-add (total WRITE kinds lengths), zero-add (total READ kinds lengths))
    (and_assoc (eqb (total WRITE kinds lengths) c.args.written) (eqb (total READ kinds lengths) c.args.room)
    (fits c.args.written && fits c.args.room))) (λ q. rw q))
