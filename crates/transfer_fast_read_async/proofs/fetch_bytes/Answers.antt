-- `fetch_bytes`: `one_fetched` (proofs/Fetching.antt) adds a byte to those fetched, and `all_fetched` ends it.
use Rattle.std.proofs.Common.{arith, refl, ℕ, ◌≡◌, ◌+◌, ◌-◌}
use Rattle.transfer.specs.Inner.Machine.{sum_of}
use Rattle.transfer_fast_read_async.proofs.Fetching.{one_fetched, all_fetched}
use Rattle.transfer_fast_read_async.proofs.fetch_bytes.Goals as goal

pub loop-n-preserved : goal.loop-n-preserved
loop-n-preserved c =
    let need = c.requires in
    let o = c.args.t.operation in
    let i : ℕ = o.len - c.args.remaining - c.args.count in
    let n : ℕ = c.loop-n.n in
    let place : sum_of o.at (i + n) ≡ o.at + i + n = omega (arith, need.1, need.2, need.3, c.loop-n-test.true) in
    one_fetched c.loop-n.invariant c.loop-n-test.true need.1 need.2 need.4 need.5 (omega arith)
    c.read.ensures (rw (place, ← c.byte_of-byte.ensures, c.from.ensures, c.from-in-loop-n.ensures) refl)

pub returns : goal.returns
returns c = all_fetched c.loop-n.invariant (omega (arith, c.loop-n-test.false, c.loop-n.auto.n-end))
