-- src/i2c.rs: the eight public transfers, and the calls, which refuse what is over the limits before all else.
use Rattle.std.specs.Prelude.{ℕ, ◌+◌, Bool, true, false, not, ◌&&◌, List, [], ◌∷◌, length}
use Rattle.regs.specs.declared.answers.Refusal.TheVariants.{OverLimits}
use Rattle.regs.specs.declared.answers.Answer.{Answer}
use Rattle.regs.specs.declared.answers.Answer.TheVariants.{Accepted, Refused}
use Rattle.regs.specs.Program.{◌>>◌, return, exit, skip, when}
use Rattle.master.specs.Driver.{Driver, Reasons, reason_of, setup}
use Rattle.master.specs.Blocking.{read_blocking_internal, write_blocking_internal}
use Rattle.master.specs.Async.{is_empty, read_async_internal, write_async_internal}
use Rattle.master.specs.Operations.{Operation, writes, reads, Transfer, read, write, write_read, transaction}
use Rattle.master.specs.Operations.{Mode, blocking, async, fits, lists, listed}

-- `_blocking_internal`, `_async_internal`
abbrev pub read_internal : Reasons → Mode → ℕ → ℕ → Bool → Bool → Driver (Unit {0})
read_internal reason blocking offset len restart send_stop = read_blocking_internal reason offset len restart send_stop
read_internal reason async offset len restart send_stop = read_async_internal reason offset len restart send_stop

abbrev pub write_internal : Reasons → Mode → List ℕ → Bool → Driver (Unit {0})
write_internal reason blocking bytes send_stop = write_blocking_internal reason bytes send_stop
write_internal reason async bytes send_stop = write_async_internal reason bytes send_stop

-- ---- the blocking transfers

unfoldable pub blocking_read : Reasons → ℕ → ℕ → Driver Answer
blocking_read reason address len = do
  setup address
  read_blocking_internal reason 0 len true true
  return Accepted

unfoldable pub blocking_write : Reasons → ℕ → List ℕ → Driver Answer
blocking_write reason address bytes = do
  setup address
  write_blocking_internal reason bytes true
  return Accepted

unfoldable pub blocking_write_read : Reasons → ℕ → List ℕ → ℕ → Driver Answer
blocking_write_read reason address bytes len = do
  setup address
  write_blocking_internal reason bytes false
  read_blocking_internal reason 0 len true true
  return Accepted

-- a transaction's loop over its operations, `for i in 0..operations.len()` where it blocks,
-- `while let Some(op) = iterator.next()` where it does not: an operation is the last where
-- none is left after it, and a read starts in the lent buffer where the reads before it ended
unfoldable pub each_operation : Reasons → Mode → ℕ → List (Operation ℕ) → Driver (Unit {0})
each_operation reason mode offset [] = skip
each_operation reason mode offset (reads len ∷ operations) = do
  read_internal reason mode offset len false (is_empty operations)
  each_operation reason mode (offset + len) operations
each_operation reason mode offset (writes bytes ∷ operations) = do
  write_internal reason mode bytes (is_empty operations)
  each_operation reason mode offset operations

-- fn transaction of `embedded_hal_1::i2c::I2c`
unfoldable pub blocking_transaction : Reasons → ℕ → List (Operation ℕ) → Driver Answer
blocking_transaction reason address operations = do
  setup address
  each_operation reason blocking 0 operations
  return Accepted

-- ---- the async transfers

unfoldable pub read_async : Reasons → ℕ → ℕ → Driver Answer
read_async reason addr len = do
  setup addr
  read_async_internal reason 0 len true true
  return Accepted

unfoldable pub write_async : Reasons → ℕ → List ℕ → Driver Answer
write_async reason addr bytes = do
  setup addr
  write_async_internal reason bytes true
  return Accepted

unfoldable pub write_read_async : Reasons → ℕ → List ℕ → ℕ → Driver Answer
write_read_async reason addr bytes len = do
  setup addr
  write_async_internal reason bytes false
  read_async_internal reason 0 len true true
  return Accepted

-- fn transaction of `embedded_hal_async::i2c::I2c`
unfoldable pub transaction_async : Reasons → ℕ → List (Operation ℕ) → Driver Answer
transaction_async reason addr operations = do
  when (not (is_empty operations)) (setup addr)
  each_operation reason async 0 operations
  return Accepted

-- ---- the eight as one

abbrev pub transfer : Reasons → Mode → ℕ → Transfer ℕ → Driver Answer
transfer reason blocking address (read len) = blocking_read reason address len
transfer reason blocking address (write bytes) = blocking_write reason address bytes
transfer reason blocking address (write_read bytes len) = blocking_write_read reason address bytes len
transfer reason blocking address (transaction operations) = blocking_transaction reason address operations
transfer reason async address (read len) = read_async reason address len
transfer reason async address (write bytes) = write_async reason address bytes
transfer reason async address (write_read bytes len) = write_read_async reason address bytes len
transfer reason async address (transaction operations) = transaction_async reason address operations

-- ---- the calls: number 20 before all, then the transfer, with this driver's reasons

abbrev pub within : Bool → Driver Answer → Driver Answer
within limits p = do
  when (not limits) (exit (Refused OverLimits))
  p

abbrev pub read_call : Mode → ℕ → ℕ → Driver Answer
read_call mode address len = within (fits len) (transfer reason_of mode address (read len))

abbrev pub write_call : Mode → ℕ → List ℕ → Driver Answer
write_call mode address bytes = within (fits (length bytes)) (transfer reason_of mode address (write bytes))

abbrev pub write_read_call : Mode → ℕ → List ℕ → ℕ → Driver Answer
write_read_call mode address bytes len = within (fits (length bytes) && fits len) (transfer reason_of mode address (write_read bytes len))

-- operations by kinds and lengths, beside the bytes of the lent write buffer and the length of the lent read buffer
abbrev pub transaction_call : Mode → ℕ → List ℕ → List ℕ → List ℕ → ℕ → Driver Answer
transaction_call mode address kinds lengths bytes room =
    within (lists kinds lengths (length bytes) room) (transfer reason_of mode address (transaction (listed kinds lengths bytes)))
