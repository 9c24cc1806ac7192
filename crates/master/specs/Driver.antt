-- src/i2c.rs: what blocking and async transfers share. The functions stand in the Rust's names.
use Rattle.std.specs.Prelude.{ℕ, ◌-◌, Bool, true, false, not, eqb, ltb, if◌then◌else◌}
use Rattle.regs.specs.declared.answers.AbortReason.{AbortReason}
use Rattle.regs.specs.declared.answers.AbortReason.TheVariants.{NoAcknowledge, ArbitrationLoss, Other, DataNotAcknowledged}
use Rattle.regs.specs.declared.answers.Refusal.TheVariants.{AddressOutOfRange, Abort, TxLevelOutOfRange}
use Rattle.regs.specs.declared.answers.Answer.{Answer}
use Rattle.regs.specs.declared.answers.Answer.TheVariants.{Refused}
use Rattle.regs.specs.Registers.{TAR, ENABLE, TXFLR, RXFLR, TX_ABRT_SOURCE, CLR_TX_ABRT}
use Rattle.regs.specs.Fields.{address_field, level, no_acknowledge, txdata_noack, arb_lost}
use Rattle.regs.specs.Program.{Program, ◌>>=◌, ◌>>◌, return, exit, get, put, when, loop, Turn, again, done, Result, ok, err}

-- a part of the master driver, which has no state of its own
abbrev pub Driver : Type 0 → Type 0
Driver B = Program (Unit {0}) Answer B

-- `Result<B, Error>`, where the Rust looks at it: the errors that it then holds are aborts
abbrev pub Tried : Type 0 → Type 0
Tried B = Result B AbortReason

abbrev pub is_err : {B : Type 0} → Tried B → Bool
is_err (ok b) = false
is_err (err reason) = true

-- `r?`
abbrev pub try : {B : Type 0} → Tried B → Driver B
try (ok b) = return b
try (err reason) = exit (Refused (Abort reason))

-- `while test {body}`, where the test makes an access: a turn, and the loop
abbrev pub while_turn : Driver (Unit {0}) → Bool → Driver (Turn (Unit {0}) (Unit {0}))
while_turn body true = do
  body
  return (again tt)
while_turn body false = return (done tt)

abbrev pub while_test : Driver Bool → Driver (Unit {0}) → Driver (Unit {0})
while_test test body = loop tt (λ _. test >>= while_turn body)

-- fn setup. The controller takes a new TAR only while it is disabled.
unfoldable pub setup : ℕ → Driver (Unit {0})
setup addr = do
  when (not (ltb addr 0x80)) (exit (Refused (AddressOutOfRange addr)))
  put ENABLE 0
  put TAR (address_field addr)
  put ENABLE 1

abbrev pub FIFO_SIZE : ℕ
FIFO_SIZE = 16

-- fn tx_fifo_capacity. A level above the FIFO's size, where the Rust's difference would wrap, is refused (number 12).
unfoldable pub tx_fifo_capacity : Driver ℕ
tx_fifo_capacity = do
  txflr ← get TXFLR
  when (ltb FIFO_SIZE (level txflr)) (exit (Refused (TxLevelOutOfRange (level txflr))))
  return (FIFO_SIZE - level txflr)

-- fn tx_fifo_full. A word written to a full transmit FIFO would be lost, so a place is waited for first.
unfoldable pub tx_fifo_full : Driver Bool
tx_fifo_full = do
  capacity ← tx_fifo_capacity
  return (eqb capacity 0)

-- fn rx_fifo_len
unfoldable pub rx_fifo_len : Driver ℕ
rx_fifo_len = do
  rxflr ← get RXFLR
  return (level rxflr)

-- The reason that is told of an abort's raw word. The transfers are the Rust's text over any such reasons. The Rust's and
-- this driver's follow; `beside_rust` (crate master_reasons) says where calls with them differ.
abbrev pub Reasons : Type 0
Reasons = ℕ → AbortReason

-- the Rust's: bits 0 to 2, then bit 12. Bit 3, a data byte not acknowledged, decides nothing.
abbrev pub rust_reason : Reasons
rust_reason abort_reason =
    if no_acknowledge abort_reason then NoAcknowledge
    else (if arb_lost abort_reason then ArbitrationLoss else Other abort_reason)

-- this driver's: bit 3, a data byte not acknowledged, is a reason of its own after bits 0 to 2 and before bit 12
abbrev pub reason_of : Reasons
reason_of word =
    if no_acknowledge word then NoAcknowledge
    else (if txdata_noack word then DataNotAcknowledged word
    else (if arb_lost word then ArbitrationLoss else Other word))

-- fn read_and_clear_abort_reason. CLR_TX_ABRT clears on read: reading it clears the flag and the
-- source with it, so the source is read first. What CLR_TX_ABRT itself reads as means nothing.
-- Until it is read, the controller holds the transmit FIFO empty, and later words would be lost.
unfoldable pub read_and_clear_abort_reason : Reasons → Driver (Tried (Unit {0}))
read_and_clear_abort_reason reason = do
  abort_reason ← get TX_ABRT_SOURCE
  if not (eqb abort_reason 0)
      then (do
        get CLR_TX_ABRT
        return (err (reason abort_reason)))
      else return (ok tt)
