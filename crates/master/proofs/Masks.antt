-- What the async waits unmask between two polls, as terms with names: a lemma over `wait_on` is told which wait it is of.
use Prim.Native.Nat.{ℕ, ◌-◌}
use Rattle.regs.specs.Registers.{INTR_MASK, RX_TL, TX_TL}
use Rattle.regs.specs.Fields.{set_m_rx_full, set_m_tx_empty, set_m_tx_abrt, set_m_stop_det}
use Rattle.regs.specs.Program.{◌>>◌, put, modify}
use Rattle.master.specs.Driver.{Driver}

-- for the bytes of a batch
abbrev pub batch_masks : ℕ → Driver (Unit {0})
batch_masks batch = do
  put RX_TL (batch - 1)
  modify INTR_MASK (λ w. set_m_tx_abrt (set_m_rx_full w))

-- for a free place
abbrev pub space_masks : Driver (Unit {0})
space_masks = do
  put TX_TL 1
  modify INTR_MASK (λ w. set_m_tx_abrt (set_m_tx_empty w))

-- for STOP
abbrev pub stop_masks : Driver (Unit {0})
stop_masks = modify INTR_MASK (λ w. set_m_tx_abrt (set_m_stop_det w))
