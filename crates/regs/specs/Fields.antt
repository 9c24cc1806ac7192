-- The fields of the controller's words, in plain arithmetic (RP2040 datasheet, I2C chapter).
use Rattle.std.specs.Prelude.{ℕ, ◌+◌, ◌*◌, ◌/◌, ◌%◌, ◌^◌, Bool, true, false, not, eqb}

-- a flag as a number
abbrev pub b2n : Bool → ℕ
b2n true = 1
b2n false = 0

-- bit k of w
abbrev pub bit : ℕ → ℕ → Bool
bit k w = eqb (w / 2 ^ k % 2) 1

-- w with x in its n bits from bit k on, what a field's setter does in `modify`
unfoldable pub set_field : ℕ → ℕ → ℕ → ℕ → ℕ
set_field k n x w = w / 2 ^ (n + k) * 2 ^ (n + k) + x * 2 ^ k + w % 2 ^ k

-- DATA_CMD as it is written: data in bits 0 to 7, read 8, STOP 9, RESTART 10
abbrev pub command_word : ℕ → Bool → Bool → Bool → ℕ
command_word byte read stop restart = byte + 256 * b2n read + 512 * b2n stop + 1024 * b2n restart

abbrev pub dat : ℕ → ℕ
dat w = w % 256

abbrev pub cmd : ℕ → Bool
cmd w = bit 8 w

abbrev pub stop : ℕ → Bool
stop w = bit 9 w

abbrev pub restart : ℕ → Bool
restart w = bit 10 w

-- DATA_CMD as it is read
abbrev pub first_data_byte : ℕ → Bool
first_data_byte w = bit 11 w

-- RAW_INTR_STAT and INTR_MASK
abbrev pub tx_empty : ℕ → Bool
tx_empty w = bit 4 w

abbrev pub rd_req : ℕ → Bool
rd_req w = bit 5 w

abbrev pub tx_abrt : ℕ → Bool
tx_abrt w = bit 6 w

abbrev pub rx_done : ℕ → Bool
rx_done w = bit 7 w

abbrev pub stop_det : ℕ → Bool
stop_det w = bit 9 w

abbrev pub gen_call : ℕ → Bool
gen_call w = bit 11 w

abbrev pub restart_det : ℕ → Bool
restart_det w = bit 12 w

abbrev pub set_m_rx_full : ℕ → ℕ
set_m_rx_full w = set_field 2 1 1 w

abbrev pub set_m_tx_empty : ℕ → ℕ
set_m_tx_empty w = set_field 4 1 1 w

abbrev pub set_m_rd_req : ℕ → ℕ
set_m_rd_req w = set_field 5 1 1 w

abbrev pub set_m_tx_abrt : ℕ → ℕ
set_m_tx_abrt w = set_field 6 1 1 w

abbrev pub set_m_rx_done : ℕ → ℕ
set_m_rx_done w = set_field 7 1 1 w

abbrev pub set_m_stop_det : ℕ → ℕ
set_m_stop_det w = set_field 9 1 1 w

abbrev pub set_m_gen_call : ℕ → ℕ
set_m_gen_call w = set_field 11 1 1 w

abbrev pub set_m_restart_det : ℕ → ℕ
set_m_restart_det w = set_field 12 1 1 w

-- STATUS
abbrev pub rfne : ℕ → Bool
rfne w = bit 3 w

-- TXFLR and RXFLR
abbrev pub level : ℕ → ℕ
level w = w % 32

-- TX_ABRT_SOURCE
abbrev pub no_acknowledge : ℕ → Bool
no_acknowledge w = not (eqb (w % 8) 0)

abbrev pub txdata_noack : ℕ → Bool
txdata_noack w = bit 3 w

abbrev pub arb_lost : ℕ → Bool
arb_lost w = bit 12 w

abbrev pub tx_flush_cnt : ℕ → ℕ
tx_flush_cnt w = w / 2 ^ 23 % 2 ^ 9

-- TAR and SAR: the address in bits 0 to 9
abbrev pub address_field : ℕ → ℕ
address_field a = a % 2 ^ 10

-- SDA_HOLD: the transmit part in bits 0 to 15
abbrev pub set_ic_sda_tx_hold : ℕ → ℕ → ℕ
set_ic_sda_tx_hold hold w = set_field 0 16 hold w

-- CON, with what `reset` of the slave sets, in the Rust's order: master mode off, slave disable off,
-- TX_EMPTY_CTRL, RX_FIFO_FULL_HLD_CTRL, the speed fast, and STOP_DET_IFADDRESSED where no general call is heard
abbrev pub con_slave : Bool → ℕ → ℕ
con_slave general_call w =
    set_field 7 1 (b2n (not general_call))
    (set_field 1 2 2 (set_field 9 1 1 (set_field 8 1 1 (set_field 6 1 0 (set_field 0 1 0 w)))))
