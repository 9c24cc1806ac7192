-- The controller's 25 registers (RP2040 datasheet, I2C chapter): one table of offsets and directions, and a name for each row.
use Rattle.std.specs.Prelude.{ℕ, Bool, true, false, ◌||◌, ◌&&◌, List, [], ◌∷◌, map, eqb, get_or}

pub data Direction : Type 0 where
  read_only read_write : Direction

pub record Register : Type 0 where
  pub offset : ℕ
  pub direction : Direction

abbrev pub ◌is◌ : ℕ → Direction → Register
◌is◌ o d = record { offset = o; direction = d }

infixl 20 ◌is◌
abbrev pub registers : List Register
registers =
    (0x00 is read_write)  -- CON
    ∷ (0x04 is read_write)  -- TAR
    ∷ (0x08 is read_write)  -- SAR
    ∷ (0x10 is read_write)  -- DATA_CMD
    ∷ (0x1C is read_write)  -- FS_SCL_HCNT
    ∷ (0x20 is read_write)  -- FS_SCL_LCNT
    ∷ (0x30 is read_write)  -- INTR_MASK
    ∷ (0x34 is read_only)  -- RAW_INTR_STAT
    ∷ (0x38 is read_write)  -- RX_TL
    ∷ (0x3C is read_write)  -- TX_TL
    ∷ (0x40 is read_only)  -- CLR_INTR
    ∷ (0x50 is read_only)  -- CLR_RD_REQ
    ∷ (0x54 is read_only)  -- CLR_TX_ABRT
    ∷ (0x58 is read_only)  -- CLR_RX_DONE
    ∷ (0x60 is read_only)  -- CLR_STOP_DET
    ∷ (0x68 is read_only)  -- CLR_GEN_CALL
    ∷ (0x6C is read_write)  -- ENABLE
    ∷ (0x70 is read_only)  -- STATUS
    ∷ (0x74 is read_only)  -- TXFLR
    ∷ (0x78 is read_only)  -- RXFLR
    ∷ (0x7C is read_write)  -- SDA_HOLD
    ∷ (0x80 is read_only)  -- TX_ABRT_SOURCE
    ∷ (0x98 is read_write)  -- ACK_GENERAL_CALL
    ∷ (0xA0 is read_write)  -- FS_SPKLEN
    ∷ (0xA8 is read_only)  -- CLR_RESTART_DET
    ∷ []

abbrev pub offsets : List ℕ
offsets = map (λ (r : Register). r.offset) registers

-- the offset in a row of the table
abbrev pub row : ℕ → ℕ
row n = get_or offsets n 0

abbrev pub CON : ℕ
CON = row 0

abbrev pub TAR : ℕ
TAR = row 1

abbrev pub SAR : ℕ
SAR = row 2

abbrev pub DATA_CMD : ℕ
DATA_CMD = row 3

abbrev pub FS_SCL_HCNT : ℕ
FS_SCL_HCNT = row 4

abbrev pub FS_SCL_LCNT : ℕ
FS_SCL_LCNT = row 5

abbrev pub INTR_MASK : ℕ
INTR_MASK = row 6

abbrev pub RAW_INTR_STAT : ℕ
RAW_INTR_STAT = row 7

abbrev pub RX_TL : ℕ
RX_TL = row 8

abbrev pub TX_TL : ℕ
TX_TL = row 9

abbrev pub CLR_INTR : ℕ
CLR_INTR = row 10

abbrev pub CLR_RD_REQ : ℕ
CLR_RD_REQ = row 11

abbrev pub CLR_TX_ABRT : ℕ
CLR_TX_ABRT = row 12

abbrev pub CLR_RX_DONE : ℕ
CLR_RX_DONE = row 13

abbrev pub CLR_STOP_DET : ℕ
CLR_STOP_DET = row 14

abbrev pub CLR_GEN_CALL : ℕ
CLR_GEN_CALL = row 15

abbrev pub ENABLE : ℕ
ENABLE = row 16

abbrev pub STATUS : ℕ
STATUS = row 17

abbrev pub TXFLR : ℕ
TXFLR = row 18

abbrev pub RXFLR : ℕ
RXFLR = row 19

abbrev pub SDA_HOLD : ℕ
SDA_HOLD = row 20

abbrev pub TX_ABRT_SOURCE : ℕ
TX_ABRT_SOURCE = row 21

abbrev pub ACK_GENERAL_CALL : ℕ
ACK_GENERAL_CALL = row 22

abbrev pub FS_SPKLEN : ℕ
FS_SPKLEN = row 23

abbrev pub CLR_RESTART_DET : ℕ
CLR_RESTART_DET = row 24

abbrev pub can_write : Direction → Bool
can_write read_only = false
can_write read_write = true

-- whether some register of the list passes the test
abbrev pub any : (Register → Bool) → List Register → Bool
any f [] = false
any f (r ∷ rs) = f r || any f rs

-- a register is read where the table has it, and written where the table says that it can be
abbrev pub legal_read : ℕ → Bool
legal_read o = any (λ r. eqb r.offset o) registers

abbrev pub legal_write : ℕ → Bool
legal_write o = any (λ r. eqb r.offset o && can_write r.direction) registers
