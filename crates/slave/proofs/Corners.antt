-- Computed: refusals of the slave's calls, a log that is full in the middle of a call, and fill bytes.
use Prim.Native.Nat.{ℕ, zero, suc}
use native.Mathlib.Omega.{arith}
use mathlib.Core.Bool.{Bool, true, false}
use mathlib.Core.List.{List, [], ◌∷◌, ◌++◌}
use mathlib.Core.Logic.{◌≢◌}
use mathlib.Core.Path.{◌≡◌, refl}
use lib.Dec.{ltb}
use lib.ListN.{replicate}
use Rattle.regs.specs.Program.{Outcome, outcome, behaviour, Program, rounds}
use Rattle.std.specs.Prelude.{if◌then◌else◌, Option, Some, None}
use Rattle.regs.specs.Answers.{abort_number}
use Rattle.regs.specs.Fields.{set_field, no_acknowledge, arb_lost, tx_flush_cnt}
use Rattle.regs.specs.declared.access.Entry.{Entry}
use Rattle.regs.specs.declared.access.Entry.TheVariants as E
use Rattle.regs.specs.declared.answers.AbortReason.TheVariants.{NoAcknowledge, ArbitrationLoss, TxNotEmpty, Other}
use Rattle.regs.specs.declared.answers.Answer.{Answer}
use Rattle.regs.specs.declared.answers.Answer.TheVariants.{Accepted, Responded, Refused}
use Rattle.regs.specs.declared.answers.ReadStatus.TheVariants.{Done}
use Rattle.regs.specs.declared.answers.Refusal.TheVariants.{Abort, InvalidResponseBufferLength, PartialWrite}
use Rattle.regs.specs.declared.answers.Refusal.TheVariants.{PartialGeneralCall, SlaveAddressZero}
use Rattle.regs.specs.declared.answers.Refusal.TheVariants.{NoPlaceForPending, OverLimits}
use Rattle.regs.specs.declared.answers.Reply.{Reply}
use Rattle.regs.specs.declared.answers.Reply.TheVariants.{Answered, OutOfReadings, LogFull}
use Rattle.slave.specs.I2cSlave.{abort_reason, drain_places, listen, listen_call, reset, reset_call, send_chunk}
use Rattle.slave.specs.I2cSlave.{respond_to_read, respond_to_read_call, respond_till_stop}
use Rattle.slave.specs.I2cSlave.{respond_till_stop_call, respond_and_fill, respond_and_fill_call}
use Rattle.slave.specs.declared.SlaveState.{SlaveState}

abbrev me : Option ℕ → SlaveState
me p = record { pending_byte = p; address = 0x55; general_call = true }

-- a call on so much room and these readings, from a buffer and a pending byte
abbrev run : Program SlaveState Answer Answer → ℕ → List ℕ → List ℕ → Option ℕ → Outcome SlaveState Reply
run p room readings buffer pending = outcome Answered LogFull OutOfReadings (behaviour p room) room readings buffer (me pending)

abbrev leaves : Answer → List Entry → List ℕ → Option ℕ → Outcome SlaveState Reply
leaves a log buffer pending = record { answer = Answered a; log = log; buffer = buffer; state = me pending }

-- ---- reset

-- 16: no access, the settings stay
address_zero : run (reset_call 0 false) 20 [] [] None ≡ leaves (Refused SlaveAddressZero) [] [] None
unfolding outcome reset_call
address_zero = refl

-- only the address 0 is refused
address_1024 : (run (reset_call 0x0400 true) 3 [] [] None).log ≡ E.Marked 1 ∷ E.Write 0x6c 0 ∷ E.Write 0x08 0 ∷ []
unfolding outcome reset reset_call
address_1024 = refl

-- the settings change with the block reset mark: with no room for it they stay, with room for it alone they are new
before_mark : (run (reset_call 0x33 false) 0 [] [] (Some 7)).state ≡ me (Some 7)
unfolding outcome reset reset_call
before_mark = refl

with_mark : run (reset_call 0x33 false) 1 [] [] (Some 7)
    ≡ record {
      answer = LogFull;
      log = E.Marked 1 ∷ [];
      buffer = [];
      state = record { pending_byte = Some 7; address = 0x33; general_call = false };
    }
unfolding outcome reset reset_call
with_mark = refl

-- ---- listen

-- an exact fit is Partial, before all commands: 14 without GEN_CALL, 15 with it
fits : (run (listen_call 2) 20 (0x1220 ∷ 2 ∷ 8 ∷ 0x8aa ∷ 8 ∷ 0xbb ∷ []) (0 ∷ 0 ∷ []) None).answer ≡ Answered (Refused (PartialWrite 2))
unfolding outcome listen_call listen drain_places rounds
fits = refl

fits_general_call : (run (listen_call 2) 20 (0xa00 ∷ 2 ∷ 8 ∷ 0x8aa ∷ 8 ∷ 0xbb ∷ []) (0 ∷ 0 ∷ []) None).answer
    ≡ Answered (Refused (PartialGeneralCall 2))
unfolding outcome listen_call listen drain_places rounds
fits_general_call = refl

-- 17: a pending byte and an empty buffer, no access
no_place : run (listen_call 0) 20 (0 ∷ 0 ∷ []) [] (Some 7) ≡ leaves (Refused NoPlaceForPending) [] [] (Some 7)
unfolding outcome listen_call
no_place = refl

-- 20 before it: no access
too_long : run (listen_call 4097) 20 (0 ∷ 0 ∷ []) [] (Some 7) ≡ leaves (Refused OverLimits) [] [] (Some 7)
unfolding outcome listen_call
too_long = refl

-- a pending byte comes first, though RXFLR is 0, and is stored with that reading: so it is where the log is full right after it
pending_first : run (listen_call 3) 3 (0 ∷ 0 ∷ []) (0 ∷ 0 ∷ 0 ∷ []) (Some 7)
    ≡ record { answer = LogFull; log = E.Write 0x38 0 ∷ E.Read 0x34 0 ∷ E.Read 0x78 0 ∷ []; buffer = 7 ∷ 0 ∷ 0 ∷ []; state = me None }
unfolding outcome listen_call listen drain_places rounds
pending_first = refl

-- ---- the responses

-- 13, and 20 before it: no access
empty_response : run (respond_to_read_call []) 20 (0 ∷ []) [] None ≡ leaves (Refused InvalidResponseBufferLength) [] [] None
unfolding outcome respond_to_read_call respond_to_read
empty_response = refl

long_response : run (respond_to_read_call (replicate 4097 1)) 20 (0 ∷ []) [] None ≡ leaves (Refused OverLimits) [] [] None
unfolding outcome respond_to_read_call
long_response = refl

-- a flush count is LeftoverBytes only with bits 0 to 2 and 12 clear: else it is 9 or 10
acknowledged : (run (respond_to_read_call (1 ∷ 2 ∷ [])) 20 (0x40 ∷ 0x2801004 ∷ 0 ∷ 0 ∷ []) [] None).answer
    ≡ Answered (Refused (Abort NoAcknowledge))
unfolding outcome respond_to_read_call respond_to_read rounds
acknowledged = refl

arbitration : (run (respond_to_read_call (1 ∷ 2 ∷ [])) 20 (0x40 ∷ 0x2801000 ∷ 0 ∷ 0 ∷ []) [] None).answer
    ≡ Answered (Refused (Abort ArbitrationLoss))
unfolding outcome respond_to_read_call respond_to_read rounds
arbitration = refl

-- bit 3, a data byte not acknowledged, stays Other in the slave, and with bit 12 it is ArbitrationLoss
data_byte : ((run (respond_to_read_call (1 ∷ 2 ∷ [])) 20 (0x40 ∷ 8 ∷ 0 ∷ 0 ∷ []) [] None).answer
    ≡ Answered (Refused (Abort (Other 8))))
    × ((run (respond_to_read_call (1 ∷ 2 ∷ [])) 20 (0x40 ∷ 0x1008 ∷ 0 ∷ 0 ∷ []) [] None).answer
    ≡ Answered (Refused (Abort ArbitrationLoss)))
unfolding outcome respond_to_read_call respond_to_read rounds
data_byte = (refl, refl)

-- no word makes the slave tell the master's reason for it
pub never_data_not_acknowledged : (w : ℕ) → abort_number (abort_reason w) ≢ 23
never_data_not_acknowledged w = go (no_acknowledge w) (arb_lost w) (ltb 0 (tx_flush_cnt w))
  where
    go : (a b c : Bool)
        → abort_number (if a then NoAcknowledge else
        (if b then ArbitrationLoss else (if c then TxNotEmpty (tx_flush_cnt w) else Other w)))
        ≢ 23
    go true b c e = omega arith
    go false true c e = omega arith
    go false false true e = omega arith
    go false false false e = omega arith

-- a poll that sends a byte n times
abbrev sent : ℕ → ℕ → List Entry
sent zero b = E.Write 0x30 0xd0 ∷ E.Marked 0 ∷ []
sent (suc n) b = E.Read 0x50 0 ∷ E.Write 0x10 b ∷ sent n b

-- NeedMoreBytes ends no fill, and is not the answer of a response that is filled up: sixteen fill bytes follow, till the master stops
till_stopped : run (respond_till_stop_call 9) 80 (0 ∷ replicate 16 0 ++ 0x30 ∷ 0 ∷ replicate 16 0 ++ 0x80 ∷ 0 ∷ []) [] None
    ≡ leaves Accepted
    (E.Read 0x34 0 ∷ sent 16 9 ++ E.Read 0x34 0x30 ∷ E.Read 0x34 0 ∷ sent 16 9 ++ E.Read 0x34 0x80 ∷ E.Read 0x58 0 ∷ []) [] None
unfolding outcome respond_till_stop_call respond_to_read respond_till_stop send_chunk rounds set_field
till_stopped = refl

and_filled : run (respond_and_fill_call (5 ∷ []) 9) 60 (0 ∷ 0 ∷ 0x30 ∷ 0 ∷ replicate 16 0 ++ 0x80 ∷ 0 ∷ []) [] None
    ≡ leaves (Responded Done)
    (E.Read 0x34 0 ∷ sent 1 5 ++ E.Read 0x34 0x30 ∷ E.Read 0x34 0 ∷ sent 16 9 ++ E.Read 0x34 0x80 ∷ E.Read 0x58 0 ∷ []) [] None
unfolding outcome respond_and_fill_call respond_and_fill respond_to_read respond_till_stop send_chunk rounds set_field
and_filled = refl
