-- Calls with a packet error code meet demand 3's premises, computed; a code that is written makes the sequence that the
-- same byte makes in a plain write, and without success the code on the bus may be wrong.
use Prim.Native.Nat.{ℕ}
use native.Mathlib.Omega.{arith}
use mathlib.Core.Bool.{true, false, xor}
use mathlib.Core.Logic.{◌≢◌}
use mathlib.Core.Path.{◌≡◌, refl}
use mathlib.Core.List.{[], ◌∷◌}
use Rattle.crc8.specs.Crc8.{after_bit, after_bits, after_byte, crc8_from, crc8}
use Rattle.regs.specs.Fields.{set_field}
use Rattle.regs.specs.Left.{bytes_read}
use Rattle.regs.specs.Log.{Each, decode, written_to}
use Rattle.regs.specs.Program.{outcome, turns, rounds}
use Rattle.regs.specs.Watched.{watched_from}
use Rattle.bus.specs.Bus.{signs}
use Rattle.master.specs.Driver.{setup, tx_fifo_capacity, tx_fifo_full, rx_fifo_len, read_and_clear_abort_reason}
use Rattle.master.specs.Async.{wait_stop_det, queue_batch, fetch_bytes, read_async_internal, fill, write_async_internal}
use Rattle.master.specs.Operations.{async}
use Rattle.master.specs.Sequence.{joined, sequence_from}
use Rattle.master.specs.Transfer.{write_async}
use Rattle.master.specs.Coded.{message, with_code, room_of, ends_in_read, each_coded, longer_transfer}
use Rattle.master.specs.Calls.{reads_into, writes_from}
use Rattle.master.specs.Demand3.{Made, asked, log_of, made_sequence, NotEmpty, LevelsPossible, Premises}
use Rattle.master.proofs.Longer.{not_nil}
use Rattle.master.proofs.Needed.{made_with, levels_left}

-- a byte and its code, and both as two bytes
abbrev coded_write : Made
coded_write = made_with true async 0x50 (writes_from (1 ∷ [])) (omega arith) (0 ∷ 0 ∷ 0x200 ∷ 0 ∷ [])

abbrev plain_write : Made
plain_write = made_with false async 0x50 (writes_from (1 ∷ 0x1F ∷ [])) (omega arith) (0 ∷ 0 ∷ 0x200 ∷ 0 ∷ [])

-- a byte that is read, and this byte as its code
abbrev coded_read : ℕ → Made
coded_read code = made_with true async 0x50 (reads_into (0 ∷ [])) tt (0 ∷ 2 ∷ 0 ∷ 0x5A ∷ code ∷ 0 ∷ 0x200 ∷ 0 ∷ [])

pub record CodedNeeded : Type 0 where
  pub met_write : Premises coded_write
  pub met_read : Premises (coded_read 0x8C)
  pub same : made_sequence coded_write ≡ made_sequence plain_write
  -- the code on the bus is right only where the call succeeds
  pub succeeds : ((m : Made) → m.call.pec ≡ true → asked m ≢ [] → Each NotEmpty (asked m) → LevelsPossible (log_of m)
      → crc8 (message (made_sequence m) (bytes_read (log_of m))) ≡ 0)
      → ⊥

pub coded_needed : CodedNeeded
unfolding outcome turns rounds setup tx_fifo_capacity tx_fifo_full rx_fifo_len read_and_clear_abort_reason wait_stop_det
    queue_batch fetch_bytes read_async_internal fill write_async_internal write_async signs written_to decode set_field
    after_bit after_bits after_byte crc8_from xor watched_from joined sequence_from message with_code room_of
    ends_in_read each_coded longer_transfer
coded_needed = record {
  met_write = record {
    succeeds = refl;
    at_least_one = not_nil _ _;
    none_empty = (tt, tt);
    levels = levels_left coded_write (omega arith);
  };
  met_read = record {
    succeeds = refl;
    at_least_one = not_nil _ _;
    none_empty = (tt, tt);
    levels = levels_left (coded_read 0x8C) (omega arith);
  };
  same = refl;
  succeeds = λ claim.
      let e : ◌≡◌ {A = ℕ} 7 0 =
      claim (coded_read 0x8D) refl (not_nil _ _) (tt, tt) (levels_left (coded_read 0x8D) (omega arith)) in omega arith;
}
