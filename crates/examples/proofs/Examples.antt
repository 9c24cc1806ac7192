-- Every row of the worked examples holds: each is computed.
use mathlib.Core.Bool.{xor}
use mathlib.Core.Path.{refl}
use Rattle.regs.specs.Fields.{set_field}
use Rattle.regs.specs.Program.{outcome, turns, rounds}
use Rattle.regs.specs.Log.{Each, written_to}
use Rattle.regs.specs.Watched.{watched_from}
use Rattle.crc8.specs.Crc8.{after_bit, after_bits, after_byte, crc8_from}
use Rattle.clock_setting.specs.SetConfig.{set_config, period, lcnt_of, hcnt_of, hold_below_1_mhz, hold_at_1_mhz, spklen}
use Rattle.clock_setting.specs.BusRate.{rated}
use Rattle.master.specs.Driver.{setup, tx_fifo_capacity, tx_fifo_full, rx_fifo_len, read_and_clear_abort_reason}
use Rattle.master.specs.Blocking.{read_blocking_bytes, read_blocking_internal, write_blocking_bytes, write_blocking_internal}
use Rattle.master.specs.Async.{wait_stop_det, queue_batch, fetch_bytes, read_async_internal, fill, write_async_internal}
use Rattle.master.specs.Transfer.{blocking_read, blocking_write, read_async, write_async}
use Rattle.master.specs.Operations.{known, total, listed}
use Rattle.master.specs.Sequence.{joined, sequence_from}
use Rattle.master.specs.Coded.{message, with_code, room_of, ends_in_read, each_coded, longer_transfer}
use Rattle.slave.specs.I2cSlave.{reset, reset_call}
use Rattle.regs_causes.specs.Causes.{causes_of, set_from, lowest_from}
use Rattle.examples.specs.Rows.{Holds, abort_rows, rate_rows, added_rows, rows}

-- (t) to (v)
aborts : Each Holds abort_rows
unfolding outcome turns rounds setup tx_fifo_capacity tx_fifo_full rx_fifo_len read_and_clear_abort_reason
    write_blocking_bytes write_blocking_internal wait_stop_det queue_batch fetch_bytes read_async_internal fill
    write_async_internal blocking_write read_async write_async watched_from with_code room_of ends_in_read each_coded
    longer_transfer set_field causes_of set_from lowest_from
aborts = (
  (refl, refl),
  (
    (refl, refl),
    ((refl, refl), ((refl, refl), ((refl, refl), ((refl, refl), ((refl, refl), (refl, (refl, (refl, (refl, (refl, tt)))))))))),
  ),
)

-- (p) to (s), and what follows
rates : Each Holds rate_rows
unfolding rated outcome set_config period lcnt_of hcnt_of hold_below_1_mhz hold_at_1_mhz spklen set_field
rates = (
  (refl, (refl, refl)),
  (
    (refl, (refl, refl)),
    (
      (refl, (refl, refl)),
      (
        (refl, (refl, refl)),
        ((refl, (refl, refl)), ((refl, (refl, refl)), ((refl, (refl, refl)), ((refl, (refl, refl)), ((refl, (refl, refl)), ((refl, (refl, refl)), aborts)))))),
      ),
    ),
  ),
)

-- (k) to (o), and what follows
added : Each Holds added_rows
unfolding outcome turns rounds written_to setup tx_fifo_capacity tx_fifo_full rx_fifo_len read_and_clear_abort_reason
    read_blocking_bytes read_blocking_internal write_blocking_bytes write_blocking_internal wait_stop_det queue_batch
    fetch_bytes read_async_internal fill
    write_async_internal watched_from after_bit after_bits after_byte crc8_from xor known total listed joined sequence_from
    message with_code room_of ends_in_read each_coded longer_transfer set_field
added = (refl, (refl, ((refl, (refl, refl)), ((refl, (refl, refl)), ((refl, (refl, refl)), ((refl, (refl, refl)), ((refl, (refl, refl)), ((refl, (refl, refl)), ((refl, (refl, refl)), rates)))))))))

pub examples : Each Holds rows
unfolding set_field outcome turns rounds written_to set_config period lcnt_of hcnt_of hold_below_1_mhz hold_at_1_mhz
    spklen setup tx_fifo_capacity tx_fifo_full rx_fifo_len read_and_clear_abort_reason
    read_blocking_bytes read_blocking_internal write_blocking_bytes write_blocking_internal wait_stop_det
    queue_batch fetch_bytes read_async_internal fill write_async_internal blocking_read blocking_write
    read_async write_async reset reset_call
examples = (
  (refl, refl),
  (
    (refl, refl),
    (
      (refl, refl),
      (
        (refl, refl),
        (
          (refl, refl),
          (
            (refl, refl),
            (
              (refl, refl),
              (
                (refl, refl),
                (
                  (refl, refl),
                  (
                    (refl, refl),
                    (
                      (refl, refl),
                      (
                        (refl, refl),
                        (
                          (refl, refl),
                          (
                            λ me. (refl, refl),
                            (
                              λ me. (refl, refl),
                              ((refl, refl), ((refl, refl), ((refl, (refl, refl)), ((refl, (refl, refl)), added)))),
                            ),
                          ),
                        ),
                      ),
                    ),
                  ),
                ),
              ),
            ),
          ),
        ),
      ),
    ),
  ),
)
