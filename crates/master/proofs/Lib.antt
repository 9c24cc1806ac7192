-- What is proved about the master's definitions alone.
--     Accesses                 every access of every call is legal, TAR is written while the block is disabled, and
--                              no refusal is TxNotEmpty
--     Masks                    what the async waits unmask, for the lemmas over `wait_on`
--     Computed                 a sequence alone, corners of the Rust and number 20, computed
--     Demand3                  `same_sequence`, by Emits, Quiet, Issue (each function writes its words), Words,
--                              Sequence (words make the sequence), Told (it tells back), Lent (a call is a transfer
--                              within its limits), Accesses (its log reads back), Longer (operations with a code
--                              behind them), AsLonger and Message (a message with its code behind it)
--     Needed, CodedNeeded      its premises can be met, and none of them can be left out
--     Made                     what the calls' contracts say is what demand 3 supposes of a call
--     AsLonger                 a coded transfer whose operations all have data leaves what a plain one does, but for 22:
--                              by Alike, AlikeParts (each function) and AlikeLeft (what alike behaviours leave)
--     SpellsParts              the longer transfer of a coded call spells its operations (Spells), by Calm (the parts
--                              that neither take nor send a byte)
--     Settles                  a coded transfer is the longer one with 0 for the code, settled after its run, by SettlesParts
--     Running                  a coded transfer is the longer one watched by a running CRC-8, by RunningCode
--     CodedRows                transfers with a packet error code, computed
--     CodedFlips               a flipped bit changes the code
--     CodedEmpty               a coded transfer with an empty operation, by NoStop
--     CodedTested              the code of a last read is tested, by CodedCame (all data and the code came)
--     Buffer, BufferCoded      every byte read is stored at the next place of the buffer, whatever the answer; of a
--                              coded call, every byte but the code, by WatchedStores
pub mod Masks
pub mod Accesses
pub mod Computed
pub mod CodedRows
pub mod Words
pub mod Sequence
pub mod Told
pub mod Emits
pub mod Quiet
pub mod Issue
pub mod Lent
pub mod Longer
pub mod Message
pub mod Demand3
pub mod Needed
pub mod CodedNeeded
pub mod Made
pub mod Buffer
pub mod MessageFrom
pub mod Spells
pub mod Calm
pub mod SpellsParts
pub mod Alike
pub mod AlikeLeft
pub mod AlikeParts
pub mod AsLonger
pub mod SettlesParts
pub mod Settles
pub mod RunningCode
pub mod Running
pub mod CodedFlips
pub mod NoStop
pub mod CodedEmpty
pub mod CodedCame
pub mod CodedTested
pub mod WatchedStores
pub mod BufferCoded
