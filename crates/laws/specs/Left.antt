-- The table of refusals (docs/MANUAL.md, "The numbers"), its column "Left as it was", for every public call.
-- Of 4 and 5, "all but ENABLE 0", `ByTable` in crates/clock_setting/specs/Table.antt has the log.
use Rattle.std.specs.Prelude.{ℕ, ◌≤◌, List, [], ◌++◌, ◌≢◌, ◌≡◌, T, length, take, drop}
use Rattle.regs.specs.Program.{Outcome}
use Rattle.regs.specs.Left.{no_access, Untouched, bytes_read}
use Rattle.regs.specs.declared.answers.Reply.{Reply}
use Rattle.master.specs.Buffer as Master
use Rattle.laws.specs.Calls.{Call, clock, master, slave, State, buffer_in, kept_in, left_by}

-- "all, no access": an answer numbered 1, 2, 3, 6, 13, 16, 17 or 20 leaves the log empty, buffer and state as they were
abbrev pub NothingTouched : Type 0
NothingTouched = (c : Call) (log readings : List ℕ) (me : State c)
    → T (no_access (left_by c log readings me).answer)
    → Untouched (buffer_in c) me (left_by c log readings me)

-- the codes that a call fetches at most: the byte past the data, where it has a packet error code and ends in a read
abbrev pub most_codes : Call → ℕ
most_codes (clock frequency clk) = 0
most_codes (master c) = Master.most_codes c
most_codes (slave c) = 0

-- "bytes not yet read", "bytes not yet stored", "pending byte": whatever a call answers, the byte kept before it and the bytes
-- that it read are the first k of the buffer and the byte kept after it, in order, and the rest of the buffer is as it was.
-- A packet error code has no place in the buffer: it comes behind all of it.
-- How many these are: of the master in crates/master/specs/Buffer.antt, of `listen` in crates/slave/specs/Counts.antt.
pub record Bytes (c : Call) (me : State c) (o : Outcome (State c) Reply) : Type 0 where
  pub k : ℕ
  pub code : List ℕ
  pub within : k ≤ length (buffer_in c)
  pub bytes : kept_in c me ++ bytes_read o.log ≡ take k o.buffer ++ (kept_in c o.state ++ code)
  pub others : drop k o.buffer ≡ drop k (buffer_in c)
  pub size : length o.buffer ≡ length (buffer_in c)
  pub codes : length code ≤ most_codes c
  pub behind : code ≢ [] → k ≡ length (buffer_in c)

abbrev pub BytesStored : Type 0
BytesStored = (c : Call) (log readings : List ℕ) (me : State c) → Bytes c me (left_by c log readings me)
