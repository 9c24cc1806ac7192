-- A line as a frame.
use Rattle.std.specs.Prelude.{ℕ, true, false, List, [], ◌∷◌, eqb, ltb, length, drop, if◌then◌else◌, Option, Some, None}
use Rattle.master.specs.Operations.{Operation, writes}
use Rattle.text_hex.specs.Text.{number_at, bytes_of}
use Rattle.replay_calls.specs.Form.{form_of}
use Rattle.replay_calls.specs.declared.form.Form.{Form}
use Rattle.replay_calls.specs.declared.Call.{Call}
use Rattle.replay_calls.specs.declared.Call.TheVariants.{Clock, Master, Reset, Listen, Respond, Fill, RespondAndFill}
use Rattle.replay_frames.specs.declared.Line.{Line}

pub data Frame : Type 0 where
  opens : Call → List (Operation ℕ) → Frame  -- `01`, `02`, `03`: a call. The bytes of a response are an operation of it
  write : List ℕ → Frame  -- `10`: a write operation
  read : ℕ → Frame  -- `11`: a read operation
  reading : ℕ → Frame  -- `20`
  run : Frame  -- `FF`
  bad : Frame  -- any other line

-- ---- frames of a fixed length, by their numbers

abbrev pub clock_of : Option ℕ → Option ℕ → Frame
clock_of (Some f) (Some c) = opens (Clock f c) []
clock_of (Some f) None = bad
clock_of None c = bad

-- a form has four bits
abbrev pub master_by : Option Form → ℕ → Frame
master_by (Some form) address = opens (Master form address) []
master_by None address = bad

abbrev pub master_of : Option ℕ → Option ℕ → Frame
master_of (Some bits) (Some address) = master_by (form_of bits) address
master_of (Some bits) None = bad
master_of None address = bad

abbrev pub reset_of : Option ℕ → Option ℕ → Frame
reset_of (Some address) (Some g) = if eqb g 0 then opens (Reset address false) [] else (if eqb g 1 then opens (Reset address true) [] else bad)
reset_of (Some address) None = bad
reset_of None g = bad

abbrev pub listen_of : Option ℕ → Frame
listen_of (Some n) = opens (Listen n) []
listen_of None = bad

abbrev pub fill_of : Option ℕ → Frame
fill_of (Some b) = opens (Fill b) []
fill_of None = bad

abbrev pub read_of : Option ℕ → Frame
read_of (Some n) = read n
read_of None = bad

abbrev pub reading_of : Option ℕ → Frame
reading_of (Some w) = reading w
reading_of None = bad

-- a line of n bytes, or none
abbrev pub sized : List ℕ → ℕ → Frame → Frame
sized line n f = if eqb (length line) n then f else bad

-- `03` by its form
abbrev pub slave_of : List ℕ → Option ℕ → Frame
slave_of line None = bad
slave_of line (Some form) =
    if eqb form 0 then sized line 10 (reset_of (number_at line 4 4) (number_at line 8 2)) else
    (if eqb form 1 then sized line 8 (listen_of (number_at line 4 4)) else
    (if eqb form 3 then sized line 6 (fill_of (number_at line 4 2)) else bad))

abbrev pub of_kind : List ℕ → Option ℕ → Frame
of_kind line None = bad
of_kind line (Some kind) =
    if eqb kind 0x01 then sized line 18 (clock_of (number_at line 2 8) (number_at line 10 8)) else
    (if eqb kind 0x02 then sized line 8 (master_of (number_at line 2 2) (number_at line 4 4)) else
    (if eqb kind 0x03 then slave_of line (number_at line 2 2) else
    (if eqb kind 0x11 then sized line 6 (read_of (number_at line 2 4)) else
    (if eqb kind 0x20 then sized line 10 (reading_of (number_at line 2 8)) else
    (if eqb kind 0xFF then sized line 2 run else bad)))))

abbrev pub plain_of : List ℕ → Frame
plain_of line = of_kind line (number_at line 0 2)

-- no such frame has more bytes
abbrev pub LONGEST : ℕ
LONGEST = 18

-- ---- frames that end in any number of bytes: `10`, `0302`, and `0304` with its fill byte stand before them

abbrev pub fill_head : Option ℕ → Option Line
fill_head (Some b) = Some (Line.RespondAndFill b)
fill_head None = None

abbrev pub slave_head : Option ℕ → Option ℕ → Option Line
slave_head (Some form) fill = if eqb form 2 then Some Line.Respond else (if eqb form 4 then fill_head fill else None)
slave_head None fill = None

abbrev pub head_by : Option ℕ → Option ℕ → Option ℕ → Option Line
head_by (Some kind) form fill = if eqb kind 0x10 then Some Line.Write else (if eqb kind 0x03 then slave_head form fill else None)
head_by None form fill = None

abbrev pub head_of : List ℕ → Option Line
head_of line = head_by (number_at line 0 2) (number_at line 2 2) (number_at line 4 2)

-- how many characters stand before the bytes
abbrev pub width : Line → ℕ
width Line.Write = 2
width Line.Respond = 4
width (Line.RespondAndFill b) = 6

abbrev pub bytes_frame : Line → Option (List ℕ) → Frame
bytes_frame l None = bad
bytes_frame Line.Write (Some bs) = write bs
bytes_frame Line.Respond (Some bs) = opens Respond (writes bs ∷ [])
bytes_frame (Line.RespondAndFill b) (Some bs) = opens (RespondAndFill b) (writes bs ∷ [])

-- ---- any line

abbrev pub by_head : List ℕ → Option Line → Frame
by_head line None = plain_of line
by_head line (Some l) = bytes_frame l (bytes_of (drop (width l) line))

abbrev pub frame_of : List ℕ → Frame
frame_of line = by_head line (head_of line)
