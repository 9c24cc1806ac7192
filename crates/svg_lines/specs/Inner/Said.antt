-- What a call of `begin` leaves, and what one of `draw_line` leaves and writes. Only contracts cite this.
use Rattle.std.specs.Prelude.{ℕ, ◌≤◌, Bool, true, false, List, [], ◌≡◌, eqb, length, take, if◌then◌else◌}
use Rattle.regs.specs.Log.{decode}
use Rattle.bus.specs.declared.Sign.{Sign}
use Rattle.bus.specs.Bus.{bus_sequence}
use Rattle.svg_text.specs.Picture.{svg_text}
use Rattle.answer_lines.specs.Lines.{number_after}
use Rattle.svg_lines.specs.Drawn.{Turn, draws, goes, turn, nothing_drawn}
use Rattle.svg_lines.specs.declared.Kept.{Kept}
use Rattle.svg_lines.specs.declared.Said.{Said}

abbrev pub start_kept : Kept
start_kept = record { lines = 0; drawn = false }

-- before the first line, with an empty log, whatever it held
pub record BegunAs (log : List ℕ) (k : Kept) : Type 0 where
  pub empty : log ≡ []
  pub kept : k ≡ start_kept

-- how many signs a log can make, and the room for their picture
abbrev pub PLACES : ℕ
PLACES = 32768

abbrev pub PICTURE_ROOM : ℕ
PICTURE_ROOM = 53000

-- the picture of a sequence, or nothing
abbrev pub picture_of : List Sign → List ℕ
picture_of ss = if eqb (length ss) 0 then [] else svg_text (take 256 ss) (length ss)

abbrev pub log_picture : List ℕ → List ℕ
log_picture log = picture_of (bus_sequence (decode log))

-- the buffers: a line that was cut at its buffer's end is longer than every answer frame, and there is room for the signs
-- and for the picture
pub record Lent (text : List ℕ) (held : ℕ) (places : List Sign) (out : List ℕ) : Type 0 where
  pub cut : 8195 ≤ length text
  pub line : held ≤ length text
  pub signs : PLACES ≤ length places
  pub room : PICTURE_ROOM ≤ length out

-- a picture, or a log and a warning
abbrev pub turn_by : Bool → List ℕ → List ℕ → Turn
turn_by true log text = draws text
turn_by false log text = goes log text

-- a line before the picture is the line's turn; behind the picture nothing is written any more
pub record SaidAs (o : Kept) (log line log' out : List ℕ) (r : Said) : Type 0 where
  pub lines : r.kept.lines ≡ number_after o.lines
  pub before : o.drawn ≡ false → turn_by r.kept.drawn log' (take r.made out) ≡ turn (number_after o.lines) log line
  pub behind : o.drawn ≡ true → (r.kept.drawn ≡ true) × (r.made ≡ 0)
  pub made : r.made ≤ length out

-- what is warned at the end of the input
abbrev pub last_warning : Bool → List ℕ
last_warning true = []
last_warning false = nothing_drawn
