-- Answer frames: the entries of a log, a buffer, and the reply.
use Rattle.std.specs.Prelude.{ℕ, List, [], ◌∷◌, ◌++◌, eqb, if◌then◌else◌}
use Rattle.regs.specs.Program.{PENDING}
use Rattle.regs.specs.Answers.{number, detail}
use Rattle.regs.specs.declared.access.Entry.{Entry}
use Rattle.regs.specs.declared.access.Entry.TheVariants.{Read, Write, Marked}
use Rattle.regs.specs.declared.answers.Reply.{Reply}
use Rattle.text_hex.specs.Text.{LF, hex2, hex8}

-- a frame of its kind, and one of its kind, a byte and a word
abbrev pub plain_frame : ℕ → List ℕ
plain_frame kind = hex2 kind ++ (LF ∷ [])

abbrev pub word_frame : ℕ → ℕ → ℕ → List ℕ
word_frame kind byte word = hex2 kind ++ (hex2 byte ++ (hex8 word ++ (LF ∷ [])))

-- `30` a read and `31` a write, with offset and value; `32` a poll that is not done, `33` a reset of the block
unfoldable pub entry_text : Entry → List ℕ
entry_text (Read register value) = word_frame 0x30 register value
entry_text (Write register value) = word_frame 0x31 register value
entry_text (Marked mark) = if eqb mark PENDING then plain_frame 0x32 else plain_frame 0x33

unfoldable pub log_text : List Entry → List ℕ
log_text [] = []
log_text (e ∷ es) = entry_text e ++ log_text es

-- `34` the bytes of a buffer
unfoldable pub bytes_text : List ℕ → List ℕ
bytes_text [] = []
bytes_text (b ∷ bs) = hex2 b ++ bytes_text bs

abbrev pub buffer_text : List ℕ → List ℕ
buffer_text bytes = hex2 0x34 ++ (bytes_text bytes ++ (LF ∷ []))

-- `35` the number and the detail
unfoldable pub answer_text : ℕ → ℕ → List ℕ
answer_text n d = word_frame 0x35 n d

abbrev pub reply_text : Reply → List ℕ
reply_text r = answer_text (number r) (detail r)
