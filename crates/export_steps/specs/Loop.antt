-- What a caller's loop over the exported steps leaves: the accesses, the buffer, number and detail of the form's call.
use Rattle.std.specs.Prelude.{ℕ, zero, suc, ◌/◌, ◌^◌, ◌<◌, Bool, true, false, List, [], ◌∷◌, ◌≡◌, length}
use Rattle.regs.specs.Program.{Outcome}
use Rattle.regs.specs.Log.{Each, expected}
use Rattle.regs.specs.Answers as Answers
use Rattle.regs.specs.declared.access.Entry.{Entry}
use Rattle.regs.specs.declared.access.Entry.TheVariants.{Read, Write, Marked}
use Rattle.regs.specs.declared.answers.Reply.{Reply}
use Rattle.export_steps.specs.Forms.{program_by}
use Rattle.export_steps.specs.Inner.Steps.{Holding, Starts, Tells, Moves, Stores}
use Rattle.export_steps.specs.declared.Access.{Access}

-- what a loop leaves: the accesses that it made, with what was read, its read buffer, number and detail
pub record Left : Type 0 where
  pub log : List Entry
  pub buffer : List ℕ
  pub number : ℕ
  pub detail : ℕ

abbrev pub left : List ℕ → ℕ → ℕ → Left
left buffer number detail = record { log = []; buffer = buffer; number = number; detail = detail }

abbrev pub after : Entry → Left → Left
after e l = record { log = e ∷ l.log; buffer = l.buffer; number = l.number; detail = l.detail }

-- The loop, plain or with a packet error code (`pec`), with kinds, lengths and write buffer the same in each step:
-- `Loop room readings held buffer l`, with room for so many accesses more, from what is held (the words, and with a packet
-- error code its two bytes) and a read buffer, leaves l. It asks what is told of that. Kind 0 is the end, with number and
-- detail. Without room it stops, which a call answers by 19. Kind 1 is a read, which takes the next reading; where none is
-- left it stops, which a call answers by 18. Kind 2 is a write, kind 3 a mark. After an access it goes on with what was read,
-- 0 where nothing was, by `celadonsaw_step` or `celadonsaw_advance`, or those that end in `_pec`. There is no other kind: a
-- loop that is told one may leave anything, and so none is told where all that a loop leaves is known.
module _ (pec : Bool) (kinds lengths bytes : List ℕ) where
  pub data Loop : ℕ → List ℕ → Holding pec → List ℕ → Left → Type 0 where
    at_end :
        {room : ℕ} {readings buffer : List ℕ} {held : Holding pec} {a : Access}
        → Tells pec held bytes a
        →
        a.kind ≡ 0 →
        Loop room readings held buffer (left buffer a.number a.value)
    no_room :
        {readings buffer : List ℕ} {held : Holding pec} {a : Access}
        → Tells pec held bytes a
        →
        0 < a.kind →
        Loop zero readings held buffer (left buffer 19 0)
    no_reading :
        {room : ℕ} {buffer : List ℕ} {held : Holding pec} {a : Access}
        → Tells pec held bytes a
        →
        a.kind ≡ 1 →
        Loop (suc room) [] held buffer (left buffer 18 0)
    reads :
        {room v : ℕ} {readings buffer buffer' : List ℕ} {held held' : Holding pec} {a : Access} {l : Left}
        → Tells pec held bytes a
        →
        a.kind ≡ 1 →
        Moves pec kinds lengths bytes held v held' →
        Stores pec held v buffer buffer' →
        Loop room readings held' buffer' l →
        Loop (suc room) (v ∷ readings) held buffer (after (Read a.register v) l)
    writes :
        {room : ℕ} {readings buffer buffer' : List ℕ} {held held' : Holding pec} {a : Access} {l : Left}
        → Tells pec held bytes a
        →
        a.kind ≡ 2 →
        Moves pec kinds lengths bytes held 0 held' →
        Stores pec held 0 buffer buffer' →
        Loop room readings held' buffer' l →
        Loop (suc room) readings held buffer (after (Write a.register a.value) l)
    marks :
        {room : ℕ} {readings buffer buffer' : List ℕ} {held held' : Holding pec} {a : Access} {l : Left}
        → Tells pec held bytes a
        →
        a.kind ≡ 3 →
        Moves pec kinds lengths bytes held 0 held' →
        Stores pec held 0 buffer buffer' →
        Loop room readings held' buffer' l →
        Loop (suc room) readings held buffer (after (Marked a.register) l)
    unknown :
        {room : ℕ} {readings buffer : List ℕ} {held : Holding pec} {a : Access} {l : Left}
        → Tells pec held bytes a
        →
        3 < a.kind →
        Loop room readings held buffer l

-- the same of what a call is to leave
abbrev pub told : {K : Type 0} → Outcome K Reply → Left
told o = record {
  log = o.log;
  buffer = o.buffer;
  number = Answers.number o.answer;
  detail = Answers.detail o.answer;
}

-- Any form, address, kinds and lengths, over any readings and with the room of any log: a loop from what `celadonsaw_start`
-- or `celadonsaw_start_pec` left leaves what the form's call is to leave. Of the caller it asks that `written` and `room`
-- were the lengths of the write and the read buffer that each step is lent, and, where they are in a code, that the bytes
-- to write are bytes.
abbrev pub LoopAsCalled : Type 0
LoopAsCalled = (pec : Bool) (form address : ℕ) (kinds lengths bytes buffer readings log : List ℕ) (held : Holding pec) (l : Left)
    → (pec ≡ true → Each (λ b. b < 2 ^ 8) bytes)
    → Starts pec form address kinds lengths (length bytes) (length buffer) held
    → Loop pec kinds lengths bytes (length log / 2) readings held buffer l
    → l ≡ told (expected (program_by pec form address kinds lengths bytes buffer) log readings buffer tt)

-- what some loop leaves
pub record Ran (pec : Bool) (kinds lengths bytes : List ℕ) (room : ℕ) (readings : List ℕ) (held : Holding pec) (buffer : List ℕ)
    : Type 0 where
  pub leaves : Left
  pub loop : Loop pec kinds lengths bytes room readings held buffer leaves

-- what the type `&mut [u64; 20]` holds, and beside it `&mut [u8; 2]`
abbrev pub HeldWords : List ℕ → Type 0
HeldWords words = (length words ≡ 20) × Each (λ w. w < 2 ^ 64) words

abbrev pub HeldCode : List ℕ → Type 0
HeldCode code = (length code ≡ 2) × Each (λ b. b < 2 ^ 8) code

abbrev pub IsHeld : (pec : Bool) → Holding pec → Type 0
IsHeld false words = HeldWords words
IsHeld true held = HeldWords held.0 × HeldCode held.1

-- Let `next` give what `celadonsaw_step` or `celadonsaw_advance`, or those that end in `_pec`, leave after what is held and a
-- reading of 32 bits, as their contracts say. Then from anything held and any buffer there is a loop, over any such readings:
-- `LoopAsCalled` speaks of every caller.
abbrev pub EveryLoop : Type 0
EveryLoop = (pec : Bool) (kinds lengths bytes : List ℕ) (next : Holding pec → ℕ → Holding pec)
    → ((held : Holding pec) (v : ℕ) → IsHeld pec held → v < 2 ^ 32
    → IsHeld pec (next held v) × Moves pec kinds lengths bytes held v (next held v))
    → (room : ℕ) (readings : List ℕ) (held : Holding pec) (buffer : List ℕ)
    → IsHeld pec held
    → Each (λ v. v < 2 ^ 32) readings
    → Ran pec kinds lengths bytes room readings held buffer
