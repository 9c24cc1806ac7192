-- A caller's loop over the exported steps leaves what the form's call is to leave. It rests on `Driven` (a step on the words
-- is the step of the transfer) and on `steps_are_called` (the transfer's steps are the call).
use Prim.Native.Nat.{ℕ, zero, suc, ◌<◌}
use native.Mathlib.Omega.{arith}
use mathlib.Core.Bool.{Bool, true, false}
use mathlib.Core.List.{List}
use mathlib.Core.Path.{◌≡◌, refl, ap, ◌∙◌}
use lib.ListN.{length}
use Rattle.regs.specs.Steps.{stepped, without_room, with_room}
use Rattle.regs.specs.Program.{just}
use Rattle.regs.specs.Answers as Answers
use Rattle.regs.specs.Steps.{Machine, stored_in}
use Rattle.regs.specs.Inner.Summed.{sum_after, summed_machine}
use Rattle.regs.specs.declared.answers.Answer.{Answer}
use Rattle.regs.specs.declared.answers.Reply.TheVariants.{Answered}
use Rattle.regs.specs.declared.access.Next.{Next}
use Rattle.regs.specs.declared.access.Next.TheVariants.{Read, Write, Mark, Finished}
use Rattle.regs.specs.declared.access.Entry.TheVariants as E
use Rattle.master.specs.Inner.Running.{Sum, fresh, running}
use Rattle.transfer.specs.Inner.Machine.{machine, next_of, advance_of, store_of}
use Rattle.transfer.specs.declared.Transfer.{Transfer}
use Rattle.words_points.specs.Held.{held_of, advanced_held, store_held}
use Rattle.words.specs.Inner.Words.{held_at}
use Rattle.words_code.specs.Inner.Code.{sum_in}
use Rattle.export_steps.specs.Inner.Steps.{ended, access_of, access_held, first_of, told_by, sum_held}
use Rattle.export_steps.specs.Inner.Steps.{Holding, Tells, Advances, Moves, Stores}
use Rattle.export_steps.specs.Loop.{Left, left, after, told, LoopAsCalled}
use Rattle.export_steps.specs.Loop.{Loop, at_end, no_room, no_reading, reads, writes, marks, unknown}
use Rattle.export_steps.specs.declared.Access.{Access}
use Rattle.export_steps.proofs.Driven.{same_access, same_advance, same_store}
use Rattle.export_steps.proofs.Told.{same_told, same_sum, same_address, first_address}
use Rattle.export_steps.proofs.Forms.{steps_are_called}

-- ---- the access that a kind tells

abbrev kind_of : Access → ℕ
kind_of a = a.kind

record Ends (n : Next) (a : Access) : Type 0 where
  answer : Answer
  is : n ≡ Finished answer
  number : a.number ≡ Answers.number (Answered answer)
  detail : a.value ≡ Answers.detail (Answered answer)

told_end : (n : Next) {a : Access} → a ≡ access_of n → a.kind ≡ 0 → Ends n a
unfolding access_of ended
told_end (Read r) e k = absurd (omega (arith, ap kind_of e))
told_end (Write r v) e k = absurd (omega (arith, ap kind_of e))
told_end (Mark x) e k = absurd (omega (arith, ap kind_of e))
told_end (Finished answer) e k = record {
  answer = answer;
  is = refl;
  number = ap (λ (x : Access). x.number) e;
  detail = ap (λ (x : Access). x.value) e;
}

told_read : (n : Next) {a : Access} → a ≡ access_of n → a.kind ≡ 1 → n ≡ Read a.register
unfolding access_of ended
told_read (Read r) e k = rw e
told_read (Write r v) e k = absurd (omega (arith, ap kind_of e))
told_read (Mark x) e k = absurd (omega (arith, ap kind_of e))
told_read (Finished answer) e k = absurd (omega (arith, ap kind_of e))

told_write : (n : Next) {a : Access} → a ≡ access_of n → a.kind ≡ 2 → n ≡ Write a.register a.value
unfolding access_of ended
told_write (Read r) e k = absurd (omega (arith, ap kind_of e))
told_write (Write r v) e k = rw e
told_write (Mark x) e k = absurd (omega (arith, ap kind_of e))
told_write (Finished answer) e k = absurd (omega (arith, ap kind_of e))

told_mark : (n : Next) {a : Access} → a ≡ access_of n → a.kind ≡ 3 → n ≡ Mark a.register
unfolding access_of ended
told_mark (Read r) e k = absurd (omega (arith, ap kind_of e))
told_mark (Write r v) e k = absurd (omega (arith, ap kind_of e))
told_mark (Mark x) e k = rw e
told_mark (Finished answer) e k = absurd (omega (arith, ap kind_of e))

told_unknown : (n : Next) {a : Access} → a ≡ access_of n → 3 < a.kind → ⊥
unfolding access_of ended
told_unknown (Read r) e k = omega (arith, ap kind_of e)
told_unknown (Write r v) e k = omega (arith, ap kind_of e)
told_unknown (Mark x) e k = omega (arith, ap kind_of e)
told_unknown (Finished answer) e k = omega (arith, ap kind_of e)

-- without room an access that is not the end is not made
told_full : {K : Type 0} (n : Next) {a : Access} (buffer : List ℕ) (me : K) → a ≡ access_of n → 0 < a.kind
    → left buffer 19 0 ≡ told (without_room n buffer me)
unfolding access_of ended without_room
told_full (Read r) buffer me e k = refl
told_full (Write r v) buffer me e k = refl
told_full (Mark x) buffer me e k = refl
told_full (Finished answer) buffer me e k = absurd (omega (arith, ap kind_of e))

-- ---- the loop

-- over any machine that does what is told of, led to and stored by what is held: `Same` says which point is held
module _ (pec : Bool) (kinds lengths bytes : List ℕ) (M : Machine) (Same : Holding pec → M.S → Type 0)
    (tells : (held : Holding pec) (s : M.S) (a : Access) → Same held s → Tells pec held bytes a → a ≡ access_of (M.next s))
    (moves : (held held' : Holding pec) (s : M.S) (v : ℕ) → Same held s → Moves pec kinds lengths bytes held v held'
    → Same held' (M.advance s v))
    (keeps : (held : Holding pec) (s : M.S) (v : ℕ) (buffer buffer' : List ℕ) → Same held s → Stores pec held v buffer buffer'
    → buffer' ≡ stored_in buffer (M.store s v))
  where
    at_finish : (s : M.S) (room : ℕ) (readings buffer : List ℕ) {answer : Answer}
        → M.next s ≡ Finished answer
        → stepped M room s readings buffer ≡ just (Answered answer) buffer (M.state s)
    unfolding stepped without_room with_room
    at_finish s zero readings buffer i = rw i
    at_finish s (suc room) readings buffer i = rw i

    finishes : (s : M.S) (room : ℕ) (readings buffer : List ℕ) {a : Access} → Ends (M.next s) a
        → left buffer a.number a.value ≡ told (stepped M room s readings buffer)
    finishes s room readings buffer end = rw (at_finish s room readings buffer end.is, end.number, end.detail)

    looped : (s : M.S) {room : ℕ} {readings : List ℕ} {held : Holding pec} {buffer : List ℕ} {l : Left}
        → Same held s
        → Loop pec kinds lengths bytes room readings held buffer l
        → l ≡ told (stepped M room s readings buffer)
    unfolding stepped with_room
    looped s {room} {readings} {held} {buffer} h (at_end {a = a} e k) =
        finishes s room readings buffer (told_end (M.next s) (tells held s a h e) k)
    looped s {held = held} {buffer = buffer} h (no_room {a = a} e k) = told_full (M.next s) buffer (M.state s) (tells held s a h e) k
    looped s {held = held} h (no_reading {a = a} e k) = rw (told_read (M.next s) (tells held s a h e) k)
    looped s {held = held} {buffer = buffer} h (reads {v = v} {buffer' = buffer'} {held' = held'} {a = a} e k moved stored rest) =
        rw (told_read (M.next s) (tells held s a h e) k, ← (keeps held s v buffer buffer' h stored))
        (ap (after (E.Read a.register v)) (looped (M.advance s v) (moves held held' s v h moved) rest))
    looped s {held = held} {buffer = buffer} h (writes {buffer' = buffer'} {held' = held'} {a = a} e k moved stored rest) =
        rw (told_write (M.next s) (tells held s a h e) k, ← (keeps held s 0 buffer buffer' h stored))
        (ap (after (E.Write a.register a.value)) (looped (M.advance s 0) (moves held held' s 0 h moved) rest))
    looped s {held = held} {buffer = buffer} h (marks {buffer' = buffer'} {held' = held'} {a = a} e k moved stored rest) =
        rw (told_mark (M.next s) (tells held s a h e) k, ← (keeps held s 0 buffer buffer' h stored))
        (ap (after (E.Marked a.register)) (looped (M.advance s 0) (moves held held' s 0 h moved) rest))
    looped s {held = held} h (unknown {a = a} e k) = absurd (told_unknown (M.next s) (tells held s a h e) k)

-- ---- what is held

-- what the words lead to and store is what the transfer does
module _ (words : List ℕ) (t : Transfer) (v : ℕ) (h : held_at words ≡ held_of t) where
  words_move : (coded : Bool) (kinds lengths words' : List ℕ) → Advances coded kinds lengths words v words'
      → held_at words' ≡ held_of (advance_of coded kinds lengths t v)
  words_move coded kinds lengths words' moved =
      moved ∙ ap (λ x. advanced_held coded kinds lengths x v) h ∙ same_advance coded kinds lengths t v

  words_keep : (buffer buffer' : List ℕ) → buffer' ≡ stored_in buffer (store_held (held_at words) v)
      → buffer' ≡ stored_in buffer (store_of t v)
  words_keep buffer buffer' stored =
      stored ∙ ap (λ x. stored_in buffer (store_held x v)) h ∙ ap (stored_in buffer) (same_store t v)

-- with a packet error code: the words hold the transfer, and the code is beside them
record Beside (address : ℕ) (held : List ℕ × List ℕ) (p : Sum × Transfer) : Type 0 where
  words : held_at held.0 ≡ held_of p.1
  code : sum_in held.1 ≡ p.0
  same : p.1.address ≡ address

module _ (address : ℕ) (kinds lengths bytes : List ℕ) where
  abbrev M : Machine
  M = summed_machine (running address) (machine true kinds lengths bytes)

  code_tells : (held : List ℕ × List ℕ) (p : Sum × Transfer) (a : Access) → Beside address held p → Tells true held bytes a
      → a ≡ access_of (M.next p)
  code_tells held p a b e =
      e ∙ ap (λ x. told_by x (access_held bytes (held_at held.0))) b.code
      ∙ ap (λ x. told_by p.0 (access_held bytes x)) b.words ∙ same_told address p.0 bytes p.1

  code_moves : (held held' : List ℕ × List ℕ) (p : Sum × Transfer) (v : ℕ) → Beside address held p
      → Moves true kinds lengths bytes held v held'
      → Beside address held' (M.advance p v)
  code_moves held held' p v b moved = record {
    words = words_move held.0 p.1 v b.words true kinds lengths held'.0 moved.0;
    code =
        moved.1 ∙ ap (λ x. sum_held bytes (held_at held.0) x v) b.code
        ∙ ap (λ x. sum_held bytes x p.0 v) b.words ∙ same_sum bytes p.0 p.1 v
        ∙ ap (λ (x : ℕ). sum_after (running x) p.0 (next_of bytes p.1) v) b.same;
    same = same_address true kinds lengths p.1 v ∙ b.same;
  }

pub loop_as_called : LoopAsCalled
loop_as_called false form address kinds lengths bytes buffer readings log words l small starts loop =
    looped false kinds lengths bytes (machine false kinds lengths bytes) (λ words t. held_at words ≡ held_of t)
    (λ words t a h e. e ∙ ap (access_held bytes) h ∙ same_access bytes t)
    (λ words words' t v h moved. words_move words t v h false kinds lengths words' moved)
    (λ words t v buffer buffer' h stored. words_keep words t v h buffer buffer' stored)
    (first_of form address kinds lengths _ _) starts loop
    ∙ ap told (steps_are_called false form address kinds lengths bytes buffer readings log small)
loop_as_called true form address kinds lengths bytes buffer readings log held l small starts loop =
    looped true kinds lengths bytes (M address kinds lengths bytes) (Beside address) (code_tells address kinds lengths bytes)
    (code_moves address kinds lengths bytes)
    (λ held p v buffer buffer' b stored. words_keep held.0 p.1 v b.words buffer buffer' stored)
    (fresh, first_of form address kinds lengths _ _)
    (record {
      words = starts.0;
      code = starts.1;
      same = first_address form address kinds lengths (length bytes) (length buffer);
    })
    loop
    ∙ ap told (steps_are_called true form address kinds lengths bytes buffer readings log small)
