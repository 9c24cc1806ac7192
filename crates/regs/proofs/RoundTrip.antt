-- The log is read back: what a run left there decodes to the entries of its outcome, and the words decode entry by entry.
use Prim.Native.Nat.{ℕ, zero, suc, ◌+◌, ◌*◌, ◌/◌, ◌%◌, ◌<◌, ◌≤◌}
use native.Mathlib.Omega.{arith}
use mathlib.Core.Bool.{Bool, true, false, ◌||◌, ◌&&◌}
use mathlib.Core.List.{List, [], ◌∷◌}
use mathlib.Core.Path.{◌≡◌, refl, ap, ◌∙◌}
use lib.Dec.{T, eqb, ltb, eqb→eq}
use lib.ListN.{length, get_or, take, drop, length-drop}
use lib.Seq.{take_at, drop-cons, get_or-take}
use borrow.Author.Tests.{ltb-true}
use Rattle.regs.specs.Registers.{Register, registers, any, can_write, legal_read, legal_write}
use Rattle.regs.specs.Program.{Outcome}
use Rattle.regs.specs.Log.{encode, decode, entry, Legal, legal_mark, Each, Leaves}
use Rattle.regs.specs.declared.answers.Reply.{Reply}
use Rattle.regs.specs.declared.access.Ran.{Ran}
use Rattle.regs.specs.declared.access.Entry.{Entry}
use Rattle.regs.specs.declared.access.Entry.TheVariants.{Read, Write, Marked}
use Rattle.regs.proofs.Refine.{length_encode}
use Rattle.regs.proofs.Table.{both_left, both_right, test_true}

abbrev bytes : List Register → Bool
bytes [] = true
bytes (r ∷ rs) = ltb r.offset 256 && bytes rs

either : {P : Type 0} (a b : Bool) → T (a || b) → (T a → P) → (T b → P) → P
either true b t l r = l tt
either false b t l r = r t

-- what the table finds by its offset is a byte
found : (o : ℕ) (f : Register → Bool)
    → ((r : Register) → T (f r) → r.offset ≡ o)
    → (rs : List Register)
    → T (bytes rs)
    → T (any f rs)
    → o < 256
found o f is [] a h = absurd h
found o f is (r ∷ rs) a h =
    either (f r) (any f rs) h
    (λ t. omega (
      arith,
      is r t,
      ltb-true r.offset 256 (test_true _ (both_left (ltb r.offset 256) (bytes rs) a)),
    ))
    (λ t. found o f is rs (both_right (ltb r.offset 256) (bytes rs) a) t)

read_byte : (r : ℕ) → T (legal_read r) → r < 256
read_byte o = found o (λ r. eqb r.offset o) (λ r. eqb→eq r.offset o) registers tt

write_byte : (r : ℕ) → T (legal_write r) → r < 256
write_byte o =
    found o (λ r. eqb r.offset o && can_write r.direction)
    (λ r t. eqb→eq r.offset o (both_left (eqb r.offset o) (can_write r.direction) t)) registers tt

mark_byte : (x : ℕ) → T (legal_mark x) → x < 256
mark_byte x h =
    either (eqb x 0) (eqb x 1) h (λ t. omega (arith, eqb→eq x 0 t)) (λ t. omega (arith, eqb→eq x 1 t))

entry_read : (r v : ℕ) → r < 256 → entry (0x100 + r) v ≡ Read r v
entry_read r v h =
    let p : (0x100 + r) / 256 ≡ 1 = omega arith in
    let q : (0x100 + r) % 256 ≡ r = omega arith in
    rw (p, q)

entry_write : (r v : ℕ) → r < 256 → entry (0x200 + r) v ≡ Write r v
entry_write r v h =
    let p : (0x200 + r) / 256 ≡ 2 = omega arith in
    let q : (0x200 + r) % 256 ≡ r = omega arith in
    rw (p, q)

entry_mark : (x v : ℕ) → x < 256 → entry (0x300 + x) v ≡ Marked x
entry_mark x v h =
    let p : (0x300 + x) / 256 ≡ 3 = omega arith in
    let q : (0x300 + x) % 256 ≡ x = omega arith in
    rw (p, q)

pub round_trip : (es : List Entry) → Each Legal es → decode (encode es) ≡ es
unfolding decode
round_trip [] h = refl
round_trip (Read r v ∷ es) h = rw (entry_read r v (read_byte r h.0), round_trip es h.1)
round_trip (Write r v ∷ es) h = rw (entry_write r v (write_byte r h.0), round_trip es h.1)
round_trip (Marked x ∷ es) h = rw (entry_mark x 0 (mark_byte x h.0), round_trip es h.1)

-- the log that a run left
pub read_back : {S : Type 0} {o : Outcome S Reply} {before after : List ℕ} {r : Ran}
    → Leaves o before after r
    → Each Legal o.log
    → decode (take (r.entries * 2) after) ≡ o.log
read_back {o = o} {before = before} l h =
    rw (
      l.entries,
      l.log,
      take_at (encode o.log) (drop (length o.log * 2) before) (length o.log * 2) (length_encode o.log),
    ) (round_trip o.log h)

-- the words from entry k on: the entry that the two words there stand for, and the rest; or nothing
pub decode_next : (words : List ℕ) (k : ℕ)
    → k < length words / 2
    → decode (drop (k * 2) words) ≡ entry (get_or words (k * 2) 0) (get_or words (k * 2 + 1) 0) ∷ decode
    (drop ((k + 1) * 2) words)
unfolding decode
decode_next words k h =
    let p : suc (k * 2) ≡ k * 2 + 1 = omega arith in
    let q : suc (k * 2 + 1) ≡ (k + 1) * 2 = omega arith in
    rw (drop-cons words (k * 2) 0 (omega arith), p, drop-cons words (k * 2 + 1) 0 (omega arith), q)

short : (words : List ℕ) → length words < 2 → decode words ≡ []
unfolding decode
short [] h = refl
short (w ∷ []) h = refl
short (w ∷ v ∷ words) h = absurd (omega arith)

pub decode_end : (words : List ℕ) (k : ℕ) → length words / 2 ≤ k → decode (drop (k * 2) words) ≡ []
decode_end words k h = short (drop (k * 2) words) (omega (arith, length-drop (k * 2) words))

-- so `entry_of` at the two words of entry k is what the log decodes to there
pub decode_at : (words : List ℕ) (k : ℕ) (e : Entry)
    → k < length words / 2
    → get_or (decode words) k e ≡ entry (get_or words (k * 2) 0) (get_or words (k * 2 + 1) 0)
unfolding decode
decode_at [] k e h = absurd (omega arith)
decode_at (w ∷ []) k e h = absurd (omega arith)
decode_at (w ∷ v ∷ words) zero e h = refl
decode_at (w ∷ v ∷ words) (suc k) e h =
    let p : suc k * 2 ≡ suc (suc (k * 2)) = omega arith in
    let q : suc (suc (k * 2)) + 1 ≡ suc (suc (k * 2 + 1)) = omega arith in
    rw (p, q) (decode_at words k e (omega arith))

-- and of the log that a run left, entry k of the outcome
pub entry_back : {S : Type 0} {o : Outcome S Reply} {before after : List ℕ} {r : Ran}
    → Leaves o before after r
    → Each Legal o.log
    → (k : ℕ) (e : Entry)
    → k < r.entries
    → entry (get_or after (k * 2) 0) (get_or after (k * 2 + 1) 0) ≡ get_or o.log k e
entry_back {o = o} {before = before} {after = after} {r = r} l h k e within =
    let n : length (encode o.log) ≡ r.entries * 2 = omega (arith, length_encode o.log, l.entries) in
    let t : take (r.entries * 2) after ≡ encode o.log =
    rw l.log (take_at (encode o.log) (drop (length o.log * 2) before) (r.entries * 2) n) in
    let long : length (take (r.entries * 2) after) ≡ r.entries * 2 = ap length t ∙ n in
    let at : get_or (decode (take (r.entries * 2) after)) k e
    ≡ entry (get_or (take (r.entries * 2) after) (k * 2) 0) (get_or (take (r.entries * 2) after) (k * 2 + 1) 0) =
    decode_at (take (r.entries * 2) after) k e (omega arith)
    in
    rw (
      ← read_back l h,
      at,
      get_or-take (r.entries * 2) after (k * 2) 0 (omega arith),
      get_or-take (r.entries * 2) after (k * 2 + 1) 0 (omega arith),
    )
