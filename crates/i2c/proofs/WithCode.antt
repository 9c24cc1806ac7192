-- A transfer with a packet error code: the machine's run with 0 for the code, settled by its last access to DATA_CMD,
-- leaves the outcome of the coded transfer. By `coded_transfer`, `settles_each` and `settle_leaves`.
use Prim.Native.Nat.{ℕ, zero, suc, ◌+◌, ◌*◌, ◌/◌, ◌<◌, ◌≤◌}
use native.Mathlib.Nat.{add-zero}
use native.Mathlib.Omega.{arith}
use mathlib.Core.Bool.{Bool, true, ◌&&◌, ◌||◌}
use mathlib.Core.List.{List, [], ◌∷◌}
use mathlib.Core.Path.{◌≡◌, refl, sym, ap, subst, ◌∙◌}
use lib.Dec.{eqb, leb}
use lib.ListN.{length, get_or, take, drop, length-append}
use lib.Seq.{take-length}
use borrow.Author.Tests.{eqb-true, eq-eqb}
use Rattle.regs.specs.Program.{Outcome}
use Rattle.regs.specs.Log.{Each, encode, expected, LeavesBuffer}
use Rattle.regs.specs.Watched.{watched}
use Rattle.regs.specs.Inner.Machine.{final, ran}
use Rattle.regs.specs.declared.access.Ran.{Ran}
use Rattle.regs.specs.declared.answers.Answer.{Answer}
use Rattle.regs.specs.declared.answers.Reply.{Reply}
use Rattle.regs.proofs.Refine.{leaves_buffer, length_encode}
use Rattle.regs.proofs.Tests.{by_test}
use Rattle.master.specs.Driver.{Driver, reason_of}
use Rattle.master.specs.Transfer.{within}
use Rattle.master.specs.Operations.{Operation, writes, reads, listed, lists, total, known, fits, READ, WRITE}
use Rattle.master.specs.Coded.{code_of, with_code, room_of, coder, longer_transfer}
use Rattle.master.specs.CodedLaws.{Small}
use Rattle.master.specs.Inner.Settled.{LastData, none, got, put, last_data, settled_by}
use Rattle.master.proofs.Accesses.{longer_access_legal}
use Rattle.master.proofs.Settles.{settles_each}
use Rattle.transfer_code.specs.Inner.Settling.{Settled}
use Rattle.transfer_code.proofs.Settling.{settle_leaves}
use Rattle.transfer.specs.Inner.Points.{mode_of}
use Rattle.transfer.specs.Inner.Machine.{machine, started}
use Rattle.transfer.specs.declared.Transfer.{Transfer}
use Rattle.transfer.specs.declared.Mode.{Mode}
use Rattle.i2c.proofs.Basics.{first, second}
use Rattle.i2c.proofs.Listed.{is_read, not_read}
use Rattle.i2c.proofs.CodedTransfers.{coded_transfer}

-- ---- what is listed

room_listed : (kinds lengths bytes : List ℕ) → known kinds ≡ true → room_of (listed kinds lengths bytes) ≡ total READ kinds lengths
unfolding listed room_of total known
room_listed [] lengths bytes q = refl
room_listed (kind ∷ kinds) [] bytes q = refl
room_listed (kind ∷ kinds) (n ∷ lengths) bytes q =
    let this = first (eqb kind READ || eqb kind WRITE) (known kinds) q in
    let rest = second (eqb kind READ || eqb kind WRITE) (known kinds) q in
    by_test (eqb kind WRITE)
    (λ w. rw (w, not_read kind w) (room_listed kinds lengths (drop n bytes) rest))
    (λ w. rw (w, is_read kind this w) (ap (λ (x : ℕ). n + x) (room_listed kinds lengths bytes rest)))

-- the lengths of the reads add up to the lent buffer
listed_room : (kinds lengths bytes : List ℕ) (room : ℕ) → lists kinds lengths (length bytes) room ≡ true
    → room ≡ room_of (listed kinds lengths bytes)
listed_room kinds lengths bytes room q =
    let q₁ = second (eqb (length kinds) (length lengths)) _ q in
    let q₂ = second (leb (length kinds) 64) _ q₁ in
    let q₃ = second (known kinds) _ q₂ in
    let q₄ = second (eqb (total WRITE kinds lengths) (length bytes)) _ q₃ in
    sym (room_listed kinds lengths bytes (first (known kinds) _ q₂)
    ∙ eqb-true (total READ kinds lengths) room (first _ (fits (length bytes) && fits room) q₄))

-- what is written are bytes
each_small : (bytes : List ℕ) → ((i : ℕ) → get_or bytes i 0 < 256) → Each (λ b. b < 256) bytes
each_small [] h = tt
each_small (b ∷ bytes) h = (h 0, each_small bytes (λ i. h (suc i)))

small_drop : (n : ℕ) (bytes : List ℕ) → Each (λ b. b < 256) bytes → Each (λ b. b < 256) (drop n bytes)
small_drop zero bytes h = h
small_drop (suc n) [] h = tt
small_drop (suc n) (b ∷ bytes) h = small_drop n bytes h.1

small_take : (n : ℕ) (bytes : List ℕ) → Each (λ b. b < 256) bytes → Each (λ b. b < 256) (take n bytes)
small_take zero bytes h = tt
small_take (suc n) [] h = tt
small_take (suc n) (b ∷ bytes) h = (h.0, small_take n bytes h.1)

small_listed : (kinds lengths bytes : List ℕ) → Each (λ b. b < 256) bytes → Each Small (listed kinds lengths bytes)
unfolding listed
small_listed [] lengths bytes h = tt
small_listed (kind ∷ kinds) [] bytes h = tt
small_listed (kind ∷ kinds) (n ∷ lengths) bytes h =
    by_test (eqb kind WRITE)
    (λ w. rw w (small_take n bytes h, small_listed kinds lengths (drop n bytes) (small_drop n bytes h)))
    (λ w. rw w (tt, small_listed kinds lengths bytes h))

-- ---- the run and its code

-- the code changes nothing of the buffer
same_buffer : (c : ℕ) (d : LastData) (o : Outcome (Unit {0}) Reply) → (settled_by c d o).buffer ≡ o.buffer
same_buffer c none o = refl
same_buffer c (got v) o = refl
same_buffer c (put w) o = refl

module _ (mode : Mode) (restart : Bool) (address : ℕ) (kinds lengths write readings before log b₀ b : List ℕ)
    {from : Ran} {t : Transfer}
    (q : lists kinds lengths (length write) (length b₀) ≡ true)
    (et : t ≡ started mode restart address kinds)
    (e : final from.reply from.entries from.used log b tt
    ≡ ran (machine true kinds lengths write) readings (length before / 2) t 0 0 before b₀)
  where
    abbrev os : List (Operation ℕ)
    os = listed kinds lengths write

    abbrev longer_one : Driver Answer
    longer_one = longer_transfer reason_of (mode_of mode) restart address (with_code 0 os)

    -- the run with 0 for the code
    left : LeavesBuffer (expected longer_one before readings b₀ tt) before log b from
    left = leaves_buffer (machine true kinds lengths write) t longer_one readings before log b₀ b tt from
        (λ m n h. rw et (coded_transfer mode restart address kinds lengths write (length b₀) q m n h b₀)) e

    -- its entries stand in the log
    pub entries_fit : from.entries * 2 ≤ length log
    entries_fit =
        let o = expected longer_one before readings b₀ tt in
        omega (
          arith,
          left.ran.entries,
          ap (λ (l : List ℕ). length l) left.ran.log ∙ length-append (encode o.log) (drop (length o.log * 2) before),
          length_encode o.log,
        )

    pub coded_leaves : {to : Ran} {after : List ℕ} → ((i : ℕ) → get_or write i 0 < 256)
        → Settled (code_of address os b) from log to after
        → LeavesBuffer (expected (watched (coder address os) longer_one) before readings b₀ tt) before after b to
    coded_leaves {to} {after} small s =
        let o = expected longer_one before readings b₀ tt in
        subst (λ (p : Outcome (Unit {0}) Reply). LeavesBuffer p before after b to)
        (sym (settles_each (mode_of mode) restart address os before readings b₀
        (small_listed kinds lengths write (each_small write small)) (listed_room kinds lengths write (length b₀) q)))
        (record {
          ran = settle_leaves address os (longer_access_legal (mode_of mode) restart address (with_code 0 os) before readings b₀ tt)
              left.ran left.buffer s;
          buffer = left.buffer ∙ sym (same_buffer (code_of address os o.buffer) (last_data o.log) o);
        })

-- ---- the four forms

-- the operations of a read, of a write and of both, as they are listed
pub read_listed : (n : ℕ) → listed {B = ℕ} (0 ∷ []) (n ∷ []) [] ≡ reads n ∷ []
unfolding listed
read_listed n = refl

pub write_listed : (bytes : List ℕ) → listed (1 ∷ []) (length bytes ∷ []) bytes ≡ writes bytes ∷ []
unfolding listed
write_listed bytes = rw (take-length bytes)

pub both_listed : (bytes : List ℕ) (n : ℕ) → listed (1 ∷ 0 ∷ []) (length bytes ∷ n ∷ []) bytes ≡ writes bytes ∷ reads n ∷ []
unfolding listed
both_listed bytes n = rw (take-length bytes)

-- and they are within the limits
pub read_lists : (n : ℕ) → fits n ≡ true → lists (0 ∷ []) (n ∷ []) 0 n ≡ true
unfolding total known
read_lists n q = rw (add-zero n, eq-eqb n n refl, q)

pub write_lists : (n : ℕ) → fits n ≡ true → lists (1 ∷ []) (n ∷ []) n 0 ≡ true
unfolding total known
write_lists n q = rw (add-zero n, eq-eqb n n refl, q)

pub both_lists : (m n : ℕ) → (fits m && fits n) ≡ true → lists (1 ∷ 0 ∷ []) (m ∷ n ∷ []) m n ≡ true
unfolding total known
both_lists m n q = rw (add-zero m, add-zero n, eq-eqb m m refl, eq-eqb n n refl, q)

-- the transfer with its code is the call, where what is lent keeps to the limits
pub form_leaves : (mode : Mode) (restart : Bool) (address : ℕ) {os os' : List (Operation ℕ)} (readings before b₀ : List ℕ)
    {after b : List ℕ} {r : Ran} (limits : Bool) → limits ≡ true → os ≡ os'
    → LeavesBuffer
    (expected (watched (coder address os) (longer_transfer reason_of (mode_of mode) restart address (with_code 0 os)))
    before readings b₀ tt)
    before after b r
    → LeavesBuffer
    (expected (within limits
    (watched (coder address os') (longer_transfer reason_of (mode_of mode) restart address (with_code 0 os'))))
    before readings b₀ tt)
    before after b r
form_leaves mode restart address readings before b₀ limits q e h = rw (q, ← e) h
