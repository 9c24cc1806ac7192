-- Every public call leaves what its row says: `nothing_touched`, `bytes_stored`. Both are read off what the calls of each driver
-- leave (`Whole` of regs/proofs/Stores.antt): the clock's is proved here, the others' in crates/master/proofs/Buffer.antt,
-- BufferCoded.antt and crates/slave/proofs/Calls.antt.
use Prim.Native.Nat.{ℕ, ◌/◌}
use native.Mathlib.Omega.{arith}
use mathlib.Core.List.{List, [], ◌++◌, append-nil}
use mathlib.Core.Path.{◌≡◌, refl, sym, ap, ◌∙◌}
use lib.Dec.{eqb, ltb}
use lib.ListN.{length, take, drop, length-append, length-take, length-drop, take-append-drop, drop_of_length-le}
use lib.Seq.{take_all, take-append_seam, drop-append_seam}
use borrow.Author.Tests.{ltb-true, ltb-false}
use Rattle.regs.specs.Program.{ends, Outcome}
use Rattle.regs.specs.Left.{bytes_read}
use Rattle.regs.specs.declared.answers.Reply.{Reply}
use Rattle.regs.proofs.Tests.{by_test}
use Rattle.regs.proofs.Stores.{Stores, writes_stores, Late, Opens, refuses, begins, Whole, whole, none, any}
use Rattle.regs.proofs.Quiet.{quiet}
use Rattle.clock_setting.specs.SetConfig.{set_config, set_counts, period, hcnt_of, lcnt_of}
use Rattle.master.specs.Calls as Master
use Rattle.master.specs.Buffer.{most_codes, DataReceived}
use Rattle.master.proofs.Buffer.{left_whole}
use Rattle.master.proofs.BufferCoded.{coded_whole, coded_received}
use Rattle.slave.proofs.Calls as Slave
use Rattle.laws.specs.Calls.{Call, clock, master, slave, State, buffer_in, kept_in, left_by}
use Rattle.laws.specs.Left.{NothingTouched, Bytes, BytesStored}

counts_quiet : (frequency clk hcnt lcnt n : ℕ) → Stores none (Late any) 0 0 [] tt (set_counts frequency clk hcnt lcnt n ends)
counts_quiet frequency clk hcnt lcnt n = search quiet depth 20

clock_opens : (frequency clk n : ℕ) → Opens none any 0 tt (set_config frequency clk n ends)
unfolding set_config
clock_opens frequency clk n =
    by_test (ltb 1000000 frequency) (λ q. rw q (refuses tt)) (λ q. rw q
    (by_test (eqb frequency 0) (λ q. rw q (refuses tt)) (λ q. rw q
    (by_test (ltb 1431655765 clk) (λ q. rw q (refuses tt)) (λ q. rw q
    (begins (writes_stores refl (counts_quiet frequency clk (hcnt_of (period frequency clk)) (lcnt_of (period frequency clk)) n))))))))

-- what is said of the answer
abbrev Told : Call → Reply → ℕ → Type 0
Told (clock frequency clk) = any
Told (master c) = any
Told (slave c) = Slave.Told c

-- a call without a packet error code
abbrev Plain : Call → Type 0
Plain (clock frequency clk) = Unit {0}
Plain (master c) = Master.Plain c
Plain (slave c) = Unit {0}

call_whole : (c : Call) → Plain c → (log readings : List ℕ) (me : State c)
    → Whole (kept_in c) (Told c) (buffer_in c) me (left_by c log readings me)
call_whole (clock frequency clk) plain log readings me =
    whole none any (λ _. tt) (λ _. tt) (clock_opens frequency clk _) (length log / 2) readings [] refl
call_whole (master c) plain log readings me = left_whole c plain log readings
call_whole (slave c) plain log readings me = Slave.call_whole c log readings me

pub nothing_touched : NothingTouched
nothing_touched (clock frequency clk) log readings me = (call_whole (clock frequency clk) tt log readings me).untouched
nothing_touched (master c) log readings me =
    by_test c.pec (λ q. (coded_whole c q log readings).untouched) (λ q. (call_whole (master c) q log readings me).untouched)
nothing_touched (slave c) log readings me = (call_whole (slave c) tt log readings me).untouched

-- ---- the bytes

plain_bytes : (c : Call) → Plain c → (log readings : List ℕ) (me : State c) → Bytes c me (left_by c log readings me)
plain_bytes c plain log readings me =
    let w = call_whole c plain log readings me in
    let s = w.stored in
    record {
      k = w.count;
      code = [];
      within = s.within;
      bytes = s.bytes ∙ ap (λ (x : List ℕ). take w.count (left_by c log readings me).buffer ++ x)
          (sym (append-nil (kept_in c (left_by c log readings me).state)));
      others = s.others;
      size = s.size;
      codes = omega arith;
      behind = λ some. absurd (some refl);
    }

-- with a packet error code: the bytes that came are those of the buffer, or those and the code
module _ (c : Master.Call) (o : Outcome (Unit {0}) Reply)
    (r : DataReceived (most_codes c) (Master.buffer_in c.lent) o) where
  abbrev before : List ℕ
  before = Master.buffer_in c.lent

  came_length : (came : List ℕ) → length (take (length before) came ++ drop (length came) before) ≡ length before
  came_length came = simp (length-append, length-take, length-drop) (omega arith)

  coded_bytes : Bytes (master c) tt o
  coded_bytes =
      let came : List ℕ = bytes_read o.log in
      let size : length o.buffer ≡ length before = ap length r.buffer ∙ came_length came in
      by_test (ltb (length before) (length came))
      (λ q. let l = ltb-true (length before) (length came) q in
      let none : drop (length came) before ≡ [] = drop_of_length-le before {i = length came} (omega arith) in
      let front : o.buffer ≡ take (length before) came =
      r.buffer ∙ (ap (λ (x : List ℕ). take (length before) came ++ x) none ∙ append-nil (take (length before) came)) in
      let all : take (length before) o.buffer ≡ take (length before) came =
      take_all (length before) o.buffer (omega (arith, size)) ∙ front in
      record {
        k = length before;
        code = drop (length before) came;
        within = omega arith;
        bytes = sym (ap (λ (x : List ℕ). x ++ drop (length before) came) all ∙ take-append-drop (length before) came);
        others = drop_of_length-le o.buffer {i = length before} (omega (arith, size))
            ∙ sym (drop_of_length-le before {i = length before} (omega arith));
        size = size;
        codes = simp length-drop (omega (arith, r.places));
        behind = λ some. refl;
      })
      (λ q. let l = ltb-false (length before) (length came) q in
      let front : o.buffer ≡ came ++ drop (length came) before =
      r.buffer ∙ ap (λ (x : List ℕ). x ++ drop (length came) before) (take_all (length before) came l) in
      record {
        k = length came;
        code = [];
        within = l;
        bytes = sym (append-nil (take (length came) o.buffer)
            ∙ (ap (take (length came)) front ∙ take-append_seam came (drop (length came) before)));
        others = ap (drop (length came)) front ∙ drop-append_seam came (drop (length came) before);
        size = size;
        codes = omega arith;
        behind = λ some. absurd (some refl);
      })

pub bytes_stored : BytesStored
bytes_stored (clock frequency clk) log readings me = plain_bytes (clock frequency clk) tt log readings me
bytes_stored (master c) log readings me =
    by_test c.pec
    (λ q. coded_bytes c _ (coded_received c q log readings))
    (λ q. plain_bytes (master c) q log readings me)
bytes_stored (slave c) log readings me = plain_bytes (slave c) tt log readings me
