-- A coded transfer while it runs: watched by a running CRC-8 it leaves what the coded transfer does, `Runs` of
-- specs/Inner/Running.antt; and a machine that carries the sum is stepped so. It rests on RunningCode.antt.
use Prim.Native.Nat.{ℕ, zero, suc, ◌≤◌}
use native.Mathlib.Omega.{arith}
use mathlib.Core.Bool.{Bool, true, false, not, ◌&&◌}
use mathlib.Core.List.{List, [], ◌∷◌, ◌++◌, append-nil}
use mathlib.Core.Path.{◌≡◌, refl, sym, ap, ◌∙◌}
use lib.Dec.{eqb, ltb}
use lib.ListN.{length, set, length-set}
use borrow.Author.Tests.{le-ltb}
use Rattle.crc8.specs.Crc8.{crc8}
use Rattle.regs.specs.declared.access.Entry.{Entry}
use Rattle.regs.specs.declared.access.Entry.TheVariants.{Read, Write, Marked}
use Rattle.regs.specs.declared.answers.Answer.{Answer}
use Rattle.regs.specs.declared.answers.Answer.TheVariants.{Accepted}
use Rattle.regs.specs.declared.answers.Reply.TheVariants.{Answered}
use Rattle.regs.specs.Registers.{DATA_CMD}
use Rattle.regs.specs.Fields.{command_word, cmd, stop, dat}
use Rattle.regs.specs.Left.{bytes_read}
use Rattle.regs.specs.Program as P
use Rattle.regs.specs.Program.{Program, outcome, just, logged}
use Rattle.std.specs.Prelude.{if◌then◌else◌}
use Rattle.regs.specs.Steps.{Machine, SteppedAs}
use Rattle.regs.specs.Watched.{watched_from, watched}
use Rattle.regs.specs.Inner.Summed.{summed_machine, SumOf}
use Rattle.regs.proofs.Refine.{Agree}
use Rattle.regs.proofs.Summed.{summed_stepped}
use Rattle.regs.proofs.Watched.{set_beyond}
use Rattle.master.specs.Operations.{Operation, writes, reads, READ, WRITE, operations_of}
use Rattle.master.specs.Coded.{code_of, room_of, ends_in_read, tested, coder, restarts}
use Rattle.master.specs.Inner.Running.{Sum, fresh, with_byte, feed, fed, runner, running, Runs}
use Rattle.master.proofs.Emits.{Does, after}
use Rattle.master.proofs.AlikeLeft.{bytes_append}
use Rattle.master.proofs.MessageFrom.{message_is}
use Rattle.master.proofs.Spells.{ToCome, data_and_code, nothing, to_come, Spells, refused_spells, accepted_spells}
use Rattle.master.proofs.Spells.{reads_spells, writes_spells, asks_spells, marks_spells, cut_spells, byte_read, code_read}
use Rattle.master.proofs.Spells.{byte_written, code_written, read_over, write_over}
use Rattle.master.proofs.SpellsParts.{spells_longer}
use Rattle.master.proofs.RunningCode.{byte_dat, byte_cmd, byte_stop, code_dat, code_cmd, asks_only, fed_more}
use Rattle.master.proofs.RunningCode.{Agrees, got_byte, put_byte, over_read, over_write, due, put_code, got_code}
use Rattle.master.proofs.RunningCode.{has_place, no_place}

module _ (address : ℕ) where
  pub runner_sums : SumOf (running address) fresh (fed address fresh) (runner address)
  unfolding fed
  runner_sums = record {
    none = refl;
    more = fed_more address fresh;
    value = λ log r w. refl;
    told = λ log a. refl;
    places = λ i. refl;
  }

  -- so a machine that agrees with a program is stepped, with the running code, as the program watched by `runner`
  pub running_stepped : (M : Machine) (p : Program M.K Answer Answer) (start : M.K → M.S)
      → ((z : M.K) (b : List ℕ) (m n : ℕ) → m ≤ n → Agree M m (start z) b b z (p n P.ends))
      → SteppedAs (summed_machine (running address) M) (λ z. (fresh, start z)) (watched (runner address) p)
  running_stepped M p start agrees =
      summed_stepped (running address) fresh (fed address fresh) (runner address) runner_sums M p start agrees

  module _ (os : List (Operation ℕ)) where
    -- ---- both runs, with this log before them

    abbrev by_sum : List Entry → Does → Does
    by_sum seen t = watched_from (runner address) P.ends seen t

    abbrev by_code : List Entry → Does → Does
    by_code seen t = watched_from (coder address os) P.ends seen t

    abbrev Now : ToCome → ℕ → List Entry → Type 0
    Now c i seen = Agrees address os c i (fed address fresh seen) (bytes_read seen)

    -- after one more access
    next : (c : ToCome) (i : ℕ) (seen : List Entry) (e : Entry) {s : Sum} {got : List ℕ}
        → feed address (fed address fresh seen) e ≡ s
        → bytes_read seen ++ bytes_read (e ∷ []) ≡ got
        → Agrees address os c i s got
        → Now c i (seen ++ e ∷ [])
    next c i seen e p q h = rw (fed_more address fresh seen e ∙ p, bytes_append seen (e ∷ []) ∙ q) h

    -- after an access that is none to data
    other_read : (c : ToCome) (i : ℕ) (seen : List Entry) (r v : ℕ) → eqb r DATA_CMD ≡ false
        → Now c i seen
        → Now c i (seen ++ Read r v ∷ [])
    other_read c i seen r v q h =
        next c i seen (Read r v)
        (ap (λ (z : Bool). if z then with_byte address (fed address fresh seen) READ (dat v) else fed address fresh seen) q)
        (ap (λ (z : Bool). bytes_read seen ++ (if z then dat v ∷ [] else [])) q ∙ append-nil (bytes_read seen)) h

    other_write : (c : ToCome) (i : ℕ) (seen : List Entry) (r w : ℕ) → eqb r DATA_CMD && not (cmd w) ≡ false
        → Now c i seen
        → Now c i (seen ++ Write r w ∷ [])
    other_write c i seen r w q h =
        next c i seen (Write r w)
        (ap (λ (z : Bool). if z then with_byte address (fed address fresh seen) WRITE (dat w) else fed address fresh seen) q)
        (append-nil (bytes_read seen)) h

    -- after a byte that was written by a word w
    data_write : (c : ToCome) (i : ℕ) (seen : List Entry) (w b : ℕ) → cmd w ≡ false → dat w ≡ b
        → Agrees address os c i (with_byte address (fed address fresh seen) WRITE b) (bytes_read seen)
        → Now c i (seen ++ Write DATA_CMD w ∷ [])
    data_write c i seen w b q e h =
        next c i seen (Write DATA_CMD w)
        (ap (λ (z : Bool). if not z then with_byte address (fed address fresh seen) WRITE (dat w) else fed address fresh seen) q
        ∙ ap (with_byte address (fed address fresh seen) WRITE) e)
        (append-nil (bytes_read seen)) h

    -- the word that each writes in place of w, where the test says so
    abbrev sum_word : List Entry → ℕ → Bool → ℕ
    sum_word seen w q = if q then command_word (fed address fresh seen).crc false true false else w

    abbrev code_word : List Entry → ℕ → Bool → ℕ
    code_word seen w q = if q then command_word (code_of address os (bytes_read seen)) false true false else w

    -- the two write one word
    wrote : (seen : List Entry) (r w x y : ℕ) (t : Does) (room : ℕ) (rs b : List ℕ) → x ≡ w → y ≡ w
        → after (by_sum (seen ++ Write r w ∷ []) t) room rs b ≡ after (by_code (seen ++ Write r w ∷ []) t) room rs b
        → logged (Write r x) (after (by_sum (seen ++ Write r x ∷ []) t) room rs b)
        ≡ logged (Write r y) (after (by_code (seen ++ Write r y ∷ []) t) room rs b)
    wrote seen r w x y t room rs b p q ih =
        ap (λ (z : ℕ). logged (Write r z) (after (by_sum (seen ++ Write r z ∷ []) t) room rs b)) p
        ∙ ap (logged (Write r w)) ih
        ∙ sym (ap (λ (z : ℕ). logged (Write r z) (after (by_code (seen ++ Write r z ∷ []) t) room rs b)) q)

    -- a byte with a place in the buffer is stored by both; the code has none
    stored : (q : Bool) (p v : ℕ) (u w : Does) (room : ℕ) (rs b : List ℕ) → ltb p (room_of os) ≡ q
        → after (P.stores p v u) room rs b ≡ after (if q then P.stores p v w else w) room rs b
        → after (P.stores p v u) room rs b ≡ after (if ltb p (room_of os) then P.stores p v w else w) room rs b
    stored q p v u w room rs b e h = rw e h

    same_left : {c : ToCome} {i : ℕ} {t : Does} → Spells c i t → (seen : List Entry) → Now c i seen
        → (room : ℕ) (rs b : List ℕ) → length b ≡ room_of os
        → after (by_sum seen t) room rs b ≡ after (by_code seen t) room rs b
    unfolding outcome watched_from
    same_left refused_spells seen h room rs b size = refl
    same_left accepted_spells seen h room rs b size =
        ap (λ (q : Bool). just (Answered (tested q Accepted)) b tt) (sym h)
    same_left (reads_spells q l) seen h zero rs b size = refl
    same_left (reads_spells q l) seen h (suc n) [] b size = refl
    same_left {c} {i} (reads_spells {r = r} q l) seen h (suc n) (v ∷ rs) b size =
        ap (logged (Read r v)) (same_left (l v) (seen ++ Read r v ∷ []) (other_read c i seen r v q h) n rs b size)
    same_left (writes_spells q l) seen h zero rs b size = refl
    same_left {c} {i} (writes_spells {r = r} {w = w} {t = t} q l) seen h (suc n) rs b size =
        wrote seen r w ((runner address).value seen r w) ((coder address os).value seen r w) t n rs b
        (ap (λ (z : Bool). sum_word seen w (z && (stop w && not (cmd w)))) q)
        (ap (λ (z : Bool). code_word seen w (z && (stop w && not (cmd w)))) q)
        (same_left l (seen ++ Write r w ∷ []) (other_write c i seen r w (ap (λ (z : Bool). z && not (cmd w)) q) h) n rs b size)
    same_left (asks_spells q l) seen h zero rs b size = refl
    same_left {c} {i} (asks_spells {w = w} {t = t} q l) seen h (suc n) rs b size =
        wrote seen DATA_CMD w ((runner address).value seen DATA_CMD w) ((coder address os).value seen DATA_CMD w) t n rs b
        (ap (sum_word seen w) (asks_only (stop w) (cmd w) q)) (ap (code_word seen w) (asks_only (stop w) (cmd w) q))
        (same_left l (seen ++ Write DATA_CMD w ∷ []) (other_write c i seen DATA_CMD w (ap not q) h) n rs b size)
    same_left (marks_spells l) seen h zero rs b size = refl
    same_left {c} {i} (marks_spells {x = x} l) seen h (suc n) rs b size =
        ap (logged (Marked x))
        (same_left l (seen ++ Marked x ∷ []) (next c i seen (Marked x) refl (append-nil (bytes_read seen)) h) n rs b size)
    same_left cut_spells seen h room rs b size = refl
    same_left (byte_read e l) seen h zero rs b size = refl
    same_left (byte_read e l) seen h (suc n) [] b size = refl
    same_left (byte_read {last = last} {n = m} {i = i} {p = p} {os = rest} {f = f} e l) seen h (suc n) (v ∷ rs) b size =
        ap (logged (Read DATA_CMD v))
        (stored true p (dat v) (by_sum (seen ++ Read DATA_CMD v ∷ []) (f v)) (by_code (seen ++ Read DATA_CMD v ∷ []) (f v))
        n rs b
        (has_place address os e h)
        (same_left (l v) (seen ++ Read DATA_CMD v ∷ [])
        (next (data_and_code READ (reads m ∷ rest)) (suc i) seen (Read DATA_CMD v) refl refl (got_byte address os (dat v) h))
        n rs (set b p (dat v)) (length-set b p (dat v) ∙ size)))
    same_left (code_read e l) seen h zero rs b size = refl
    same_left (code_read e l) seen h (suc n) [] b size = refl
    same_left (code_read {i = i} {p = p} {f = f} e l) seen h (suc n) (v ∷ rs) b size =
        ap (logged (Read DATA_CMD v))
        (stored false p (dat v) (by_sum (seen ++ Read DATA_CMD v ∷ []) (f v)) (by_code (seen ++ Read DATA_CMD v ∷ []) (f v))
        n rs b
        (le-ltb p (room_of os) (no_place address os e h))
        (ap (λ (z : List ℕ). after (by_sum (seen ++ Read DATA_CMD v ∷ []) (f v)) n rs z)
        (set_beyond b p (dat v) (rw size (no_place address os e h)))
        ∙ same_left (l v) (seen ++ Read DATA_CMD v ∷ [])
        (next nothing i seen (Read DATA_CMD v) refl refl (got_code address os (dat v) (omega arith) h)) n rs b size))
    same_left (byte_written small l) seen h zero rs b size = refl
    same_left (byte_written {i = i} {b = x} {bs = bs} {os = rest} {t = t} small l) seen h (suc n) rs b size =
        let w : ℕ = command_word x false false false in
        wrote seen DATA_CMD w ((runner address).value seen DATA_CMD w) ((coder address os).value seen DATA_CMD w) t n rs b
        (ap (λ (z : Bool). sum_word seen w (z && not (cmd w))) (byte_stop x small))
        (ap (λ (z : Bool). code_word seen w (z && not (cmd w))) (byte_stop x small))
        (same_left l (seen ++ Write DATA_CMD w ∷ [])
        (data_write (data_and_code WRITE (writes bs ∷ rest)) i seen w x (byte_cmd x small) (byte_dat x small) (put_byte address os h))
        n rs b size)
    same_left (code_written l) seen h zero rs b size = refl
    same_left (code_written {i = i} {t = t} l) seen h (suc n) rs b size =
        let c : ℕ = (fed address fresh seen).crc in
        let w : ℕ = command_word c false true false in
        wrote seen DATA_CMD w w (command_word (code_of address os (bytes_read seen)) false true false) t n rs b refl
        (ap (λ (z : ℕ). command_word z false true false) (due address os h))
        (same_left l (seen ++ Write DATA_CMD w ∷ [])
        (data_write nothing i seen w c (code_cmd c h.small) (code_dat c h.small) (put_code address os h)) n rs b size)
    same_left (read_over l) seen h room rs b size = same_left l seen (over_read address os h) room rs b size
    same_left (write_over l) seen h room rs b size = same_left l seen (over_write address os h) room rs b size

  start : (os : List (Operation ℕ)) → Now os (to_come os) 0 []
  unfolding fed ends_in_read
  start [] = refl
  start (o ∷ os) = record {
    direction = refl;
    small = omega arith;
    count = refl;
    room = omega arith;
    end = refl;
    code = λ came. ap crc8 (message_is address (o ∷ os) came);
  }

pub runs : Runs
runs mode address t log readings buffer small size =
    same_left address (operations_of t) (spells_longer mode (restarts t) address _ (operations_of t) small) []
    (start address (operations_of t)) _ readings buffer size
