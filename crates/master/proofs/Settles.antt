-- `settles`: a watched transfer leaves what the longer operations leave by themselves, settled by their last access to
-- DATA_CMD, as `Settles` of specs/Inner/Settled.antt says. By what a behaviour spells (Spells.antt).
--     quiet_left     where nothing is to come any more, only the answer is tested
--     spelled        while the code is to come
use Prim.Native.Nat.{ℕ, zero, suc, ◌/◌, ◌<◌}
use native.Mathlib.Omega.{arith}
use mathlib.Core.Bool.{Bool, true, false, not, ◌&&◌, ◌||◌}
use mathlib.Core.List.{List, [], ◌∷◌, ◌++◌}
use mathlib.Core.Path.{◌≡◌, refl, sym, ap, ◌∙◌}
use lib.Dec.{eqb, ltb}
use lib.ListN.{length, set, get_or}
use borrow.Author.Tests.{lt-ltb, le-ltb}
use Rattle.regs.specs.declared.access.Entry.{Entry}
use Rattle.regs.specs.declared.access.Entry.TheVariants.{Read, Write, Marked}
use Rattle.regs.specs.declared.answers.Answer.{Answer}
use Rattle.regs.specs.declared.answers.Reply.{Reply}
use Rattle.regs.specs.Registers.{DATA_CMD}
use Rattle.regs.specs.Fields.{command_word, cmd, stop, dat}
use Rattle.regs.specs.Left.{bytes_read}
use Rattle.regs.specs.Log.{Each, expected}
use Rattle.regs.specs.Program.{ends, stores, Outcome, outcome, logged}
use Rattle.std.specs.Prelude.{if◌then◌else◌}
use Rattle.regs.specs.Watched.{watched_from, watched}
use Rattle.regs.proofs.Watched.{set_beyond}
use Rattle.master.specs.Driver.{Driver, reason_of}
use Rattle.master.specs.Operations.{Operation, Mode, operations_of}
use Rattle.master.specs.Coded.{code_of, with_code, room_of, ends_in_read, is_right, coder, longer_transfer, restarts}
use Rattle.master.specs.CodedLaws.{Small, tested_reply}
use Rattle.master.specs.Inner.Settled.{LastData, none, got, put, data_of, later, last_data, put_here, put_last}
use Rattle.master.specs.Inner.Settled.{settled_by, settled, Settles}
use Rattle.master.proofs.Emits.{Does, after}
use Rattle.master.proofs.AlikeLeft.{bytes_append}
use Rattle.master.proofs.Spells.{data_and_code, nothing, to_come, Spells, refused_spells, accepted_spells, reads_spells}
use Rattle.master.proofs.Spells.{writes_spells, asks_spells, marks_spells, cut_spells, byte_read, code_read, byte_written}
use Rattle.master.proofs.Spells.{code_written, read_over, write_over}
use Rattle.master.proofs.SpellsParts.{spells_longer}
use Rattle.master.proofs.SettlesParts.{right_behind, quiet_log, quiet_buffer, tested_by, with_answer, right_same}
use Rattle.master.proofs.SettlesParts.{unread, other_read, IfNone, Open, always, if_none, open_left, with_log, pushed}
use Rattle.master.proofs.SettlesParts.{not_closing, asking, byte_word, with_place, without_place, Held, held_on}
use Rattle.master.proofs.SettlesParts.{held_read, held_write, read_ended, write_ended, before_end, read_last}
use Rattle.master.proofs.SettlesParts.{write_last, no_more, none_left, read_all}

module _ (address : ℕ) (os : List (Operation ℕ)) where
  -- the watched run, with this log before it
  abbrev left_after : List Entry → Does → ℕ → List ℕ → List ℕ → Outcome (Unit {0}) Reply
  left_after seen t room rs b = after (watched_from (coder address os) ends seen t) room rs b

  abbrev code_word : List ℕ → ℕ
  code_word came = command_word (code_of address os came) false true false

  -- what is written in place of a word
  abbrev word_after : List Entry → ℕ → ℕ → ℕ
  word_after seen r w = (coder address os).value seen r w

  other_word : (seen : List Entry) (r w : ℕ) → eqb r DATA_CMD ≡ false → word_after seen r w ≡ w
  other_word seen r w q = ap (λ (z : Bool). if z && (stop w && not (cmd w)) then code_word (bytes_read seen) else w) q

  data_word : (seen : List Entry) (w : ℕ) → stop w && not (cmd w) ≡ false → word_after seen DATA_CMD w ≡ w
  data_word seen w q = ap (λ (z : Bool). if z then code_word (bytes_read seen) else w) q

  -- where the last operation is a write there is no test
  no_test : (came : List ℕ) → false ≡ ends_in_read os → is_right address os came ≡ true
  no_test came e = ap (λ (q : Bool). not q || eqb (get_or came (room_of os) 0) (code_of address os came)) (sym e)

  abbrev right_after : List Entry → Bool
  right_after seen = is_right address os (bytes_read seen)

  -- an entry that reads no byte, which is d by itself
  turned : (seen : List Entry) (e d : Entry) (o p : Outcome (Unit {0}) Reply) → e ≡ d → bytes_read (e ∷ []) ≡ []
      → o ≡ tested_by (right_after (seen ++ e ∷ [])) p
      → logged e o ≡ tested_by (right_after seen) (logged d p)
  turned seen e d o p same h f =
      ap (logged e) f
      ∙ ap (λ (came : List ℕ). logged e (tested_by (is_right address os came) p)) (unread seen e h)
      ∙ ap (λ (x : Entry). logged x (tested_by (right_after seen) p)) same

  quiet_left : {i : ℕ} {t : Does} → Spells nothing i t → (seen : List Entry) (room : ℕ) (rs b : List ℕ)
      → left_after seen t room rs b ≡ tested_by (right_after seen) (after t room rs b)
  unfolding outcome watched_from
  quiet_left refused_spells seen room rs b = refl
  quiet_left accepted_spells seen room rs b = refl
  quiet_left (reads_spells q l) seen zero rs b = refl
  quiet_left (reads_spells q l) seen (suc n) [] b = refl
  quiet_left (reads_spells {r = r} {f = f} q l) seen (suc n) (v ∷ rs) b =
      turned seen (Read r v) (Read r v) _ (after (f v) n rs b) refl (other_read r v q)
      (quiet_left (l v) (seen ++ Read r v ∷ []) n rs b)
  quiet_left (writes_spells q l) seen zero rs b = refl
  quiet_left (writes_spells {r = r} {w = w} {t = t} q l) seen (suc n) rs b =
      let x : ℕ = word_after seen r w in
      turned seen (Write r x) (Write r w) _ (after t n rs b) (ap (Write r) (other_word seen r w q)) refl
      (quiet_left l (seen ++ Write r x ∷ []) n rs b)
  quiet_left (marks_spells l) seen zero rs b = refl
  quiet_left (marks_spells {x = x} {t = t} l) seen (suc n) rs b =
      turned seen (Marked x) (Marked x) _ (after t n rs b) refl refl (quiet_left l (seen ++ Marked x ∷ []) n rs b)
  quiet_left cut_spells seen room rs b = refl

  -- an entry that is the same in both
  entered : (e : Entry) (o p : Outcome (Unit {0}) Reply)
      → IfNone (last_data p.log) (settled_by (code_of address os p.buffer) (data_of e) (logged e p) ≡ logged e p)
      → o ≡ settled address os p
      → logged e o ≡ settled address os (logged e p)
  unfolding last_data
  entered e o p h f = ap (logged e) f ∙ pushed (code_of address os p.buffer) e p (last_data p.log) refl h

  -- a word that is written as it is
  wrote : (r x w : ℕ) (o p : Outcome (Unit {0}) Reply) → x ≡ w
      → settled_by (code_of address os p.buffer) (data_of (Write r w)) (logged (Write r w) p) ≡ logged (Write r w) p
      → o ≡ settled address os p
      → logged (Write r x) o ≡ settled address os (logged (Write r w) p)
  wrote r x w o p same h f =
      ap (λ (z : ℕ). logged (Write r z) o) same ∙ entered (Write r w) o p (always (last_data p.log) h) f

  other_data : (c r : ℕ) (x : LastData) (o : Outcome (Unit {0}) Reply) → eqb r DATA_CMD ≡ false
      → settled_by c (if eqb r DATA_CMD then x else none) o ≡ o
  other_data c r x o q = ap (λ (z : Bool). settled_by c (if z then x else none) o) q

  -- the code that is read, in both
  code_came : (v : ℕ) (b : List ℕ) (o p : Outcome (Unit {0}) Reply)
      → last_data p.log ≡ none
      → p.buffer ≡ b
      → o ≡ tested_by (eqb (dat v) (code_of address os b)) p
      → logged (Read DATA_CMD v) o ≡ settled address os (logged (Read DATA_CMD v) p)
  unfolding last_data
  code_came v b o p q e f =
      ap (logged (Read DATA_CMD v)) f
      ∙ ap (λ (x : List ℕ). tested_by (eqb (dat v) (code_of address os x)) (logged (Read DATA_CMD v) p)) (sym e)
      ∙ ap (λ (d : LastData). settled_by (code_of address os p.buffer) (later (got v) d) (logged (Read DATA_CMD v) p)) (sym q)

  -- a byte that is read has a place in the buffer
  byte_fetched : (j v : ℕ) (t : Does) (seen : List Entry) (n : ℕ) (rs b : List ℕ) → j < room_of os
      → Open (last_data (after t n rs (set b j (dat v))).log) (after t n rs (set b j (dat v))).answer
      → left_after (seen ++ Read DATA_CMD v ∷ []) t n rs (set b j (dat v)) ≡ settled address os (after t n rs (set b j (dat v)))
      → logged (Read DATA_CMD v) (left_after (seen ++ Read DATA_CMD v ∷ []) (stores j (dat v) t) n rs b)
      ≡ settled address os (logged (Read DATA_CMD v) (after t n rs (set b j (dat v))))
  unfolding watched_from
  byte_fetched j v t seen n rs b place waits f =
      let p = after t n rs (set b j (dat v)) in
      entered (Read DATA_CMD v) _ p
      (if_none (last_data p.log)
      (λ (s : (q : Bool) → tested_reply q p.answer ≡ p.answer). ap (with_answer (logged (Read DATA_CMD v) p)) (s _))
      waits)
      (with_place (ltb j (room_of os)) j (dat v) (watched_from (coder address os) ends (seen ++ Read DATA_CMD v ∷ []) t) n rs b
      (lt-ltb j (room_of os) place) ∙ f)

  -- the code has none
  code_fetched : {i : ℕ} (j v : ℕ) (t : Does) → Spells nothing i t → (seen : List Entry) (n : ℕ) (rs b : List ℕ) → j ≡ room_of os
      → ends_in_read os ≡ true
      → length b ≡ room_of os
      → b ≡ bytes_read seen
      → logged (Read DATA_CMD v) (left_after (seen ++ Read DATA_CMD v ∷ []) (stores j (dat v) t) n rs b)
      ≡ settled address os (logged (Read DATA_CMD v) (after t n rs (set b j (dat v))))
  unfolding watched_from
  code_fetched j v t l seen n rs b all last size front =
      let next = seen ++ Read DATA_CMD v ∷ [] in
      let kept : set b j (dat v) ≡ b = set_beyond b j (dat v) (omega arith) in
      let came : bytes_read next ≡ b ++ dat v ∷ [] =
      bytes_append seen (Read DATA_CMD v ∷ []) ∙ ap (λ (x : List ℕ). x ++ dat v ∷ []) (sym front) in
      let tested : right_after next ≡ eqb (dat v) (code_of address os b) =
      ap (is_right address os) came ∙ right_behind address os b (dat v) size last in
      ap (logged (Read DATA_CMD v))
      (without_place (ltb j (room_of os)) j (dat v) (watched_from (coder address os) ends next t) n rs b
      (le-ltb j (room_of os) (omega arith)))
      ∙ code_came v b _ (after t n rs b) (quiet_log l n rs b) (quiet_buffer l n rs b)
      (quiet_left l next n rs b ∙ ap (λ (z : Bool). tested_by z (after t n rs b)) tested)
      ∙ ap (λ (x : List ℕ). settled address os (logged (Read DATA_CMD v) (after t n rs x))) (sym kept)

  -- the code that is written, in both
  abbrev ZERO_WORD : ℕ
  ZERO_WORD = command_word 0 false true false

  code_gone : (came b : List ℕ) (o p : Outcome (Unit {0}) Reply)
      → last_data p.log ≡ none
      → p.buffer ≡ b
      → b ≡ came
      → o ≡ p
      → logged (Write DATA_CMD (code_word came)) o ≡ settled address os (logged (Write DATA_CMD ZERO_WORD) p)
  unfolding last_data put_last
  code_gone came b o p q e same f =
      let c : ℕ = code_of address os p.buffer in
      let w : Entry = Write DATA_CMD ZERO_WORD in
      ap (logged (Write DATA_CMD (code_word came))) f
      ∙ ap (λ (x : List ℕ). logged (Write DATA_CMD (code_word x)) p) (sym (e ∙ same))
      ∙ ap (λ (d : LastData). with_log p (put_here c d w p.log (put_last c p.log))) (sym q)
      ∙ ap (λ (d : LastData). settled_by c (later (put ZERO_WORD) d) (logged w p)) (sym q)

  spelled : {last i : ℕ} {rest : List (Operation ℕ)} {t : Does} → Spells (data_and_code last rest) i t
      → (seen : List Entry) (room : ℕ) (rs b : List ℕ) → Held os rest i b seen
      → left_after seen t room rs b ≡ settled address os (after t room rs b)
  unfolding outcome watched_from last_data
  spelled refused_spells seen room rs b h = refl
  spelled (reads_spells q l) seen zero rs b h = refl
  spelled (reads_spells q l) seen (suc n) [] b h = refl
  spelled (reads_spells {r = r} {f = f} q l) seen (suc n) (v ∷ rs) b h =
      let p = after (f v) n rs b in
      entered (Read r v) _ p
      (always (last_data p.log) (other_data (code_of address os p.buffer) r (got v) (logged (Read r v) p) q))
      (spelled (l v) (seen ++ Read r v ∷ []) n rs b (held_on (Read r v) (other_read r v q) h))
  spelled (writes_spells q l) seen zero rs b h = refl
  spelled (writes_spells {r = r} {w = w} {t = t} q l) seen (suc n) rs b h =
      let p = after t n rs b in
      let x : ℕ = word_after seen r w in
      wrote r x w _ p (other_word seen r w q)
      (other_data (code_of address os p.buffer) r (put w) (logged (Write r w) p) q)
      (spelled l (seen ++ Write r x ∷ []) n rs b (held_on (Write r x) refl h))
  spelled (asks_spells q l) seen zero rs b h = refl
  spelled (asks_spells {w = w} {t = t} q l) seen (suc n) rs b h =
      let p = after t n rs b in
      let x : ℕ = word_after seen DATA_CMD w in
      let asks : stop w && not (cmd w) ≡ false = asking (stop w) (cmd w) q in
      wrote DATA_CMD x w _ p (data_word seen w asks)
      (not_closing (code_of address os p.buffer) w (logged (Write DATA_CMD w) p) asks)
      (spelled l (seen ++ Write DATA_CMD x ∷ []) n rs b (held_on (Write DATA_CMD x) refl h))
  spelled (marks_spells l) seen zero rs b h = refl
  spelled (marks_spells {x = x} {t = t} l) seen (suc n) rs b h =
      let p = after t n rs b in
      entered (Marked x) _ p (always (last_data p.log) refl)
      (spelled l (seen ++ Marked x ∷ []) n rs b (held_on (Marked x) refl h))
  spelled cut_spells seen room rs b h = refl
  spelled (byte_read e l) seen zero rs b h = refl
  spelled (byte_read e l) seen (suc n) [] b h = refl
  spelled (byte_read {p = j} {f = f} e l) seen (suc n) (v ∷ rs) b h =
      byte_fetched j v (f v) seen n rs b (before_end e h) (open_left (l v) n rs (set b j (dat v)))
      (spelled (l v) (seen ++ Read DATA_CMD v ∷ []) n rs (set b j (dat v)) (held_read v e h))
  spelled (code_read e l) seen zero rs b h = refl
  spelled (code_read e l) seen (suc n) [] b h = refl
  spelled (code_read {p = j} {f = f} e l) seen (suc n) (v ∷ rs) b h =
      code_fetched j v (f v) (l v) seen n rs b (e ∙ no_more h) (read_last h) h.size (read_all h (no_more h))
  spelled (byte_written e l) seen zero rs b h = refl
  spelled (byte_written {b = y} {t = t} e l) seen (suc n) rs b h =
      let p = after t n rs b in
      let w : ℕ = command_word y false false false in
      let x : ℕ = word_after seen DATA_CMD w in
      wrote DATA_CMD x w _ p (data_word seen w (byte_word y e))
      (not_closing (code_of address os p.buffer) w (logged (Write DATA_CMD w) p) (byte_word y e))
      (spelled l (seen ++ Write DATA_CMD x ∷ []) n rs b (held_write (Write DATA_CMD x) refl h))
  spelled (code_written l) seen zero rs b h = refl
  spelled (code_written {t = t} l) seen (suc n) rs b h =
      let p = after t n rs b in
      let next = seen ++ Write DATA_CMD (code_word (bytes_read seen)) ∷ [] in
      code_gone (bytes_read seen) b _ p (quiet_log l n rs b) (quiet_buffer l n rs b) (read_all h (none_left h))
      (quiet_left l next n rs b ∙ right_same (right_after next) p (no_test (bytes_read next) (write_last h)))
  spelled (read_over l) seen room rs b h = spelled l seen room rs b (read_ended h)
  spelled (write_over l) seen room rs b h = spelled l seen room rs b (write_ended h)

-- from the start
whole : (address : ℕ) (os : List (Operation ℕ)) {t : Does} → Spells (to_come os) 0 t → (room : ℕ) (rs b : List ℕ)
    → length b ≡ room_of os
    → left_after address os [] t room rs b ≡ settled address os (after t room rs b)
unfolding ends_in_read
whole address [] {t} s room rs b size =
    quiet_left address [] s [] room rs b
    ∙ right_same true (after t room rs b) refl
    ∙ ap (λ (d : LastData). settled_by (code_of address [] (after t room rs b).buffer) d (after t room rs b))
    (sym (quiet_log s room rs b))
whole address (o ∷ os) s room rs b size =
    spelled address (o ∷ os) s [] room rs b (record { size = size; front = refl; left = omega arith; last = refl })

-- of any operations, with and without RESTART
module _ (mode : Mode) (restart : Bool) (address : ℕ) (os : List (Operation ℕ)) (log readings buffer : List ℕ) where
  abbrev longer_one : Driver Answer
  longer_one = longer_transfer reason_of mode restart address (with_code 0 os)

  pub settles_each : Each Small os → length buffer ≡ room_of os
      → expected (watched (coder address os) longer_one) log readings buffer tt
      ≡ settled address os (expected longer_one log readings buffer tt)
  settles_each small size =
      let room : ℕ = length log / 2 in
      whole address os (spells_longer mode restart address (suc room) os small) room readings buffer size

pub settles : Settles
settles mode address t log readings buffer small size =
    settles_each mode (restarts t) address (operations_of t) log readings buffer small size
