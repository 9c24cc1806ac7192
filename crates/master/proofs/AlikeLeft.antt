-- What alike behaviours (Alike.antt) leave: the watched run of the one leaves the log and the buffer of the other with
-- the code over the bytes that this run read, and its answer but for 22.
use Prim.Native.Nat.{ℕ, zero, suc, ◌≤◌}
use mathlib.Core.Bool.{Bool, true, false}
use mathlib.Core.List.{List, [], ◌∷◌, ◌++◌, append-nil, append_assoc}
use mathlib.Core.Path.{◌≡◌, refl, sym, ap, ◌∙◌}
use lib.Dec.{eqb, ltb}
use lib.ListN.{length, set, length-set}
use borrow.Author.Tests.{ltb-false}
use Rattle.regs.specs.declared.access.Entry.{Entry}
use Rattle.regs.specs.declared.access.Entry.TheVariants.{Read, Write, Marked}
use Rattle.regs.specs.declared.answers.Reply.{Reply}
use Rattle.regs.specs.declared.answers.Reply.TheVariants.{Answered}
use Rattle.regs.specs.Registers.{DATA_CMD}
use Rattle.regs.specs.Fields.{dat, command_word}
use Rattle.regs.specs.Left.{bytes_read}
use Rattle.regs.specs.Program.{ends, stores, Outcome, outcome, logged}
use Rattle.std.specs.Prelude.{if◌then◌else◌}
use Rattle.regs.specs.Watched.{watched_from}
use Rattle.regs.proofs.Watched.{set_beyond}
use Rattle.master.specs.Operations.{Operation}
use Rattle.master.specs.Coded.{code_of, room_of, tested, is_right, coder}
use Rattle.master.specs.CodedLaws.{tested_reply}
use Rattle.master.proofs.Emits.{Does, after}
use Rattle.master.proofs.Alike.{Alike, ends_alike, reads_alike, data_alike, writes_alike, code_alike}
use Rattle.master.proofs.Alike.{marks_alike, stores_alike, cut_alike, late}

pub bytes_append : (a b : List Entry) → bytes_read (a ++ b) ≡ bytes_read a ++ bytes_read b
bytes_append [] b = refl
bytes_append (Read r v ∷ a) b = go (eqb r DATA_CMD) (bytes_append a b)
  where
    go : (q : Bool) → bytes_read (a ++ b) ≡ bytes_read a ++ bytes_read b
        → (if q then dat v ∷ bytes_read (a ++ b) else bytes_read (a ++ b))
        ≡ (if q then dat v ∷ bytes_read a else bytes_read a) ++ bytes_read b
    go true e = ap (λ (x : List ℕ). dat v ∷ x) e
    go false e = e
bytes_append (Write r v ∷ a) b = bytes_append a b
bytes_append (Marked x ∷ a) b = bytes_append a b

-- o and p, where o has this log before it
pub record From (address : ℕ) (os : List (Operation ℕ)) (seen : List Entry) (o p : Outcome (Unit {0}) Reply) : Type 0 where
  pub log : o.log ≡ p.log
  pub buffer : o.buffer ≡ p.buffer
  pub answer : o.answer ≡ tested_reply (is_right address os (bytes_read (seen ++ o.log))) p.answer

module _ (address : ℕ) (os : List (Operation ℕ)) where
  -- the watched run, with this log before it
  abbrev left_after : List Entry → Does → ℕ → List ℕ → List ℕ → Outcome (Unit {0}) Reply
  left_after seen t room rs b = after (watched_from (coder address os) ends seen t) room rs b

  -- c is the code over the bytes of this log
  abbrev CodeOf : ℕ → List Entry → Type 0
  CodeOf c log = c ≡ code_of address os (bytes_read log)

  -- what is written in place of a word, and the word with the code over the bytes of this log
  abbrev word_after : List Entry → ℕ → ℕ → ℕ
  word_after seen r w = (coder address os).value seen r w

  abbrev code_after : List Entry → ℕ
  code_after seen = command_word (code_of address os (bytes_read seen)) false true false

  no_bytes : {c : ℕ} {t u : Does} → Alike c true t u → (seen : List Entry) (room : ℕ) (rs b : List ℕ)
      → bytes_read (left_after seen t room rs b).log ≡ []
  unfolding outcome watched_from
  no_bytes ends_alike seen room rs b = refl
  no_bytes (reads_alike q l) seen zero rs b = refl
  no_bytes (reads_alike q l) seen (suc n) [] b = refl
  no_bytes (reads_alike q l) seen (suc n) (v ∷ rs) b = rw q (no_bytes (l v) _ n rs b)
  no_bytes (writes_alike q l) seen zero rs b = refl
  no_bytes (writes_alike q l) seen (suc n) rs b = no_bytes l _ n rs b
  no_bytes (code_alike l) seen zero rs b = refl
  no_bytes (code_alike l) seen (suc n) rs b = no_bytes l _ n rs b
  no_bytes (marks_alike l) seen zero rs b = refl
  no_bytes (marks_alike l) seen (suc n) rs b = no_bytes l _ n rs b
  no_bytes cut_alike seen room rs b = refl

  -- an entry more
  entered : (seen : List Entry) (e : Entry) (o p : Outcome (Unit {0}) Reply)
      → From address os (seen ++ e ∷ []) o p
      → From address os seen (logged e o) (logged e p)
  entered seen e o p f = record {
    log = ap (λ (x : List Entry). e ∷ x) f.log;
    buffer = f.buffer;
    answer = f.answer
        ∙ ap (λ (x : List Entry). tested_reply (is_right address os (bytes_read x)) p.answer) (append_assoc seen (e ∷ []) o.log);
  }

  wrote : (seen : List Entry) (r x y : ℕ) (o p : Outcome (Unit {0}) Reply)
      → x ≡ y
      → From address os (seen ++ Write r x ∷ []) o p
      → From address os seen (logged (Write r x) o) (logged (Write r y) p)
  wrote seen r x y o p q f =
      let g = entered seen (Write r x) o p f in
      record {
        log = g.log ∙ ap (λ (z : ℕ). Write r z ∷ p.log) q;
        buffer = g.buffer;
        answer = g.answer;
      }

  next : (c : ℕ) (seen : List Entry) (e : Entry) (rest : List Entry) → CodeOf c (seen ++ (e ∷ rest)) → CodeOf c ((seen ++ e ∷ []) ++ rest)
  next c seen e rest h = h ∙ ap (λ (x : List Entry). code_of address os (bytes_read x)) (sym (append_assoc seen (e ∷ []) rest))

  -- where no byte is read after it, the code is over the bytes before it
  complete : (c : ℕ) (seen : List Entry) (r x : ℕ) (rest : List Entry)
      → bytes_read rest ≡ []
      → CodeOf c (seen ++ (Write r x ∷ rest))
      → code_of address os (bytes_read seen) ≡ c
  complete c seen r x rest none h = sym (h ∙ ap (code_of address os)
      (bytes_append seen (Write r x ∷ rest) ∙ ap (λ (z : List ℕ). bytes_read seen ++ z) none ∙ append-nil (bytes_read seen)))

  -- a byte that has no place in the buffer is not stored
  placed : (q : Bool) (c i v : ℕ) (seen : List Entry) (w u : Does) (room : ℕ) (rs b : List ℕ)
      → ((b : List ℕ) → length b ≡ room_of os → CodeOf c (seen ++ (after w room rs b).log)
      → From address os seen (after w room rs b) (after u room rs b))
      → length b ≡ room_of os
      → (q ≡ false → length b ≤ i)
      → CodeOf c (seen ++ (after (if q then stores i v w else w) room rs b).log)
      → From address os seen (after (if q then stores i v w else w) room rs b) (after (stores i v u) room rs b)
  unfolding outcome
  placed true c i v seen w u room rs b ih size none e = ih (set b i v) (length-set b i v ∙ size) e
  placed false c i v seen w u room rs b ih size none e = rw (set_beyond b i v (none refl)) (ih b size e)

  pub alike_left : {c : ℕ} {d : Bool} {t u : Does} → Alike c d t u → (seen : List Entry) (room : ℕ) (rs b : List ℕ)
      → length b ≡ room_of os
      → CodeOf c (seen ++ (left_after seen t room rs b).log)
      → From address os seen (left_after seen t room rs b) (after u room rs b)
  unfolding outcome watched_from
  alike_left (ends_alike {a = a}) seen room rs b size e = record {
    log = refl;
    buffer = refl;
    answer = ap (λ (x : List Entry). Answered (tested (is_right address os (bytes_read x)) a)) (sym (append-nil seen));
  }
  alike_left (reads_alike q l) seen zero rs b size e = record { log = refl; buffer = refl; answer = refl }
  alike_left (reads_alike q l) seen (suc n) [] b size e = record { log = refl; buffer = refl; answer = refl }
  alike_left {c = c} (reads_alike {r = r} q l) seen (suc n) (v ∷ rs) b size e =
      entered seen (Read r v) _ _ (alike_left (l v) (seen ++ Read r v ∷ []) n rs b size (next c seen (Read r v) _ e))
  alike_left (data_alike l) seen zero rs b size e = record { log = refl; buffer = refl; answer = refl }
  alike_left (data_alike l) seen (suc n) [] b size e = record { log = refl; buffer = refl; answer = refl }
  alike_left {c = c} (data_alike l) seen (suc n) (v ∷ rs) b size e =
      entered seen (Read DATA_CMD v) _ _
      (alike_left (l v) (seen ++ Read DATA_CMD v ∷ []) n rs b size (next c seen (Read DATA_CMD v) _ e))
  alike_left (writes_alike q l) seen zero rs b size e = record { log = refl; buffer = refl; answer = refl }
  alike_left {c = c} (writes_alike {r = r} {w = w} q l) seen (suc n) rs b size e =
      wrote seen r (word_after seen r w) w _ _ (ap (λ (z : Bool). if z then code_after seen else w) q)
      (alike_left l (seen ++ Write r (word_after seen r w) ∷ []) n rs b size (next c seen (Write r (word_after seen r w)) _ e))
  alike_left (code_alike l) seen zero rs b size e = record { log = refl; buffer = refl; answer = refl }
  alike_left {c = c} (code_alike l) seen (suc n) rs b size e =
      wrote seen DATA_CMD (code_after seen) (command_word c false true false) _ _
      (ap (λ (z : ℕ). command_word z false true false)
      (complete c seen DATA_CMD (code_after seen) _ (no_bytes l (seen ++ Write DATA_CMD (code_after seen) ∷ []) n rs b) e))
      (alike_left l (seen ++ Write DATA_CMD (code_after seen) ∷ []) n rs b size (next c seen (Write DATA_CMD (code_after seen)) _ e))
  alike_left (marks_alike l) seen zero rs b size e = record { log = refl; buffer = refl; answer = refl }
  alike_left {c = c} (marks_alike {x = x} l) seen (suc n) rs b size e =
      entered seen (Marked x) _ _ (alike_left l (seen ++ Marked x ∷ []) n rs b size (next c seen (Marked x) _ e))
  alike_left {c = c} (stores_alike {i = i} {v = v} {t = t} {u = u} l) seen room rs b size e =
      placed (ltb i (room_of os)) c i v seen (watched_from (coder address os) ends seen t) u room rs b
      (λ b size e. alike_left l seen room rs b size e) size (λ q. rw size (ltb-false i (room_of os) q)) e
  alike_left cut_alike seen room rs b size e = record { log = refl; buffer = refl; answer = refl }
  alike_left (late l) seen room rs b size e = alike_left l seen room rs b size e
