-- A settled run leaves what `settled` of master says of the outcome: the words of its log, searched from the last entry
-- back, have the same last access to DATA_CMD as its entries (`agrees`).
use Prim.Native.Nat.{ℕ, zero, suc, ◌+◌, ◌*◌, ◌≤◌}
use native.Mathlib.Omega.{arith}
use mathlib.Core.Bool.{true, false, not, ◌&&◌}
use mathlib.Core.List.{List, [], ◌∷◌, ◌++◌}
use mathlib.Core.Path.{◌≡◌, refl, sym, ap, subst, ◌∙◌}
use lib.Dec.{T, eqb}
use lib.ListN.{length, get_or, set, drop, length-append}
use borrow.Author.Tests.{eq-eqb, ne_eqb, eqb-true, eqb-false}
use Rattle.regs.specs.declared.access.Entry.{Entry}
use Rattle.regs.specs.declared.access.Entry.TheVariants.{Read, Write, Marked}
use Rattle.regs.specs.declared.access.Ran.{Ran}
use Rattle.regs.specs.declared.answers.Reply.{Reply}
use Rattle.regs.specs.Registers.{DATA_CMD, legal_read}
use Rattle.regs.specs.Fields.{command_word, cmd, stop}
use Rattle.regs.specs.Log.{encode, reads_in, Legal, Each, Leaves, LeavesBuffer}
use Rattle.regs.specs.Program.{Outcome}
use Rattle.std.specs.Prelude.{if◌then◌else◌, Option, None, Some}
use Rattle.regs.proofs.Refine.{length_encode}
use Rattle.regs.proofs.Tests.{by_test}
use Rattle.master.specs.Operations.{Operation}
use Rattle.master.specs.Coded.{code_of}
use Rattle.master.specs.CodedLaws.{tested_reply}
use Rattle.master.specs.Inner.Settled.{LastData, none, got, put, last_data, with_word, put_here, put_last}
use Rattle.master.specs.Inner.Settled.{settled_by, settled}
use Rattle.transfer_code.specs.Inner.Settling.{last_at, ran_by, log_by, Settled}
use Rattle.transfer_code.specs.declared.settle.DataAt.{DataAt}
use Rattle.transfer_code.specs.declared.settle.DataAt.TheVariants.{Got, Put}

-- ---- one entry in front

-- the last access with an entry of this head in front
abbrev pushed : ℕ → Option DataAt → Option DataAt
pushed h None = if eqb h 0x110 then Some (Got 0) else (if eqb h 0x210 then Some (Put 0) else None)
pushed h (Some (Got k)) = Some (Got (suc k))
pushed h (Some (Put k)) = Some (Put (suc k))

last_pushed : (h v : ℕ) (ws : List ℕ) (n : ℕ) → last_at (h ∷ v ∷ ws) (suc n) ≡ pushed h (last_at ws n)
unfolding last_at
last_pushed h v ws zero = refl
last_pushed h v ws (suc n) =
    let p : suc n * 2 ≡ suc (suc (n * 2)) = omega arith in
    by_test (eqb (get_or ws (n * 2) 0) 0x110) (λ q. rw (p, q))
    (λ q. by_test (eqb (get_or ws (n * 2) 0) 0x210) (λ z. rw (p, q, z))
    (λ z. rw (p, q, z) (last_pushed h v ws n)))

-- the two words of an entry
abbrev head : Entry → ℕ
head (Read r v) = 0x100 + r
head (Write r v) = 0x200 + r
head (Marked x) = 0x300 + x

abbrev value : Entry → ℕ
value (Read r v) = v
value (Write r v) = v
value (Marked x) = 0

encode_cons : (e : Entry) (es : List Entry) → encode (e ∷ es) ≡ head e ∷ value e ∷ encode es
encode_cons (Read r v) es = refl
encode_cons (Write r v) es = refl
encode_cons (Marked x) es = refl

-- a read of a register 0x110 would have the head of a write of DATA_CMD: the table has none
no_such_register : (r : ℕ) → T (legal_read r) → 0x100 + r ≡ 0x210 → ⊥
no_such_register r h e = let z : r ≡ 0x110 = omega arith in subst (λ (x : ℕ). T (legal_read x)) z h

-- ---- the words and the entries

module _ (rest : List ℕ) where
  abbrev words : List Entry → List ℕ
  words es = encode es ++ rest

  -- what the place in the words says of the entries
  abbrev Agrees : List Entry → Option DataAt → Type 0
  Agrees es None = last_data es ≡ none
  Agrees es (Some (Got k)) = last_data es ≡ got (get_or (words es) (k * 2 + 1) 0)
  Agrees es (Some (Put k)) = (last_data es ≡ put (get_or (words es) (k * 2 + 1) 0))
      × ((c : ℕ) → words (put_last c es) ≡ set (words es) (k * 2 + 1) (command_word c false true false))

  here : (e : Entry) (es : List Entry) → Legal e → last_data es ≡ none → Agrees (e ∷ es) (pushed (head e) None)
  unfolding last_data put_last
  here (Read r v) es h e =
      by_test (eqb r DATA_CMD)
      (λ q. rw (eq-eqb (0x100 + r) 0x110 (omega (arith, eqb-true r DATA_CMD q)), e, q))
      (λ q. rw (
        ne_eqb (0x100 + r) 0x110 (λ z. eqb-false r DATA_CMD q (omega arith)),
        ne_eqb (0x100 + r) 0x210 (no_such_register r h),
        e,
        q,
      ))
  here (Write r w) es h e =
      by_test (eqb r DATA_CMD)
      (λ q. rw (
        ne_eqb (0x200 + r) 0x110 (λ z. omega arith),
        eq-eqb (0x200 + r) 0x210 (omega (arith, eqb-true r DATA_CMD q)),
        e,
        q,
      ) (refl, λ c. refl))
      (λ q. rw (
        ne_eqb (0x200 + r) 0x110 (λ z. omega arith),
        ne_eqb (0x200 + r) 0x210 (λ z. eqb-false r DATA_CMD q (omega arith)),
        e,
        q,
      ))
  here (Marked x) es h e =
      rw (ne_eqb (0x300 + x) 0x110 (λ z. omega arith), ne_eqb (0x300 + x) 0x210 (λ z. omega arith), e)

  agrees_pushed : (e : Entry) (es : List Entry) → Legal e → (l : Option DataAt) → Agrees es l → Agrees (e ∷ es) (pushed (head e) l)
  unfolding last_data put_last
  agrees_pushed e es h None a = here e es h a
  agrees_pushed e es h (Some (Got k)) a =
      let p : suc k * 2 + 1 ≡ suc (suc (k * 2 + 1)) = omega arith in
      rw (a, encode_cons e es, p)
  agrees_pushed e es h (Some (Put k)) a =
      let p : suc k * 2 + 1 ≡ suc (suc (k * 2 + 1)) = omega arith in (
        rw (a.0, encode_cons e es, p),
        λ c. rw (a.0, encode_cons e (put_last c es), encode_cons e es, p, a.1 c),
      )

  -- the place in the words of an entry more
  last_step : (e : Entry) (es : List Entry)
      → last_at (words (e ∷ es)) (suc (length es)) ≡ pushed (head e) (last_at (words es) (length es))
  last_step e es = rw (encode_cons e es) (last_pushed (head e) (value e) (words es) (length es))

  agrees : (es : List Entry) → Each Legal es → Agrees es (last_at (words es) (length es))
  unfolding last_at last_data
  agrees [] h = refl
  agrees (e ∷ es) h =
      subst (Agrees (e ∷ es)) (sym (last_step e es)) (agrees_pushed e es h.0 (last_at (words es) (length es)) (agrees es h.1))

-- ---- the entries with the code

length_here : (c : ℕ) (d : LastData) (e : Entry) (es later_put : List Entry) → length later_put ≡ length es
    → length (put_here c d e es later_put) ≡ suc (length es)
length_here c none e es l h = refl
length_here c (got v) e es l h = ap suc h
length_here c (put w) e es l h = ap suc h

length_put : (c : ℕ) (es : List Entry) → length (put_last c es) ≡ length es
unfolding put_last
length_put c [] = refl
length_put c (e ∷ es) = length_here c (last_data es) e es (put_last c es) (length_put c es)

reads_cons : (e : Entry) (es fs : List Entry) → reads_in es ≡ reads_in fs → reads_in (e ∷ es) ≡ reads_in (e ∷ fs)
reads_cons (Read r v) es fs h = ap suc h
reads_cons (Write r w) es fs h = h
reads_cons (Marked x) es fs h = h

reads_with : (c : ℕ) (e : Entry) (es : List Entry) → reads_in (with_word c e ∷ es) ≡ reads_in (e ∷ es)
reads_with c (Read r v) es = refl
reads_with c (Write r w) es = refl
reads_with c (Marked x) es = refl

reads_here : (c : ℕ) (d : LastData) (e : Entry) (es later_put : List Entry) → reads_in later_put ≡ reads_in es
    → reads_in (put_here c d e es later_put) ≡ reads_in (e ∷ es)
reads_here c none e es l h = reads_with c e es
reads_here c (got v) e es l h = reads_cons e l es h
reads_here c (put w) e es l h = reads_cons e l es h

reads_put : (c : ℕ) (es : List Entry) → reads_in (put_last c es) ≡ reads_in es
unfolding put_last
reads_put c [] = refl
reads_put c (e ∷ es) = reads_here c (last_data es) e es (put_last c es) (reads_put c es)

-- ---- what the run leaves

-- the log of an outcome, on one that was lent
abbrev lent : Outcome (Unit {0}) Reply → List ℕ → List ℕ
lent o before = encode o.log ++ drop (length o.log * 2) before

settled_leaves : (c : ℕ) {o : Outcome (Unit {0}) Reply} {before after : List ℕ} {from to : Ran} (l : Option DataAt)
    → Agrees (drop (length o.log * 2) before) o.log l
    → Leaves o before (lent o before) from
    → to ≡ ran_by c (lent o before) from l
    → after ≡ log_by c (lent o before) l
    → Leaves (settled_by c (last_data o.log) o) before after to
settled_leaves c None a left e e' = rw (a, e, e') left
settled_leaves c (Some (Got k)) a left e e' =
    rw a (record {
      reply = ap (λ (r : Ran). r.reply) e ∙ ap (tested_reply _) left.reply;
      entries = ap (λ (r : Ran). r.entries) e ∙ left.entries;
      used = ap (λ (r : Ran). r.used) e ∙ left.used;
      log = e';
    })
settled_leaves c {o} {before} (Some (Put k)) a left e e' =
    let w : ℕ = get_or (lent o before) (k * 2 + 1) 0 in
    rw a.0 (by_test (stop w && not (cmd w))
    (λ q. rw q (record {
      reply = ap (λ (r : Ran). r.reply) e ∙ left.reply;
      entries = ap (λ (r : Ran). r.entries) e ∙ left.entries ∙ sym (length_put c o.log);
      used = ap (λ (r : Ran). r.used) e ∙ left.used ∙ sym (reads_put c o.log);
      log = rw (length_put c o.log) ((rw q at e') ∙ sym (a.1 c));
    }))
    (λ q. rw q (record {
      reply = ap (λ (r : Ran). r.reply) e ∙ left.reply;
      entries = ap (λ (r : Ran). r.entries) e ∙ left.entries;
      used = ap (λ (r : Ran). r.used) e ∙ left.used;
      log = rw q at e';
    })))

-- the entries of a run are within its log, as `settle` requires
pub leaves_room : {o : Outcome (Unit {0}) Reply} {before log : List ℕ} {from : Ran} → Leaves o before log from → from.entries * 2 ≤ length log
leaves_room {o} {before} left =
    rw (left.log, left.entries)
    (omega (arith, length-append (encode o.log) (drop (length o.log * 2) before), length_encode o.log))

-- what `settle` ensures is of the outcome with its code
pub settle_leaves : (address : ℕ) (os : List (Operation ℕ)) {o : Outcome (Unit {0}) Reply} {before log after buffer : List ℕ}
    {from to : Ran}
    → Each Legal o.log
    → Leaves o before log from
    → buffer ≡ o.buffer
    → Settled (code_of address os buffer) from log to after
    → Leaves (settled address os o) before after to
settle_leaves address os {o} {before} {log} {after} {buffer} {from} {to} legal left b s =
    let place : last_at log from.entries ≡ last_at (lent o before) (length o.log) = rw (left.log, left.entries) in
    settled_leaves (code_of address os o.buffer) (last_at (lent o before) (length o.log))
    (agrees (drop (length o.log * 2) before) o.log legal)
    (subst (λ (ws : List ℕ). Leaves o before ws from) left.log left)
    (rw (place, b, left.log) at s.ran)
    (rw (place, b, left.log) at s.log)

same_buffer : (c : ℕ) (d : LastData) (o : Outcome (Unit {0}) Reply) → (settled_by c d o).buffer ≡ o.buffer
same_buffer c none o = refl
same_buffer c (got v) o = refl
same_buffer c (put w) o = refl

-- and so is the lent buffer, which it leaves as it is
pub settle_leaves_buffer : (address : ℕ) (os : List (Operation ℕ)) {o : Outcome (Unit {0}) Reply} {before log after buffer : List ℕ}
    {from to : Ran}
    → Each Legal o.log
    → LeavesBuffer o before log buffer from
    → Settled (code_of address os buffer) from log to after
    → LeavesBuffer (settled address os o) before after buffer to
settle_leaves_buffer address os {o} legal left s = record {
  ran = settle_leaves address os legal left.ran left.buffer s;
  buffer = left.buffer ∙ sym (same_buffer (code_of address os o.buffer) (last_data o.log) o);
}
