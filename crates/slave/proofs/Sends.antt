-- What the responses write to DATA_CMD, and what LeftoverBytes counts: five claims that `Waits` takes along `respond_to_read`.
use Prim.Native.Nat.{ℕ, zero, suc, ◌+◌, ◌/◌}
use native.Mathlib.Omega.{arith}
use mathlib.Core.Bool.{Bool, true, false}
use mathlib.Core.List.{List, [], ◌∷◌, ◌++◌, append-nil}
use mathlib.Core.Logic.{◌⊎◌, inl, inr, ⊎_elim}
use mathlib.Core.Path.{◌≡◌, refl, sym, ap, ◌∙◌}
use lib.Dec.{eqb, ltb}
use lib.ListN.{length, take, drop, replicate}
use Rattle.regs.specs.Fields.{no_acknowledge, arb_lost, tx_flush_cnt}
use Rattle.regs.specs.Registers.{TX_ABRT_SOURCE}
use Rattle.regs.specs.Program.{Outcome, just, logged, Result, ok, err}
use Rattle.std.specs.Prelude.{if◌then◌else◌}
use Rattle.regs.specs.declared.access.Entry.TheVariants as E
use Rattle.regs.specs.declared.answers.AbortReason.TheVariants as A
use Rattle.regs.specs.declared.answers.Answer.{Answer}
use Rattle.regs.specs.declared.answers.Answer.TheVariants.{Responded, Refused}
use Rattle.regs.specs.declared.answers.ReadStatus.TheVariants.{Done, NeedMoreBytes, LeftoverBytes}
use Rattle.regs.specs.declared.answers.Refusal.{Refusal}
use Rattle.regs.specs.declared.answers.Reply.{Reply}
use Rattle.regs.specs.declared.answers.Reply.TheVariants.{Answered, LogFull, OutOfReadings}
use Rattle.slave.specs.I2cSlave.{FIFO_SIZE, abort_reason, answer, fill_bytes, filled}
use Rattle.slave.specs.Counts.{words_sent, sent_first, words_by_poll, InChunks, OneChunkAPoll, SentOf}
use Rattle.slave.specs.Counts.{BytesInOrder, AllSent, SentFilled, FillsAfterBytes, FillsAlone, last_read}
use Rattle.slave.specs.Counts.{TrueLeftover, TrueLeftoverFilled}
use Rattle.slave.specs.declared.SlaveState.{SlaveState}
use Rattle.slave.proofs.Waits.{Claim, Kept, cleared_all}
use Rattle.slave.proofs.Responses.{Ends, Again, ended, told, responded, filled_after, filled_alone}

-- ---- one chunk a poll

abbrev Chunks : Claim
Chunks w c q o = InChunks c q (words_by_poll o.log)

marked_chunks : (q : List ℕ) (polls : List (List ℕ)) → InChunks (take FIFO_SIZE q) (drop FIFO_SIZE q) polls → InChunks [] q ([] ∷ polls)
marked_chunks q [] h = refl
marked_chunks q (ws ∷ polls) h = (refl, h)

sent_chunks : (v : ℕ) (c q : List ℕ) (polls : List (List ℕ)) → InChunks c q polls → InChunks (v ∷ c) q (sent_first v polls)
sent_chunks v c q [] h = refl
sent_chunks v c q (ws ∷ []) h = ap (λ (x : List ℕ). v ∷ x) h
sent_chunks v c q (ws ∷ (next ∷ polls)) h = (ap (λ (x : List ℕ). v ∷ x) h.0, h.1)

chunks_kept : Kept Chunks
chunks_kept =
    record {
      stopped = λ w c q r b z e. refl;
      read = λ w c q r v o e h. h;
      source = λ w c q v o h. h;
      masked = λ w q v o h. h;
      marked = λ w q o h. marked_chunks q (words_by_poll o.log) h;
      sent = λ w v c q o h. sent_chunks v c q (words_by_poll o.log) h;
    }

chunks_ends : Ends Chunks
chunks_ends = record { done = λ w b z. refl; more = λ w b z. refl; leftover = λ w c q k e b z. refl; refused = λ w c q why b z. refl }

-- ---- the bytes in order

abbrev Order : Claim
Order w c q o = SentOf (c ++ q) o

take_drop : (n : ℕ) (q : List ℕ) → take n q ++ drop n q ≡ q
take_drop zero q = refl
take_drop (suc n) [] = refl
take_drop (suc n) (x ∷ q) = ap (λ (l : List ℕ). x ∷ l) (take_drop n q)

order_kept : Kept Order
order_kept =
    record {
      stopped = λ w c q r b z e. record { unsent = c ++ q; order = refl };
      read = λ w c q r v o e h. record { unsent = h.unsent; order = h.order };
      source = λ w c q v o h. record { unsent = h.unsent; order = h.order };
      masked = λ w q v o h. record { unsent = h.unsent; order = h.order };
      marked = λ w q o h. record { unsent = h.unsent; order = h.order ∙ take_drop FIFO_SIZE q };
      sent = λ w v c q o h. record { unsent = h.unsent; order = ap (λ (l : List ℕ). v ∷ l) h.order };
    }

order_ends : Ends Order
order_ends =
    record {
      done = λ w b z. record { unsent = []; order = refl };
      more = λ w b z. record { unsent = []; order = refl };
      leftover = λ w c q k e b z. record { unsent = c ++ q; order = refl };
      refused = λ w c q why b z. record { unsent = c ++ q; order = refl };
    }

-- ---- all of them

abbrev Whole : Claim
Whole w c q o = (o.answer ≡ Answered (Responded Done)) ⊎ (o.answer ≡ Answered (Responded NeedMoreBytes)) → words_sent o.log ≡ c ++ q

not_both : {P : Type 0} (r : Reply) (a : Answer) → (r ≡ LogFull) ⊎ (r ≡ OutOfReadings) → r ≡ Answered a → P
not_both r a (inl e) h = let z : ◌≡◌ {A = ℕ} 0 1 = cc in absurd (omega arith)
not_both r a (inr e) h = let z : ◌≡◌ {A = ℕ} 0 1 = cc in absurd (omega arith)

whole_kept : Kept Whole
whole_kept =
    record {
      stopped = λ w c q r b z e. ⊎_elim (not_both r (Responded Done) e) (not_both r (Responded NeedMoreBytes) e);
      read = λ w c q r v o e h. h;
      source = λ w c q v o h. h;
      masked = λ w q v o h. h;
      marked = λ w q o h d. h d ∙ take_drop FIFO_SIZE q;
      sent = λ w v c q o h d. ap (λ (l : List ℕ). v ∷ l) (h d);
    }

leftover_not_whole : {P : Type 0} (k : ℕ)
    → (Answered (Responded (LeftoverBytes k)) ≡ Answered (Responded Done))
    ⊎ (Answered (Responded (LeftoverBytes k)) ≡ Answered (Responded NeedMoreBytes))
    → P
leftover_not_whole k (inl e) = let z : ◌≡◌ {A = ℕ} 0 1 = cc in absurd (omega arith)
leftover_not_whole k (inr e) = let z : ◌≡◌ {A = ℕ} 0 1 = cc in absurd (omega arith)

refused_not_whole : {P : Type 0} (why : Refusal)
    → (Answered (Refused why) ≡ Answered (Responded Done))
    ⊎ (Answered (Refused why) ≡ Answered (Responded NeedMoreBytes))
    → P
refused_not_whole why (inl e) = let z : ◌≡◌ {A = ℕ} 0 1 = cc in absurd (omega arith)
refused_not_whole why (inr e) = let z : ◌≡◌ {A = ℕ} 0 1 = cc in absurd (omega arith)

whole_ends : Ends Whole
whole_ends =
    record {
      done = λ w b z d. refl;
      more = λ w b z d. refl;
      leftover = λ w c q k e b z d. leftover_not_whole k d;
      refused = λ w c q why b z d. refused_not_whole why d;
    }

-- ---- fill bytes after them

abbrev Filled : ℕ → Claim
Filled f w c q o = SentFilled (c ++ q) f o

none_filled : (f : ℕ) (w : ℕ) (c q : List ℕ) (r : Reply) (b : List ℕ) (z : SlaveState) → Filled f w c q (just r b z)
none_filled f w c q r b z = record { fills = 0; unsent = c ++ q; order = sym (append-nil (c ++ q)) }

filled_kept : (f : ℕ) → Kept (Filled f)
filled_kept f =
    record {
      stopped = λ w c q r b z e. none_filled f w c q r b z;
      read = λ w c q r v o e h. record { fills = h.fills; unsent = h.unsent; order = h.order };
      source = λ w c q v o h. record { fills = h.fills; unsent = h.unsent; order = h.order };
      masked = λ w q v o h. record { fills = h.fills; unsent = h.unsent; order = h.order };
      marked = λ w q o h. record {
        fills = h.fills;
        unsent = h.unsent;
        order = h.order ∙ ap (λ (l : List ℕ). l ++ replicate h.fills f) (take_drop FIFO_SIZE q);
      };
      sent = λ w v c q o h. record { fills = h.fills; unsent = h.unsent; order = ap (λ (l : List ℕ). v ∷ l) h.order };
    }

filled_ends : (f : ℕ) → Ends (Filled f)
filled_ends f =
    record {
      done = λ w b z. none_filled f w [] [] _ b z;
      more = λ w b z. none_filled f w [] [] _ b z;
      leftover = λ w c q k e b z. none_filled f w c q _ b z;
      refused = λ w c q why b z. none_filled f w c q _ b z;
    }

-- a chunk of fill bytes, and more of them, are fill bytes
chunk_filled : (f w : ℕ) (o : Outcome SlaveState Reply)
    → Filled f w (take FIFO_SIZE (fill_bytes f)) (drop FIFO_SIZE (fill_bytes f)) o
    → Filled f w [] [] o
chunk_filled f w o h =
    let e : 16 + h.fills ≡ suc
    (suc (suc (suc (suc (suc (suc (suc (suc (suc (suc (suc (suc (suc (suc (suc h.fills))))))))))))))) =
    omega arith in
    record { fills = 16 + h.fills; unsent = h.unsent; order = rw e h.order }

-- ---- LeftoverBytes

-- the flush count is that of the source, and no other reason comes before it
abbrev Counted : Claim
Counted w c q o = (n : ℕ)
    → o.answer ≡ Answered (Responded (LeftoverBytes n))
    → (n ≡ tx_flush_cnt (last_read TX_ABRT_SOURCE w o.log))
    × (abort_reason (last_read TX_ABRT_SOURCE w o.log) ≡ A.TxNotEmpty n)

last_other : (w r v : ℕ) (o : Outcome SlaveState Reply)
    → eqb r TX_ABRT_SOURCE ≡ false
    → last_read TX_ABRT_SOURCE w (logged (E.Read r v) o).log ≡ last_read TX_ABRT_SOURCE w o.log
last_other w r v o e = ap (λ (x : Bool). last_read TX_ABRT_SOURCE (if x then v else w) o.log) e

counted_kept : Kept Counted
counted_kept =
    record {
      stopped = λ w c q r b z e n h. not_both r (Responded (LeftoverBytes n)) e h;
      read = λ w c q r v o e h n d. (
        (h n d).0 ∙ ap tx_flush_cnt (sym (last_other w r v o e)),
        ap abort_reason (last_other w r v o e) ∙ (h n d).1,
      );
      source = λ w c q v o h. h;
      masked = λ w q v o h. h;
      marked = λ w q o h. h;
      sent = λ w v c q o h. h;
    }

is_count : (w k : ℕ) → abort_reason w ≡ A.TxNotEmpty k → k ≡ tx_flush_cnt w
is_count w k = go (no_acknowledge w) (arb_lost w) (ltb 0 (tx_flush_cnt w))
  where
    go : (a b c : Bool)
        → (if a then A.NoAcknowledge else
        (if b then A.ArbitrationLoss else (if c then A.TxNotEmpty (tx_flush_cnt w) else A.Other w)))
        ≡ A.TxNotEmpty k
        → k ≡ tx_flush_cnt w
    go true b c e = let z : ◌≡◌ {A = ℕ} 0 1 = cc in absurd (omega arith)
    go false true c e = let z : ◌≡◌ {A = ℕ} 0 1 = cc in absurd (omega arith)
    go false false true e = cc
    go false false false e = let z : ◌≡◌ {A = ℕ} 0 1 = cc in absurd (omega arith)

counted_leftover : (w : ℕ) (c q : List ℕ) (k : ℕ)
    → abort_reason w ≡ A.TxNotEmpty k
    → (b : List ℕ) (z : SlaveState)
    → Counted w c q (just (Answered (Responded (LeftoverBytes k))) b z)
counted_leftover w c q k e b z n h =
    let same : k ≡ n = cc in
    (sym same ∙ is_count w k e, e ∙ ap A.TxNotEmpty same)

counted_ends : Ends Counted
counted_ends =
    record {
      done = λ w b z n h. let z : ◌≡◌ {A = ℕ} 0 1 = cc in absurd (omega arith);
      more = λ w b z n h. let z : ◌≡◌ {A = ℕ} 0 1 = cc in absurd (omega arith);
      leftover = counted_leftover;
      refused = λ w c q why b z n h. let z : ◌≡◌ {A = ℕ} 0 1 = cc in absurd (omega arith);
    }

-- ---- the calls

pub one_chunk_a_poll : OneChunkAPoll
one_chunk_a_poll bytes log readings me = (responded Chunks chunks_kept chunks_ends bytes _).holds _ readings [] me

pub bytes_in_order : BytesInOrder
bytes_in_order bytes log readings me =
    let h = (responded Order order_kept order_ends bytes _).holds (length log / 2) readings [] me in
    record { unsent = h.unsent; order = h.order ∙ take_drop FIFO_SIZE bytes }

pub all_sent : AllSent
all_sent bytes log readings me d = (responded Whole whole_kept whole_ends bytes _).holds (length log / 2) readings []
    me d
    ∙ take_drop FIFO_SIZE bytes

pub true_leftover : TrueLeftover
true_leftover bytes log readings me n e =
    let h = (responded Counted counted_kept counted_ends bytes _).holds (length log / 2) readings [] me n e in
    record { count = h.0; reason = h.1 }

again_filled : (f : ℕ) → Again (Filled f) (filled_kept f) f
again_filled f w t h = record { holds = λ room rs b z. chunk_filled f w _ (h.holds room rs b z) }

pub fills_after_bytes : FillsAfterBytes
fills_after_bytes bytes fill log readings me =
    let h = (filled_after (Filled fill) (filled_kept fill) fill (again_filled fill)
    (λ w c q why. ended (Filled fill) (filled_kept fill) (none_filled fill w c q _))
    (λ w c q r came t. cleared_all (Filled fill) (filled_kept fill) r
    (ended (Filled fill) (filled_kept fill) (none_filled fill w c q _)))
    (λ w c q r x came e. cleared_all (Filled fill) (filled_kept fill) r
    (ended (Filled fill) (filled_kept fill) (none_filled fill w c q _))) _ bytes).holds (length log / 2)
    readings [] me in
    record {
      fills = h.fills;
      unsent = h.unsent;
      order = h.order ∙ ap (λ (l : List ℕ). l ++ replicate h.fills fill) (take_drop FIFO_SIZE bytes);
    }

pub fills_alone : FillsAlone
fills_alone fill log readings me = (filled_alone (Filled fill) (filled_kept fill) fill (again_filled fill) _
    (λ w c q r x came e. cleared_all (Filled fill) (filled_kept fill) r
    (ended (Filled fill) (filled_kept fill) (none_filled fill w c q _)))).holds (length log / 2) readings [] me

filled_counted : (x : Result (Unit {0}) Refusal) (w : ℕ) (c q b : List ℕ) (z : SlaveState)
    → Counted w c q (just (Answered (answer Responded (filled x))) b z)
filled_counted (ok _) w c q b z n h = let z : ◌≡◌ {A = ℕ} 0 1 = cc in absurd (omega arith)
filled_counted (err e) w c q b z n h = let z : ◌≡◌ {A = ℕ} 0 1 = cc in absurd (omega arith)

pub true_leftover_filled : TrueLeftoverFilled
true_leftover_filled bytes fill log readings me n e =
    let h = (filled_after Counted counted_kept fill (λ w t h. record { holds = h.holds })
    (λ w c q why. ended Counted counted_kept (counted_ends.refused w c q why))
    (λ w c q r came t. told Counted counted_kept counted_ends w c q r came)
    (λ w c q r x came e. cleared_all Counted counted_kept r (ended Counted counted_kept (filled_counted x w c q)))
    _ bytes).holds (length log / 2) readings [] me n e in
    record { count = h.0; reason = h.1 }
