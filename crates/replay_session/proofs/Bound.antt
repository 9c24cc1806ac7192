-- The bounded session prints what Session says. Where it keeps nothing, the operations are beyond the limits and, as
-- those of the call's form (proofs/Forms.antt), refused by the call's driver with number 20 (proofs/Over.antt).
use Prim.Native.Nat.{ℕ, ◌+◌, ◌<◌}
use native.Mathlib.Omega.{arith}
use mathlib.Core.Bool.{Bool, true, false, ◌||◌}
use mathlib.Core.List.{List, [], ◌∷◌, ◌++◌, append_assoc, append-nil}
use mathlib.Core.Path.{◌≡◌, refl, sym, ap, ◌∙◌}
use lib.Dec.{ltb}
use lib.ListN.{length, length-append}
use borrow.Author.Tests.{ltb-true, lt-ltb}
use Rattle.regs.proofs.Tests.{false_true}
use Rattle.std.specs.Prelude.{if◌then◌else◌, Option, Some, None}
use Rattle.master.specs.Operations.{Operation, writes, reads, READ, WRITE}
use Rattle.slave.specs.declared.SlaveState.{SlaveState}
use Rattle.replay_calls.specs.Calls.{MOST_READINGS, Listed, listed, listing, call_text, slave_after}
use Rattle.replay_calls.specs.declared.Call.{Call}
use Rattle.text_hex.specs.Text.{lines}
use Rattle.replay_frames.specs.Frame.{Frame, opens, write, read, reading, run, bad, bytes_frame, frame_of}
use Rattle.replay_frames.specs.declared.Line.{Line}
use Rattle.replay_session.specs.Session.{Next, going, malformed, Session, read_taken, write_taken, complete}
use Rattle.replay_session.specs.Session.{next, is_open, onward, line_after, printed_from, printed, fresh}
use Rattle.replay_session.specs.Session as S
use Rattle.replay_session.specs.Inner.Bounded.{over, Kept, kept, large, bounded, with_operation, add, Held, idle, within}
use Rattle.replay_session.specs.Inner.Bounded.{operation, kept_text, kept_slave, next_held, holds_call}
use Rattle.replay_session.specs.declared.Wants.{Wants}
use Rattle.replay_session.specs.declared.Wants.TheVariants.{Nothing}
use Rattle.replay_session.proofs.Forms.{taken, after, done, form_of, Came, came_more, came_closed, Right, frame_right}
use Rattle.replay_session.proofs.Over.{over_refused}

-- one more operation
same_listed : {k k' l l' b b' : List ℕ} {r r' : ℕ} → k ≡ k' → l ≡ l' → b ≡ b' → r ≡ r' → listed k l b r ≡ listed k' l' b' r'
same_listed p q s t = rw (p, q, s, t)

listing_more : (os : List (Operation ℕ)) (o : Operation ℕ) → listing (os ++ (o ∷ [])) ≡ with_operation (listing os) o
unfolding listing
listing_more [] (writes bs) = same_listed refl refl (append-nil bs) refl
listing_more [] (reads n) = same_listed refl refl refl (omega arith)
listing_more (writes cs ∷ os) (writes bs) =
    rw (listing_more os (writes bs)) (same_listed refl refl (sym (append_assoc cs (listing os).bytes bs)) refl)
listing_more (writes cs ∷ os) (reads n) = rw (listing_more os (reads n))
listing_more (reads m ∷ os) (writes bs) = rw (listing_more os (writes bs))
listing_more (reads m ∷ os) (reads n) = rw (listing_more os (reads n)) (same_listed refl refl refl (omega arith))

-- what is beyond the limits stays beyond them
or_true : (a b c : Bool) {a' b' c' : Bool}
    → (a ≡ true → a' ≡ true)
    → (b ≡ true → b' ≡ true)
    → (c ≡ true → c' ≡ true)
    → a || (b || c) ≡ true
    → a' || (b' || c') ≡ true
or_true true b c f g h e = rw (f refl)
or_true false true c {a'} {b'} {c'} f g h e = rw (g refl) (either a' c')
  where
    either : (x y : Bool) → x || (true || y) ≡ true
    either true y = refl
    either false y = refl
or_true false false true {a'} {b'} f g h e = rw (h refl) (either a' b')
  where
    either : (x y : Bool) → x || (y || true) ≡ true
    either true y = refl
    either false true = refl
    either false false = refl
or_true false false false f g h e = absurd (false_true e)

grows : (n m k : ℕ) → m < k + 1 → ltb n m ≡ true → ltb n k ≡ true
grows n m k l e = lt-ltb n k (omega (arith, ltb-true n m e))

over_more : (l : Listed) (o : Operation ℕ) → over l ≡ true → over (with_operation l o) ≡ true
over_more l (writes bs) =
    or_true (ltb 64 (length l.kinds)) (ltb 4096 (length l.bytes)) (ltb 4096 l.room)
    (grows 64 (length l.kinds) (length (l.kinds ++ (WRITE ∷ []))) (rw length-append (omega arith)))
    (grows 4096 (length l.bytes) (length (l.bytes ++ bs)) (rw length-append (omega arith)))
    (λ e. e)
over_more l (reads n) =
    or_true (ltb 64 (length l.kinds)) (ltb 4096 (length l.bytes)) (ltb 4096 l.room)
    (grows 64 (length l.kinds) (length (l.kinds ++ (READ ∷ []))) (rw length-append (omega arith)))
    (λ e. e)
    (grows 4096 l.room (l.room + n) (omega arith))

pub bounded_more : (os : List (Operation ℕ)) (o : Operation ℕ) → bounded (listing (os ++ (o ∷ []))) ≡ add (bounded (listing os)) o
bounded_more os o = rw (listing_more os o) (go (over (listing os)) refl)
  where
    go : (b : Bool) → over (listing os) ≡ b → bounded (with_operation (listing os) o) ≡ add (bounded (listing os)) o
    go true e = rw (e, over_more (listing os) o e)
    go false e = rw e

-- ---- more bytes than any call may have, whichever they are

wide : (l : Listed) (bs : List ℕ) → 4096 < length bs → bounded (with_operation l (writes bs)) ≡ large
wide l bs h = rw beyond
  where
    last : (b c : Bool) → b || (true || c) ≡ true
    last true c = refl
    last false c = refl

    beyond : over (with_operation l (writes bs)) ≡ true
    beyond = rw (lt-ltb 4096 (length (l.bytes ++ bs)) (rw length-append (omega arith)))
        (last (ltb 64 (length (l.kinds ++ (1 ∷ [])))) (ltb 4096 l.room))

pub add_wide : (k : Kept) (bs : List ℕ) → 4096 < length bs → add k (writes bs) ≡ large
add_wide large bs h = refl
add_wide (kept l) bs h = wide l bs h

opens_wide : (bs : List ℕ) → 4096 < length bs → bounded (listing (writes bs ∷ [])) ≡ large
opens_wide bs h = bounded_more [] (writes bs) ∙ add_wide (bounded (listing [])) bs h

pub wide_alike : (h : Held) (l : Line) (bs cs : List ℕ)
    → 4096 < length bs
    → 4096 < length cs
    → next_held h (bytes_frame l (Some bs)) ≡ next_held h (bytes_frame l (Some cs))
wide_alike (idle s) Line.Write bs cs p q = refl
wide_alike (idle s) Line.Respond bs cs p q = rw (opens_wide bs p, opens_wide cs q)
wide_alike (idle s) (Line.RespondAndFill b) bs cs p q = rw (opens_wide bs p, opens_wide cs q)
wide_alike (within s c w k rs) Line.Write bs cs p q = rw (add_wide k bs p, add_wide k cs q)
wide_alike (within s c w k rs) Line.Respond bs cs p q = refl
wide_alike (within s c w k rs) (Line.RespondAndFill b) bs cs p q = refl

-- ---- session by session

abbrev held : Session → Held
held (S.idle s) = idle s
held (S.within s c w os rs) = within s c w (bounded (listing os)) rs

abbrev both : Next Session → Next Held
both (going h t) = going (held h) t
both malformed = malformed

-- the operations of an open call are those of its form
abbrev Formed : Session → Type 0
Formed (S.idle s) = Unit {0}
Formed (S.within s c w os rs) = Came (form_of c) w os

keeps : (s : SlaveState) (c : Call) (os : List (Operation ℕ)) (o : Operation ℕ) (rs : List ℕ) (t : Option Wants)
    → operation s c (add (bounded (listing os)) o) rs t ≡ both (S.operation s c (os ++ (o ∷ [])) rs t)
keeps s c os o rs None = refl
keeps s c os o rs (Some w) = rw (bounded_more os o)

-- where nothing is kept, the call's driver refuses with 20
runs : (s : SlaveState) (c : Call) (os : List (Operation ℕ)) (rs : List ℕ) → done (after os (Some (form_of c))) ≡ true
    → going (idle (kept_slave c (bounded (listing os)) rs s)) (kept_text c (bounded (listing os)) rs s) ≡ going
    (idle (slave_after c (listing os) rs s)) (call_text c (listing os) rs s)
runs s c os rs d = go (over (listing os)) refl
  where
    go : (b : Bool)
        → over (listing os) ≡ b
        → going (idle (kept_slave c (bounded (listing os)) rs s)) (kept_text c (bounded (listing os)) rs s) ≡ going
        (idle (slave_after c (listing os) rs s)) (call_text c (listing os) rs s)
    go true e = rw (e, (over_refused c os rs s d e).text, (over_refused c os rs s d e).state)
    go false e = rw e

commutes : (h : Session) (f : Frame) → Formed h → next_held (held h) f ≡ both (next h f)
commutes (S.idle s) (opens c os) p = refl
commutes (S.idle s) (write bs) p = refl
commutes (S.idle s) (read n) p = refl
commutes (S.idle s) (reading v) p = refl
commutes (S.idle s) run p = refl
commutes (S.idle s) bad p = refl
commutes (S.within s c w os rs) (opens d ps) p = refl
commutes (S.within s c w os rs) (write bs) p = keeps s c os (writes bs) rs (write_taken w)
commutes (S.within s c w os rs) (read n) p = keeps s c os (reads n) rs (read_taken w)
commutes (S.within s c w os rs) (reading v) p = go (complete w) (ltb (length rs) MOST_READINGS)
  where
    go : (a b : Bool)
        → (if a then
        (if b then going (within s c Nothing (bounded (listing os)) (rs ++ (v ∷ []))) [] else malformed) else
        malformed)
        ≡ both (if a then (if b then going (S.within s c Nothing os (rs ++ (v ∷ []))) [] else malformed) else malformed)
    go true true = refl
    go true false = refl
    go false b = refl
commutes (S.within s c w os rs) run p = go (complete w) refl
  where
    go : (a : Bool) → complete w ≡ a
        → (if a then going (idle (kept_slave c (bounded (listing os)) rs s))
        (kept_text c (bounded (listing os)) rs s) else malformed)
        ≡ both (if a then going (S.idle (slave_after c (listing os) rs s)) (call_text c (listing os) rs s) else malformed)
    go true e = runs s c os rs (p.enough e)
    go false e = refl
commutes (S.within s c w os rs) bad p = refl

abbrev FormedNext : Next Session → Type 0
FormedNext (going h t) = Formed h
FormedNext malformed = Unit {0}

taken_formed : (s : SlaveState) (c : Call) {w : Wants} {os : List (Operation ℕ)} (o : Operation ℕ) (rs : List ℕ) (t : Option Wants)
    → Came (form_of c) w os
    → taken o (Some w) ≡ t
    → FormedNext (S.operation s c (os ++ (o ∷ [])) rs t)
taken_formed s c o rs None p e = tt
taken_formed s c o rs (Some v) p e = came_more p o v e

formed : (h : Session) (f : Frame) → Formed h → Right f → FormedNext (next h f)
formed (S.idle s) (opens c os) p r = r.right
formed (S.idle s) (write bs) p r = tt
formed (S.idle s) (read n) p r = tt
formed (S.idle s) (reading v) p r = tt
formed (S.idle s) run p r = tt
formed (S.idle s) bad p r = tt
formed (S.within s c w os rs) (opens d ps) p r = tt
formed (S.within s c w os rs) (write bs) p r = taken_formed s c (writes bs) rs (write_taken w) p refl
formed (S.within s c w os rs) (read n) p r = taken_formed s c (reads n) rs (read_taken w) p refl
formed (S.within s c w os rs) (reading v) p r = go (complete w) refl (ltb (length rs) MOST_READINGS)
  where
    go : (a : Bool) → complete w ≡ a → (b : Bool)
        → FormedNext (if a then (if b then going (S.within s c Nothing os (rs ++ (v ∷ []))) [] else malformed) else malformed)
    go true e true = came_closed p e
    go true e false = tt
    go false e b = tt
formed (S.within s c w os rs) run p r = go (complete w)
  where
    go : (a : Bool)
        → FormedNext (if a then going (S.idle (slave_after c (listing os) rs s)) (call_text c (listing os) rs s) else malformed)
    go true = tt
    go false = tt
formed (S.within s c w os rs) bad p r = tt

same_inside : (h : Session) → holds_call (held h) ≡ is_open h
same_inside (S.idle s) = refl
same_inside (S.within s c w os rs) = refl

same_from : (ls : List (List ℕ)) (line : ℕ) (h : Session) → Formed h
    → printed_from next_held holds_call line (held h) ls ≡ printed_from next is_open line h ls
unfolding printed_from
same_from [] line h p = rw (same_inside h)
same_from (l ∷ ls) line h p =
    rw (commutes h (frame_of l) p)
    (go (next h (frame_of l)) (formed h (frame_of l) p (frame_right l)) (λ t q. same_from ls (line_after line) t q))
  where
    go : (n : Next Session)
        → FormedNext n
        → ((t : Session)
        → Formed t
        → printed_from next_held holds_call (line_after line) (held t) ls ≡ printed_from next is_open
        (line_after line) t ls)
        → onward line (both n) (λ t. printed_from next_held holds_call (line_after line) t ls) ≡ onward line n
        (λ t. printed_from next is_open (line_after line) t ls)
    go (going t text) q same = ap (λ (x : List ℕ). text ++ x) (same t q)
    go malformed q same = refl

pub same_printed : (input : List ℕ) → printed_from next_held holds_call 1 (idle fresh) (lines input) ≡ printed input
same_printed input = same_from (lines input) 1 (S.idle fresh) tt
