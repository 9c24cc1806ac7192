-- The operations of an open call are those of its form: `frame_right` for the frame that opens it, `came_more` and
-- `came_closed` for the frames after that.
use Prim.Native.Nat.{ℕ}
use mathlib.Core.Bool.{Bool, true, false}
use mathlib.Core.List.{List, [], ◌∷◌, ◌++◌}
use mathlib.Core.Path.{◌≡◌, refl, ap, ◌∙◌}
use lib.Dec.{eqb}
use lib.ListN.{length}
use Rattle.std.specs.Prelude.{if◌then◌else◌, Option, Some, None}
use Rattle.regs.proofs.Tests.{false_true}
use Rattle.master.specs.Operations.{Operation, writes, reads}
use Rattle.replay_calls.specs.Form as Form
use Rattle.replay_calls.specs.declared.form.Form.{Form}
use Rattle.replay_calls.specs.declared.Call.{Call}
use Rattle.replay_calls.specs.declared.Call.TheVariants.{Clock, Master, Reset, Listen, Respond, Fill, RespondAndFill}
use Rattle.text_hex.specs.Text.{number_at, bytes_of}
use Rattle.replay_frames.specs.Frame.{Frame, opens, write, read, reading, run, bad, frame_of, by_head, bytes_frame}
use Rattle.replay_frames.specs.Frame.{of_kind, slave_of, sized, clock_of, master_by, master_of, reset_of, listen_of, fill_of}
use Rattle.replay_frames.specs.Frame.{read_of, reading_of, head_of}
use Rattle.replay_frames.specs.declared.Line.{Line}
use Rattle.replay_session.specs.Session.{wants_by, wants_of, read_taken, write_taken, complete}
use Rattle.replay_session.specs.declared.Wants.{Wants}
use Rattle.replay_session.specs.declared.Wants.TheVariants.{Nothing, Write}

-- ---- operations in order

abbrev pub taken : Operation ℕ → Option Wants → Option Wants
taken o None = None
taken (writes bs) (Some w) = write_taken w
taken (reads n) (Some w) = read_taken w

-- what is wanted after some operations, if each of them may come
unfoldable pub after : List (Operation ℕ) → Option Wants → Option Wants
after [] t = t
after (o ∷ os) t = after os (taken o t)

after_more : (os : List (Operation ℕ)) (o : Operation ℕ) (t : Option Wants) → after (os ++ (o ∷ [])) t ≡ taken o (after os t)
unfolding after
after_more [] o t = refl
after_more (p ∷ os) o t = after_more os o (taken p t)

-- ---- the call's form

-- a response has come with its bytes
abbrev pub form_of : Call → Wants
form_of (Clock frequency clk) = Nothing
form_of (Master form address) = wants_by form.kind
form_of (Reset address general_call) = Nothing
form_of (Listen n) = Nothing
form_of Respond = Write
form_of (Fill fill) = Nothing
form_of (RespondAndFill fill) = Write

abbrev pub done : Option Wants → Bool
done None = false
done (Some w) = complete w

-- at the start `first` was wanted, now w is wanted, and os have come: an operation that may come now may come after os,
-- and where the call can run, os are enough
pub record Came (first w : Wants) (os : List (Operation ℕ)) : Type 0 where
  pub more : (o : Operation ℕ) (v : Wants) → taken o (Some w) ≡ Some v → taken o (after os (Some first)) ≡ Some v
  pub enough : complete w ≡ true → done (after os (Some first)) ≡ true

came_by : {first w : Wants} {os : List (Operation ℕ)} → after os (Some first) ≡ Some w → Came first w os
came_by e = record { more = λ o v t. ap (taken o) e ∙ t; enough = λ c. ap done e ∙ c }

module _ {first w : Wants} {os : List (Operation ℕ)} (p : Came first w os) where
  pub came_more : (o : Operation ℕ) (v : Wants) → taken o (Some w) ≡ Some v → Came first v (os ++ (o ∷ []))
  came_more o v t = came_by (after_more os o (Some first) ∙ p.more o v t)

  -- after a reading no more operations come
  pub came_closed : complete w ≡ true → Came first Nothing os
  came_closed c = record { more = λ o v t. absurd (none_taken o t); enough = λ _. p.enough c }
    where
      is_now : Option Wants → Bool
      is_now None = false
      is_now (Some w) = true

      none_taken : (o : Operation ℕ) {v : Wants} → taken o (Some Nothing) ≡ Some v → ⊥
      none_taken (writes bs) z = false_true (ap is_now z)
      none_taken (reads n) z = false_true (ap is_now z)

-- ---- frames

abbrev pub OpensRight : Frame → Type 0
OpensRight (opens c os) = Came (form_of c) (wants_of c) os
OpensRight (write bs) = Unit {0}
OpensRight (read n) = Unit {0}
OpensRight (reading v) = Unit {0}
OpensRight run = Unit {0}
OpensRight bad = Unit {0}

pub record Right (f : Frame) : Type 0 where
  pub right : OpensRight f

either : (t : Bool) {f g : Frame} → Right f → Right g → Right (if t then f else g)
either true p q = p
either false p q = q

-- a call that is opened with no operation
came_none : (first : Wants) → Came first first []
unfolding after
came_none first = came_by refl

opened : (c : Call) (os : List (Operation ℕ)) → Came (form_of c) (wants_of c) os → Right (opens c os)
opened c os p = record { right = p }

is_bad : Right bad
is_bad = record { right = tt }

is_run : Right run
is_run = record { right = tt }

-- a line of n bytes
sized_right : (line : List ℕ) (n : ℕ) {f : Frame} → Right f → Right (sized line n f)
sized_right line n p = either (eqb (length line) n) p is_bad

clock_right : (f c : Option ℕ) → Right (clock_of f c)
clock_right (Some f) (Some c) = opened (Clock f c) [] (came_none Nothing)
clock_right (Some f) None = is_bad
clock_right None c = is_bad

master_by_right : (form : Option Form) (address : ℕ) → Right (master_by form address)
master_by_right (Some form) address = opened (Master form address) [] (came_none (wants_by form.kind))
master_by_right None address = is_bad

master_right : (f a : Option ℕ) → Right (master_of f a)
master_right (Some bits) (Some address) = master_by_right (Form.form_of bits) address
master_right (Some bits) None = is_bad
master_right None address = is_bad

reset_right : (a g : Option ℕ) → Right (reset_of a g)
reset_right (Some address) (Some g) =
    either (eqb g 0) (opened (Reset address false) [] (came_none Nothing))
    (either (eqb g 1) (opened (Reset address true) [] (came_none Nothing)) is_bad)
reset_right (Some address) None = is_bad
reset_right None g = is_bad

listen_right : (n : Option ℕ) → Right (listen_of n)
listen_right (Some n) = record { right = came_none Nothing }
listen_right None = is_bad

fill_right : (b : Option ℕ) → Right (fill_of b)
fill_right (Some b) = record { right = came_none Nothing }
fill_right None = is_bad

read_right : (n : Option ℕ) → Right (read_of n)
read_right (Some n) = record { right = tt }
read_right None = is_bad

reading_right : (w : Option ℕ) → Right (reading_of w)
reading_right (Some w) = record { right = tt }
reading_right None = is_bad

slave_right : (line : List ℕ) (form : Option ℕ) → Right (slave_of line form)
slave_right line None = is_bad
slave_right line (Some form) =
    either (eqb form 0) (sized_right line 10 (reset_right (number_at line 4 4) (number_at line 8 2)))
    (either (eqb form 1) (sized_right line 8 (listen_right (number_at line 4 4)))
    (either (eqb form 3) (sized_right line 6 (fill_right (number_at line 4 2))) is_bad))

kind_right : (line : List ℕ) (kind : Option ℕ) → Right (of_kind line kind)
kind_right line None = is_bad
kind_right line (Some kind) =
    either (eqb kind 0x01) (sized_right line 18 (clock_right (number_at line 2 8) (number_at line 10 8)))
    (either (eqb kind 0x02) (sized_right line 8 (master_right (number_at line 2 2) (number_at line 4 4)))
    (either (eqb kind 0x03) (slave_right line (number_at line 2 2))
    (either (eqb kind 0x11) (sized_right line 6 (read_right (number_at line 2 4)))
    (either (eqb kind 0x20) (sized_right line 10 (reading_right (number_at line 2 8)))
    (either (eqb kind 0xFF) (sized_right line 2 is_run) is_bad)))))

bytes_right : (l : Line) (bs : Option (List ℕ)) → Right (bytes_frame l bs)
unfolding after
bytes_right Line.Write None = is_bad
bytes_right Line.Respond None = is_bad
bytes_right (Line.RespondAndFill b) None = is_bad
bytes_right Line.Write (Some bs) = record { right = tt }
bytes_right Line.Respond (Some bs) = record { right = came_by refl }
bytes_right (Line.RespondAndFill b) (Some bs) = record { right = came_by refl }

pub frame_right : (line : List ℕ) → Right (frame_of line)
frame_right line = by (head_of line)
  where
    by : (h : Option Line) → Right (by_head line h)
    by None = kind_right line (number_at line 0 2)
    by (Some l) = bytes_right l (bytes_of _)
