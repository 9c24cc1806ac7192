-- A machine that does what a behaviour does, over any machine.
--     Agree m s b c z t    the machine, at the point s with the buffer b, does the first m things that the
--                          behaviour t does from the buffer c and the state z:
--                          at each access, b is what t has made of c, and the machine's state what t has made of z
--     ran_is               so the run from s leaves the outcome of t
use Prim.Native.Nat.{ℕ, zero, suc, ◌+◌, ◌*◌, ◌/◌, ◌<◌, ◌≤◌, zero-le, suc-le-suc}
use native.Mathlib.Omega.{arith}
use native.Mathlib.Nat.{lt-suc_self, le_refl, add-zero, zero-add}
use native.Mathlib.Numerals.{add-one}
use mathlib.Core.Bool.{Bool, true, false}
use mathlib.Core.List.{List, [], ◌∷◌}
use mathlib.Core.Path.{◌≡◌, refl, ap, ◌∙◌}
use lib.Dec.{ltb}
use lib.ListN.{length, get_or, set, drop, drop_of_length-le, length-set}
use lib.Seq.{sets, sets-eq, drop-cons}
use borrow.Author.Tests.{ltb-true, ltb-false}
use Rattle.regs.specs.Program.{Behaviour, ends, reads, writes, marks, stores, asks, keeps}
use Rattle.std.specs.Prelude.{if◌then◌else◌, None, Some, Ok, Err}
use Rattle.regs.specs.Program.{cut, Program, behaviour, turns, Turn, by_turn, rounds, Outcome, outcome, just}
use Rattle.regs.specs.Program.{logged}
use Rattle.regs.specs.Log.{encode, reads_in, Leaves, LeavesBuffer, LeavesState, LeavesAll, expected}
use Rattle.regs.specs.Inner.Machine.{taken, by_performed, Final, final, entered, ran}
use Rattle.regs.specs.Steps.{Machine, stored_in}
use Rattle.regs.specs.declared.answers.Answer.{Answer}
use Rattle.regs.specs.declared.answers.Reply.{Reply}
use Rattle.regs.specs.declared.answers.Reply.TheVariants.{Answered, LogFull, OutOfReadings}
use Rattle.regs.specs.declared.access.Ran.{Ran}
use Rattle.regs.specs.declared.access.Entry.{Entry}
use Rattle.regs.specs.declared.access.Entry.TheVariants as E
use Rattle.regs.specs.declared.access.Next.TheVariants.{Read, Write, Mark, Finished}
use Rattle.regs.specs.Store.{Store}
use Rattle.regs.specs.Store.{Performed}

module _ (M : Machine) where
  -- the machine's buffer and state are those of the behaviour
  abbrev pub Same : M.S → List ℕ → List ℕ → M.K → Type 0
  Same s b c z = (b ≡ c) × (M.state s ≡ z)

  -- one access, with what is done before it; R of what follows
  abbrev pub Match : (M.S → List ℕ → List ℕ → M.K → Behaviour M.K Answer → Type 0)
      → M.S
      → List ℕ
      → List ℕ
      → M.K
      → Behaviour M.K Answer
      → Type 0
  Match R s b c z (ends a) = Same s b c z × (M.next s ≡ Finished a)
  Match R s b c z (reads r f) =
      Same s b c z × ((M.next s ≡ Read r) × ((v : ℕ) → R (M.advance s v) (stored_in b (M.store s v)) c z (f v)))
  Match R s b c z (writes r v t) = Same s b c z × ((M.next s ≡ Write r v) × R (M.advance s 0) (stored_in b (M.store s 0)) c z t)
  Match R s b c z (marks x t) = Same s b c z × ((M.next s ≡ Mark x) × R (M.advance s 0) (stored_in b (M.store s 0)) c z t)
  Match R s b c z (stores i v t) = Match R s b (set c i v) z t
  Match R s b c z (asks f) = Match R s b c z (f z)
  Match R s b c z (keeps z' t) = Match R s b c z' t
  Match R s b c z cut = ⊥

  abbrev pub Steps : ℕ → M.S → List ℕ → List ℕ → M.K → Behaviour M.K Answer → Type 0
  Steps zero s b c z t = Unit {0}
  Steps (suc m) s b c z t = Match (Steps m) s b c z t

  -- a record, so that what it speaks of can be told from it
  pub record Agree (m : ℕ) (s : M.S) (b c : List ℕ) (z : M.K) (t : Behaviour M.K Answer) : Type 0 where
    pub steps : Steps m s b c z t

  pub ends_agree : (m : ℕ) {s : M.S} {b : List ℕ} {a : Answer} → M.next s ≡ Finished a → Agree m s b b (M.state s) (ends a)
  ends_agree zero e = record { steps = tt }
  ends_agree (suc m) e = record { steps = ((refl, refl), e) }

  pub reads_agree : (m : ℕ) {s : M.S} {b : List ℕ} {r : ℕ} {f : ℕ → Behaviour M.K Answer} → M.next s ≡ Read r
      → ((m' : ℕ) → m' < m → (v : ℕ) → Agree m' (M.advance s v) (stored_in b (M.store s v)) b (M.state s) (f v))
      → Agree m s b b (M.state s) (reads r f)
  reads_agree zero e h = record { steps = tt }
  reads_agree (suc m) e h = record { steps = ((refl, refl), (e, λ v. (h m (lt-suc_self m) v).steps)) }

  pub writes_agree : (m : ℕ) {s : M.S} {b : List ℕ} {r v : ℕ} {t : Behaviour M.K Answer} → M.next s ≡ Write r v
      → ((m' : ℕ) → m' < m → Agree m' (M.advance s 0) (stored_in b (M.store s 0)) b (M.state s) t)
      → Agree m s b b (M.state s) (writes r v t)
  writes_agree zero e h = record { steps = tt }
  writes_agree (suc m) e h = record { steps = ((refl, refl), (e, (h m (lt-suc_self m)).steps)) }

  pub marks_agree : (m : ℕ) {s : M.S} {b : List ℕ} {x : ℕ} {t : Behaviour M.K Answer} → M.next s ≡ Mark x
      → ((m' : ℕ) → m' < m → Agree m' (M.advance s 0) (stored_in b (M.store s 0)) b (M.state s) t)
      → Agree m s b b (M.state s) (marks x t)
  marks_agree zero e h = record { steps = tt }
  marks_agree (suc m) e h = record { steps = ((refl, refl), (e, (h m (lt-suc_self m)).steps)) }

  pub stores_agree : (m : ℕ) {s : M.S} {b c : List ℕ} {z : M.K} {i v : ℕ} {t : Behaviour M.K Answer}
      → Agree m s b (set c i v) z t
      → Agree m s b c z (stores i v t)
  stores_agree zero h = record { steps = tt }
  stores_agree (suc m) h = record { steps = h.steps }

  pub asks_agree : (m : ℕ) {s : M.S} {b c : List ℕ} {z : M.K} {f : M.K → Behaviour M.K Answer}
      → Agree m s b c z (f z)
      → Agree m s b c z (asks f)
  asks_agree zero h = record { steps = tt }
  asks_agree (suc m) h = record { steps = h.steps }

  pub keeps_agree : (m : ℕ) {s : M.S} {b c : List ℕ} {z z' : M.K} {t : Behaviour M.K Answer}
      → Agree m s b c z' t
      → Agree m s b c z (keeps z' t)
  keeps_agree zero h = record { steps = tt }
  keeps_agree (suc m) h = record { steps = h.steps }

  -- a loop whose every turn starts with a read at the point s: a turn that goes on does what the body does and comes back to s
  module _ (s : M.S) (n r : ℕ) (more : ℕ → Bool) (body : Program M.K Answer (Unit {0}))
      (k : ℕ → Behaviour M.K Answer) (e : M.next s ≡ Read r) where
    pub while_agree : (left m : ℕ) → m ≤ left → (b : List ℕ)
        → ((m' : ℕ) → m' < m → (b : List ℕ) (t : Behaviour M.K Answer)
        → ((m'' : ℕ) → m'' ≤ m' → (b' : List ℕ) → Agree m'' s b' b' (M.state s) t) → (v : ℕ) → more v ≡ true
        → Agree m' (M.advance s v) (stored_in b (M.store s v)) b (M.state s) (body n (λ _. t)))
        → ((m' : ℕ)
        → m' < m
        → (b : List ℕ) (v : ℕ)
        → more v ≡ false
        → Agree m' (M.advance s v) (stored_in b (M.store s v)) b (M.state s) (k v))
        → Agree m s b b (M.state s) (turns left n r more body k)
    unfolding turns
    while_agree zero zero h b again out = record { steps = tt }
    while_agree zero (suc m) h b again out = absurd (omega arith)
    while_agree (suc left) zero h b again out = record { steps = tt }
    while_agree (suc left) (suc m) h b again out =
        record {
          steps = (
            (refl, refl),
            (
              e,
              λ v. (go (λ m'' l b'. while_agree left m'' (omega arith) b' (λ m' l'. again m' (omega arith))
                  (λ m' l'. out m' (omega arith)))
                  v (more v) refl).steps,
            ),
          );
        }
      where
        go : ((m'' : ℕ) → m'' ≤ m → (b' : List ℕ) → Agree m'' s b' b' (M.state s) (turns left n r more body k))
            → (v : ℕ) (q : Bool)
            → more v ≡ q
            → Agree m (M.advance s v) (stored_in b (M.store s v)) b (M.state s)
            (if q then body n (λ _. turns left n r more body k) else k v)
        go ih v true q = again m (lt-suc_self m) b (turns left n r more body k) ih v q
        go ih v false q = out m (lt-suc_self m) b v q

  -- a general loop at the points `at x y`, where it carries x: each turn that comes
  -- round again has made an access, so that it comes back with less to agree on
  module _ {X Y B : Type 0} (n : ℕ) (body : X → Program M.K Answer (Turn X B)) (k : B → Behaviour M.K Answer)
      (at : X → Y → M.S) (Holds : X → Y → Type 0) where
    pub loop_agree : (left m : ℕ) → m ≤ left
        → ((m' : ℕ) → m' ≤ m → (x : X) (y : Y) (b : List ℕ) → Holds x y → (t : X → Behaviour M.K Answer)
        → ((m'' : ℕ) → m'' < m' → (x' : X) (y' : Y) (b' : List ℕ) → Holds x' y' → Agree m'' (at x' y') b' b' (M.state (at x' y')) (t x'))
        → Agree m' (at x y) b b (M.state (at x y)) (body x n (λ w. by_turn w t k)))
        → (x : X) (y : Y) (b : List ℕ) → Holds x y → Agree m (at x y) b b (M.state (at x y)) (rounds left n body x k)
    unfolding rounds
    loop_agree zero zero h turn x y b i = record { steps = tt }
    loop_agree zero (suc m) h turn x y b i = absurd (omega arith)
    loop_agree (suc left) m h turn x y b i =
        turn m (le_refl m) x y b i (λ x'. rounds left n body x' k)
        (λ m'' l. loop_agree left m'' (omega arith) (λ m' l'. turn m' (omega arith)))

  -- what an outcome adds to a run with k entries and u readings behind it
  abbrev pub finish : ℕ → ℕ → List ℕ → Outcome M.K Reply → Final M.K
  finish k u l o = final o.answer (k + length o.log) (u + reads_in o.log) (sets l (k * 2) (encode o.log)) o.buffer o.state

  finish_just : (k u : ℕ) (l : List ℕ) (a : Reply) (s : M.S) (b c : List ℕ) (z : M.K)
      → Same s b c z
      → final a k u l b (M.state s) ≡ finish k u l (just a c z)
  finish_just k u l a s b c z e = rw (e.0, e.1, add-zero k, add-zero u)

  finish_read : (k u : ℕ) (l : List ℕ) (r v : ℕ) (o : Outcome M.K Reply)
      → finish (k + 1) (u + 1) (entered l k (0x100 + r) v) o ≡ finish k u l (logged (E.Read r v) o)
  finish_read k u l r v o =
      let p : k * 2 + 1 ≡ suc (k * 2) = omega arith in
      let q : (k + 1) * 2 ≡ suc (suc (k * 2)) = omega arith in
      let e : k + 1 + length o.log ≡ k + suc (length o.log) = omega arith in
      let w : u + 1 + reads_in o.log ≡ u + suc (reads_in o.log) = omega arith in
      rw (p, q, e, w)

  finish_write : (k u : ℕ) (l : List ℕ) (r v : ℕ) (o : Outcome M.K Reply)
      → finish (k + 1) u (entered l k (0x200 + r) v) o ≡ finish k u l (logged (E.Write r v) o)
  finish_write k u l r v o =
      let p : k * 2 + 1 ≡ suc (k * 2) = omega arith in
      let q : (k + 1) * 2 ≡ suc (suc (k * 2)) = omega arith in
      let e : k + 1 + length o.log ≡ k + suc (length o.log) = omega arith in
      rw (p, q, e)

  finish_mark : (k u : ℕ) (l : List ℕ) (x : ℕ) (o : Outcome M.K Reply)
      → finish (k + 1) u (entered l k (0x300 + x) 0) o ≡ finish k u l (logged (E.Marked x) o)
  finish_mark k u l x o =
      let p : k * 2 + 1 ≡ suc (k * 2) = omega arith in
      let q : (k + 1) * 2 ≡ suc (suc (k * 2)) = omega arith in
      let e : k + 1 + length o.log ≡ k + suc (length o.log) = omega arith in
      rw (p, q, e)

  -- an access that takes a reading: with one left, and with none
  with_reading : (rs : List ℕ) (u r : ℕ) (P : List ℕ → Performed → Type 0)
      → (u < length rs → P (get_or rs u 0 ∷ drop (u + 1) rs) (Ok ((get_or rs u 0), (u + 1))))
      → (length rs ≤ u → P [] (Err OutOfReadings))
      → P (drop u rs) (taken rs u (Read r))
  with_reading rs u r P some none = go (ltb u (length rs)) refl
    where
      go : (more : Bool) → ltb u (length rs) ≡ more → P (drop u rs) (taken rs u (Read r))
      go true q =
          let h : u < length rs = ltb-true u (length rs) q in
          rw (q, drop-cons rs u 0 h, ← add-one u) (some h)
      go false q =
          let h : length rs ≤ u = ltb-false u (length rs) q in
          rw (q, drop_of_length-le rs h) (none h)

  -- the outcome of a behaviour
  abbrev Out : Behaviour M.K Answer → ℕ → List ℕ → List ℕ → M.K → Outcome M.K Reply
  Out = outcome Answered LogFull OutOfReadings

  pub ran_is : (rs : List ℕ) (left : ℕ) (s : M.S) (t : Behaviour M.K Answer) (k u : ℕ) (l b c : List ℕ)
      (z : M.K)
      → Steps (suc left) s b c z t
      → ran M rs left s k u l b ≡ finish k u l (Out t left (drop u rs) c z)
  unfolding outcome ran
  ran_is rs zero s (ends a) k u l b c z g = rw g.1 (finish_just k u l (Answered a) s b c z g.0)
  ran_is rs (suc left) s (ends a) k u l b c z g = rw g.1 (finish_just k u l (Answered a) s b c z g.0)
  ran_is rs zero s (reads r f) k u l b c z g = rw g.1.0 (finish_just k u l LogFull s b c z g.0)
  ran_is rs (suc left) s (reads r f) k u l b c z g =
      rw g.1.0
      (with_reading rs u r (λ ws w. by_performed w
      (λ v u'. ran M rs left (M.advance s v) (k + 1) u' (entered l k (0x100 + r) v)
      (stored_in b (M.store s v))) (λ y. final y k u l b (M.state s)) ≡ finish k u l
      (Out (reads r f) (suc left) ws c z))
      (λ h. ran_is rs left (M.advance s (get_or rs u 0)) (f (get_or rs u 0)) (k + 1) (u + 1)
      (entered l k (0x100 + r) (get_or rs u 0)) (stored_in b (M.store s (get_or rs u 0))) c z
      (g.1.1 (get_or rs u 0))
      ∙ finish_read k u l r (get_or rs u 0) (Out (f (get_or rs u 0)) left (drop (u + 1) rs) c z))
      (λ h. finish_just k u l OutOfReadings s b c z g.0))
  ran_is rs zero s (writes r v t) k u l b c z g = rw g.1.0 (finish_just k u l LogFull s b c z g.0)
  ran_is rs (suc left) s (writes r v t) k u l b c z g =
      rw g.1.0 (ran_is rs left (M.advance s 0) t (k + 1) u (entered l k (0x200 + r) v)
      (stored_in b (M.store s 0)) c z g.1.1
      ∙ finish_write k u l r v (Out t left (drop u rs) c z))
  ran_is rs zero s (marks x t) k u l b c z g = rw g.1.0 (finish_just k u l LogFull s b c z g.0)
  ran_is rs (suc left) s (marks x t) k u l b c z g =
      rw g.1.0 (ran_is rs left (M.advance s 0) t (k + 1) u (entered l k (0x300 + x) 0)
      (stored_in b (M.store s 0)) c z g.1.1
      ∙ finish_mark k u l x (Out t left (drop u rs) c z))
  ran_is rs left s (stores i v t) k u l b c z g = ran_is rs left s t k u l b (set c i v) z g
  ran_is rs left s (asks f) k u l b c z g = ran_is rs left s (f z) k u l b c z g
  ran_is rs left s (keeps z' t) k u l b c z g = ran_is rs left s t k u l b c z' g
  ran_is rs left s cut k u l b c z g = absurd g

-- what is done with an access leaves the buffer as long as it was
pub length_stored : (b : List ℕ) (e : Store) → length (stored_in b e) ≡ length b
length_stored b None = refl
length_stored b (Some (i, v)) = length-set b i v

-- no more entries than there is room for
outcome_fits : {K : Type 0} (t : Behaviour K Answer) (room : ℕ) (rs b : List ℕ) (z : K)
    → length (outcome Answered LogFull OutOfReadings t room rs b z).log ≤ room
unfolding outcome
outcome_fits (ends a) room rs b z = zero-le
outcome_fits (reads r f) zero rs b z = zero-le
outcome_fits (reads r f) (suc room) [] b z = zero-le
outcome_fits (reads r f) (suc room) (v ∷ rs) b z = suc-le-suc (outcome_fits (f v) room rs b z)
outcome_fits (writes r v t) zero rs b z = zero-le
outcome_fits (writes r v t) (suc room) rs b z = suc-le-suc (outcome_fits t room rs b z)
outcome_fits (marks x t) zero rs b z = zero-le
outcome_fits (marks x t) (suc room) rs b z = suc-le-suc (outcome_fits t room rs b z)
outcome_fits (stores i v t) room rs b z = outcome_fits t room rs (set b i v) z
outcome_fits (asks f) room rs b z = outcome_fits (f z) room rs b z
outcome_fits (keeps z' t) room rs b z = outcome_fits t room rs b z'
outcome_fits cut room rs b z = zero-le

pub length_encode : (es : List Entry) → length (encode es) ≡ length es * 2
length_encode [] = refl
length_encode (E.Read r v ∷ es) = let ih : length (encode es) ≡ length es * 2 = length_encode es in omega arith
length_encode (E.Write r v ∷ es) = let ih : length (encode es) ≡ length es * 2 = length_encode es in omega arith
length_encode (E.Marked x ∷ es) = let ih : length (encode es) ≡ length es * 2 = length_encode es in omega arith

-- a whole run of a machine that agrees with a program leaves what the program's outcome says
module _ (M : Machine) (s : M.S) (p : Program M.K Answer Answer) (rs before after b₀ b : List ℕ) (z : M.K) (r : Ran)
    (agrees : (m n : ℕ) → m ≤ n → Agree M m s b₀ b₀ (M.state s) (p n ends))
    (e : final r.reply r.entries r.used after b z ≡ ran M rs (length before / 2) s 0 0 before b₀) where
  abbrev o : Outcome M.K Reply
  o = expected p before rs b₀ (M.state s)

  whole : final r.reply r.entries r.used after b z ≡ finish M 0 0 before o
  whole = e
      ∙ ran_is M rs (length before / 2) s (behaviour p (length before / 2)) 0 0 before b₀ b₀ (M.state s)
      (agrees (suc (length before / 2)) (suc (length before / 2)) (le_refl _)).steps

  pub leaves : Leaves o before after r
  leaves =
      let f : length o.log ≤ length before / 2 = outcome_fits (behaviour p (length before / 2)) (length before / 2) rs b₀ (M.state s) in
      let n : length (encode o.log) ≡ length o.log * 2 = length_encode o.log in
      record {
        reply = ap (λ (x : Final M.K). x.reply) whole;
        entries = ap (λ (x : Final M.K). x.entries) whole ∙ zero-add _;
        used = ap (λ (x : Final M.K). x.used) whole ∙ zero-add _;
        log = ap (λ (x : Final M.K). x.log) whole
            ∙ sets-eq (encode o.log) before 0 (omega arith)
            ∙ rw (zero-add (length (encode o.log)), n);
      }

  pub leaves_buffer : LeavesBuffer o before after b r
  leaves_buffer = record { ran = leaves; buffer = ap (λ (x : Final M.K). x.buffer) whole }

  pub leaves_state : LeavesState o before after r z
  leaves_state = record { ran = leaves; state = ap (λ (x : Final M.K). x.state) whole }

  pub leaves_all : LeavesAll o before after b r z
  leaves_all = record {
    ran = leaves;
    buffer = ap (λ (x : Final M.K). x.buffer) whole;
    state = ap (λ (x : Final M.K). x.state) whole;
  }
