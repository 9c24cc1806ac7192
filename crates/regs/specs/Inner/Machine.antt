-- The run of a machine of one access a step (`Machine` in specs/Steps.antt), over any machine. Only contracts
-- of inner functions cite this: no public call rests on believing it.
use Rattle.std.specs.Prelude.{ℕ, zero, suc, ◌+◌, ◌*◌, List, ltb, length, get_or, set, if◌then◌else◌, Ok, Err}
use Rattle.regs.specs.Steps.{Machine, stored_in}
use Rattle.regs.specs.declared.answers.Reply.{Reply}
use Rattle.regs.specs.declared.answers.Reply.TheVariants.{Answered, LogFull, OutOfReadings}
use Rattle.regs.specs.declared.access.Next.{Next}
use Rattle.regs.specs.declared.access.Next.TheVariants.{Read, Write, Mark, Finished}
use Rattle.regs.specs.Store.{Performed}

abbrev pub head_of : Next → ℕ
head_of (Read r) = 0x100 + r
head_of (Write r v) = 0x200 + r
head_of (Mark x) = 0x300 + x
head_of (Finished a) = 0

abbrev pub value_of : Next → ℕ → ℕ
value_of (Read r) v = v
value_of (Write r x) v = x
value_of (Mark x) v = 0
value_of (Finished a) v = 0

-- the reading that an access takes, 0 where it takes none, with how many are used then; or that none is left
abbrev pub taken : List ℕ → ℕ → Next → Performed
taken rs used (Read r) = if ltb used (length rs) then Ok ((get_or rs used 0), (used + 1)) else Err OutOfReadings
taken rs used (Write r v) = Ok (0, used)
taken rs used (Mark x) = Ok (0, used)
taken rs used (Finished a) = Err (Answered a)

-- with no room left in the log nothing is done any more: a full log is told before a reading that is missing
abbrev pub at_full : Next → Reply
at_full (Read r) = LogFull
at_full (Write r v) = LogFull
at_full (Mark x) = LogFull
at_full (Finished a) = Answered a

-- an access, with so many entries in the log and room for so many
abbrev pub performed : List ℕ → ℕ → ℕ → ℕ → Next → Performed
performed rs used entries room n = if ltb entries room then taken rs used n else Err (at_full n)

-- entry k is put into the log
abbrev pub entered : List ℕ → ℕ → ℕ → ℕ → List ℕ
entered l k head value = set (set l (k * 2) head) (k * 2 + 1) value

-- the log after an access
abbrev pub log_after : Performed → List ℕ → ℕ → Next → List ℕ
log_after (Ok (v, used)) l k n = entered l k (head_of n) (value_of n v)
log_after (Err reply) l k n = l

-- what a run leaves
pub record Final (K : Type 0) : Type 0 where
  pub reply : Reply
  pub entries : ℕ
  pub used : ℕ
  pub log : List ℕ
  pub buffer : List ℕ
  pub state : K

abbrev pub final : {K : Type 0} → Reply → ℕ → ℕ → List ℕ → List ℕ → K → Final K
final r k u l b s = record { reply = r; entries = k; used = u; log = l; buffer = b; state = s }

abbrev pub by_performed : {K : Type 0} → Performed → (ℕ → ℕ → Final K) → (Reply → Final K) → Final K
by_performed (Ok (v, u)) go stop = go v u
by_performed (Err r) go stop = stop r

module _ (M : Machine) (rs : List ℕ) where
  -- the run from a point, with room for `left` more entries; the entries and readings so far, the log and the buffer
  unfoldable pub ran : ℕ → M.S → ℕ → ℕ → List ℕ → List ℕ → Final M.K
  ran zero s k u l b = final (at_full (M.next s)) k u l b (M.state s)
  ran (suc left) s k u l b =
      by_performed (taken rs u (M.next s))
      (λ v u'. ran left (M.advance s v) (k + 1) u' (entered l k (head_of (M.next s)) (value_of (M.next s) v))
      (stored_in b (M.store s v)))
      (λ r. final r k u l b (M.state s))
