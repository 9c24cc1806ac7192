-- A log read entry by entry, and the sequence put down word by word: what is still to be put from here on is the rest of the whole.
use Prim.Native.Nat.{ℕ, zero, suc, ◌+◌, ◌*◌, ◌/◌, ◌<◌, ◌≤◌}
use native.Mathlib.Omega.{arith}
use native.Mathlib.Nat.{add-zero}
use mathlib.Core.Bool.{Bool, true, false}
use mathlib.Core.List.{List, [], ◌∷◌, ◌++◌}
use mathlib.Core.Path.{◌≡◌, refl, ap, sym, ◌∙◌}
use lib.Dec.{eqb}
use lib.ListN.{length, get_or, set, take, drop, length-append}
use lib.Seq.{sets, drop-drop, get_or-take, get_or-drop}
use Rattle.std.specs.Simd.{first_chunks}
use Rattle.regs.specs.declared.access.Entry.{Entry}
use Rattle.regs.specs.declared.access.Entry.TheVariants.{Read, Write, Marked}
use Rattle.std.specs.Prelude.{if◌then◌else◌, Option, Some, None}
use Rattle.regs.specs.Registers.{DATA_CMD}
use Rattle.regs.specs.Fields.{stop}
use Rattle.regs.specs.Log.{entry, decode, written_to}
use Rattle.regs.proofs.RoundTrip.{decode_next, decode_end}
use Rattle.bus.specs.declared.Direction.{Direction}
use Rattle.bus.specs.declared.Sign.{Sign}
use Rattle.bus.specs.declared.Bus.{Bus}
use Rattle.bus.specs.declared.Bus.TheVariants.{Idle}
use Rattle.bus.specs.declared.Condition.{Condition}
use Rattle.bus.specs.declared.Condition.TheVariants.{Start, Restart}
use Rattle.bus.specs.Bus.{after, direction_of, opening_of, opening, byte_sign, closing, signs_of, signs}
use Rattle.bus.specs.Placed.{written_by, Puts}

-- ---- the log

-- the value that is written, before the later ones
abbrev and_later : Option ℕ → List ℕ → List ℕ
and_later None vs = vs
and_later (Some v) vs = v ∷ vs

written_entry : (r : ℕ) (e : Entry) (es : List Entry) → written_to r (e ∷ es) ≡ and_later (written_by r e) (written_to r es)
unfolding written_to
written_entry r (Read s v) es = refl
written_entry r (Write s v) es = go (eqb s r)
  where
    go : (q : Bool) → (if q then v ∷ written_to r es else written_to r es) ≡ and_later (if q then Some v else None) (written_to r es)
    go true = refl
    go false = refl
written_entry r (Marked x) es = refl

-- what is written to r from entry k on
abbrev pub later : ℕ → List ℕ → ℕ → List ℕ
later r log k = written_to r (decode (drop (k * 2) log))

pub later_next : (r : ℕ) (log : List ℕ) (k : ℕ) {x : Option ℕ}
    → k < length log / 2
    → x ≡ written_by r (entry (get_or log (k * 2) 0) (get_or log (k * 2 + 1) 0))
    → later r log k ≡ and_later x (later r log (k + 1))
later_next r log k h e = rw e
    (ap (written_to r) (decode_next log k h)
    ∙ written_entry r (entry (get_or log (k * 2) 0) (get_or log (k * 2 + 1) 0)) (decode (drop ((k + 1) * 2) log)))

pub later_end : (r : ℕ) (log : List ℕ) (k : ℕ) → length log / 2 ≤ k → later r log k ≡ []
unfolding written_to
later_end r log k h = ap (written_to r) (decode_end log k h)

-- the first value that is written: entry k has it, or it is looked for from the next one on
abbrev pub first : ℕ → List ℕ → ℕ → ℕ
first r log k = get_or (later r log k) 0 0

module _ (r : ℕ) (log : List ℕ) (k : ℕ) {x : Option ℕ} (h : k < length log / 2)
    (e : x ≡ written_by r (entry (get_or log (k * 2) 0) (get_or log (k * 2 + 1) 0))) where
  pub first_here : {v : ℕ} → x ≡ Some v → first r log k ≡ v
  first_here f = rw (later_next r log k h e, f)

  pub first_later : x ≡ None → first r log k ≡ first r log (k + 1)
  first_later f = rw (later_next r log k h e, f)

pub first_none : (r : ℕ) (log : List ℕ) (k : ℕ) → length log / 2 ≤ k → first r log k ≡ 0
first_none r log k h = rw (later_end r log k h)

-- the words of entry k, among the pairs of words that a log is made of
pair_at : (n k : ℕ) (log none : List ℕ) → k < n → get_or (first_chunks 2 n log) k none ≡ take 2 (drop (k * 2) log)
pair_at zero k log none h = absurd (omega arith)
pair_at (suc n) zero log none h = refl
pair_at (suc n) (suc k) log none h =
    let e : 2 + k * 2 ≡ suc k * 2 = omega arith in
    pair_at n k (drop 2 log) none (omega arith) ∙ ap (take 2) (drop-drop (k * 2) 2 log ∙ rw e)

pub same_entry : (log : List ℕ) (k : ℕ) (none : List ℕ) {entries : List (List ℕ)}
    → entries ≡ first_chunks 2 (length log / 2) log
    → k < length log / 2
    → entry (get_or (get_or entries k none) 0 0) (get_or (get_or entries k none) 1 0)
    ≡ entry (get_or log (k * 2) 0) (get_or log (k * 2 + 1) 0)
same_entry log k none e h = rw (
  e,
  pair_at (length log / 2) k log none h,
  get_or-take 2 (drop (k * 2) log) 0 0 (omega arith),
  get_or-take 2 (drop (k * 2) log) 1 0 (omega arith),
  get_or-drop (k * 2) log 0 0,
  get_or-drop (k * 2) log 1 0,
  add-zero,
)

-- ---- the sequence

sets_words : (xs ys : List Sign) (l : List Sign) (at : ℕ)
    → sets l at (xs ++ ys) ≡ sets (sets l at xs) (at + length xs) ys
sets_words [] ys l at = rw (add-zero at)
sets_words (x ∷ xs) ys l at =
    let e : at + suc (length xs) ≡ suc at + length xs = omega arith in
    rw e (sets_words xs ys (set l at x) (suc at))

opening_short : (o : Option Condition) (address : ℕ) (d : Direction) → length (opening o address d) ≤ 2
opening_short None address d = omega arith
opening_short (Some Start) address d = omega arith
opening_short (Some Restart) address d = omega arith

closing_short : (last : Bool) → length (closing last) ≤ 1
closing_short true = omega arith
closing_short false = omega arith

word_short : (bus : Bus) (address w : ℕ) → length (signs_of bus address w) ≤ 4
word_short bus address w =
    omega (
      arith,
      length-append (opening (opening_of bus w) address (direction_of w))
          (byte_sign (direction_of w) w ∷ closing (stop w)),
      opening_short (opening_of bus w) address (direction_of w),
      closing_short (stop w),
    )

signs_next : (bus : Bus) (address w : ℕ) (words : List ℕ)
    → signs bus address (w ∷ words) ≡ signs_of bus address w ++ signs (after w) address words
unfolding signs
signs_next bus address w words = refl

-- what holds at the head of the loop over the entries of a log
pub record Putting (log : List ℕ) (out₀ : List Sign) (address : ℕ) (out : List Sign) (bus : Bus) (at k : ℕ) : Type 0 where
  pub same : sets out at (signs bus address (later DATA_CMD log k))
      ≡ sets out₀ 0 (signs Idle address (later DATA_CMD log 0))
  pub count : at + length (signs bus address (later DATA_CMD log k)) ≡ length (signs Idle address (later DATA_CMD log 0))
  pub few : at ≤ k * 4

module _ {log : List ℕ} {out₀ : List Sign} {address : ℕ} {out : List Sign} {bus : Bus} {at k : ℕ} (i : Putting log out₀ address out bus at k) where
  -- over an entry that writes no word
  pub passed : {x : Option ℕ}
      → k < length log / 2
      → x ≡ written_by DATA_CMD (entry (get_or log (k * 2) 0) (get_or log (k * 2 + 1) 0))
      → x ≡ None
      → Putting log out₀ address out bus at (k + 1)
  passed h e none =
      let now : later DATA_CMD log k ≡ later DATA_CMD log (k + 1) = rw (later_next DATA_CMD log k h e, none) in
      record { same = rw (← now) i.same; count = rw (← now) i.count; few = omega (arith, i.few) }

  -- and over one that writes the word w
  pub put_on : {x : Option ℕ} {w : ℕ} {out' : List Sign} {bus' : Bus} {at' : ℕ}
      → k < length log / 2
      → x ≡ written_by DATA_CMD (entry (get_or log (k * 2) 0) (get_or log (k * 2 + 1) 0))
      → x ≡ Some w
      → bus' ≡ after w
      → Puts out at (signs_of bus address w) out' at'
      → Putting log out₀ address out' bus' at' (k + 1)
  put_on {w = w} h e some b p =
      let rest = signs (after w) address (later DATA_CMD log (k + 1)) in
      let now : signs bus address (later DATA_CMD log k) ≡ signs_of bus address w ++ rest =
      ap (signs bus address) (rw (later_next DATA_CMD log k h e, some)) ∙ signs_next bus address w (later DATA_CMD log (k + 1))
      in
      record {
        same = rw (b, p.next, p.places) (sym (sets_words (signs_of bus address w) rest out at) ∙ (rw now at i.same));
        count = rw (b, p.next) (omega (arith, rw now at i.count, length-append (signs_of bus address w) rest));
        few = omega (arith, p.next, word_short bus address w, i.few);
      }

  pub all_put : length log / 2 ≤ k
      → (at ≡ length (signs Idle address (later DATA_CMD log 0)))
      × (out ≡ sets out₀ 0 (signs Idle address (later DATA_CMD log 0)))
  unfolding signs
  all_put h =
      let e : later DATA_CMD log k ≡ [] = later_end DATA_CMD log k h in
      (omega (arith, rw e at i.count), rw e at i.same)
