-- Whatever the steps leave, a caller's loop leaves something: the constructors of `Loop` leave out no case.
use Prim.Native.Nat.{ℕ, zero, suc, ◌^◌, ◌<◌}
use native.Mathlib.Omega.{arith}
use mathlib.Core.Bool.{Bool}
use mathlib.Core.List.{List, [], ◌∷◌}
use mathlib.Core.Path.{◌≡◌, refl}
use lib.Dec.{eqb}
use borrow.Author.Tests.{eqb-true, eqb-false}
use Rattle.regs.specs.Steps.{stored_in}
use Rattle.regs.specs.Log.{Each}
use Rattle.regs.specs.declared.access.Entry.TheVariants.{Read, Write, Marked}
use Rattle.regs.proofs.Tests.{by_test}
use Rattle.words_points.specs.Held.{store_held}
use Rattle.words.specs.Inner.Words.{held_at}
use Rattle.export_steps.specs.Loop.{left, after, at_end, no_room, no_reading, reads, writes, marks, unknown}
use Rattle.export_steps.specs.Loop.{Ran, IsHeld, EveryLoop}
use Rattle.export_steps.specs.Inner.Steps.{Holding, words_of, access_by, Moves}
use Rattle.export_steps.specs.declared.Access.{Access}

module _ (pec : Bool) (kinds lengths bytes : List ℕ) (next : Holding pec → ℕ → Holding pec)
    (moves : (held : Holding pec) (v : ℕ) → IsHeld pec held → v < 2 ^ 32
    → IsHeld pec (next held v) × Moves pec kinds lengths bytes held v (next held v))
  where
    abbrev Runs : ℕ → List ℕ → Holding pec → List ℕ → Type 0
    Runs room readings held buffer = Ran pec kinds lengths bytes room readings held buffer

    -- the access that is told of what is held, and the buffer after it
    abbrev told : Holding pec → Access
    told held = access_by pec bytes held

    abbrev kept : Holding pec → ℕ → List ℕ → List ℕ
    kept held v buffer = stored_in buffer (store_held (held_at (words_of pec held)) v)

    -- by kind: the end, or an access
    by_kind : {P : Type 0} (k : ℕ) → (k ≡ 0 → P) → (k ≡ 1 → P) → (k ≡ 2 → P) → (k ≡ 3 → P) → (3 < k → P) → P
    by_kind k end read write mark other =
        by_test (eqb k 0) (λ q. end (eqb-true k 0 q)) (λ q₀.
        by_test (eqb k 1) (λ q. read (eqb-true k 1 q)) (λ q₁.
        by_test (eqb k 2) (λ q. write (eqb-true k 2 q)) (λ q₂.
        by_test (eqb k 3) (λ q. mark (eqb-true k 3 q)) (λ q₃.
        other (omega (arith, eqb-false k 0 q₀, eqb-false k 1 q₁, eqb-false k 2 q₂, eqb-false k 3 q₃))))))

    full : (readings : List ℕ) (held : Holding pec) (buffer : List ℕ) → 0 < (told held).kind → Runs zero readings held buffer
    full readings held buffer k = record { leaves = left buffer 19 0; loop = no_room {a = told held} refl k }

    ended : (room : ℕ) (readings : List ℕ) (held : Holding pec) (buffer : List ℕ) → (told held).kind ≡ 0
        → Runs room readings held buffer
    ended room readings held buffer k =
        record { leaves = left buffer (told held).number (told held).value; loop = at_end {a = told held} refl k }

    abbrev Small : List ℕ → Type 0
    Small readings = Each (λ v. v < 2 ^ 32) readings

    -- an access, where a loop with less room leaves something
    module _ (room : ℕ)
        (go_on : (readings : List ℕ) (held : Holding pec) (buffer : List ℕ) → IsHeld pec held → Small readings
        → Runs room readings held buffer)
        (held : Holding pec) (buffer : List ℕ) (is : IsHeld pec held)
      where
        read : (readings : List ℕ) → Small readings → (told held).kind ≡ 1 → Runs (suc room) readings held buffer
        read [] small k = record { leaves = left buffer 18 0; loop = no_reading {a = told held} refl k }
        read (v ∷ readings) small k =
            let moved = moves held v is small.0 in
            let rest = go_on readings (next held v) (kept held v buffer) moved.0 small.1 in
            record {
              leaves = after (Read (told held).register v) rest.leaves;
              loop = reads {a = told held} refl k moved.1 refl rest.loop;
            }

        write : (readings : List ℕ) → Small readings → (told held).kind ≡ 2 → Runs (suc room) readings held buffer
        write readings small k =
            let moved = moves held 0 is (omega arith) in
            let rest = go_on readings (next held 0) (kept held 0 buffer) moved.0 small in
            record {
              leaves = after (Write (told held).register (told held).value) rest.leaves;
              loop = writes {a = told held} refl k moved.1 refl rest.loop;
            }

        mark : (readings : List ℕ) → Small readings → (told held).kind ≡ 3 → Runs (suc room) readings held buffer
        mark readings small k =
            let moved = moves held 0 is (omega arith) in
            let rest = go_on readings (next held 0) (kept held 0 buffer) moved.0 small in
            record {
              leaves = after (Marked (told held).register) rest.leaves;
              loop = marks {a = told held} refl k moved.1 refl rest.loop;
            }

    every : (room : ℕ) (readings : List ℕ) (held : Holding pec) (buffer : List ℕ) → IsHeld pec held → Small readings
        → Runs room readings held buffer
    every zero readings held buffer is small =
        by_kind (told held).kind (ended zero readings held buffer)
        (λ k. full readings held buffer (omega arith)) (λ k. full readings held buffer (omega arith))
        (λ k. full readings held buffer (omega arith)) (λ k. full readings held buffer (omega arith))
    every (suc room) readings held buffer is small =
        by_kind (told held).kind (ended (suc room) readings held buffer)
        (read room (every room) held buffer is readings small)
        (write room (every room) held buffer is readings small)
        (mark room (every room) held buffer is readings small)
        (λ k. record { leaves = left buffer 0 0; loop = unknown {a = told held} refl k })

pub every_loop : EveryLoop
every_loop = every
