-- The pieces of a call's frames, one after the other, are the sequence that its bus line prints.
use Prim.Native.Nat.{ℕ, ◌+◌, ◌%◌, ◌/◌}
use native.Mathlib.Omega.{arith}
use mathlib.Core.Bool.{Bool, true, false}
use mathlib.Core.List.{List, [], ◌∷◌, ◌++◌}
use mathlib.Core.Path.{◌≡◌, refl}
use lib.Dec.{eqb}
use lib.ListN.{length}
use borrow.Author.Tests.{eqb-true, ne_eqb}
use Rattle.regs.specs.declared.access.Entry.TheVariants as entries
use Rattle.std.specs.Prelude.{if◌then◌else◌, Option, Some, None}
use Rattle.regs.specs.Registers.{TAR, DATA_CMD}
use Rattle.regs.specs.Fields.{address_field}
use Rattle.regs.specs.Log.{entry, decode, written_to}
use Rattle.bus.specs.declared.Bus.{Bus}
use Rattle.bus.specs.declared.Bus.TheVariants.{Idle}
use Rattle.bus.specs.Bus.{signs, bus_sequence}
use Rattle.bus.specs.Placed.{made, moved}
use Rattle.answer_frames.specs.declared.Frame.{Frame}
use Rattle.answer_frames.specs.declared.Frame.TheVariants.{Read, Write, Pending, BlockReset, Buffer, Answer}
use Rattle.explain_beside.specs.declared.transfer.Transfer.{Transfer}
use Rattle.explain_beside.specs.Piece.{opened, pieces, kept_from}

-- an open transfer
abbrev to : ℕ → Bus → Option Transfer
to address bus = Some (record { address = address; bus = bus })

-- the entry that a kept write is
entry_is : (offset w : ℕ) → entry (0x200 + offset % 256) w ≡ entries.Write (offset % 256) w
entry_is offset w =
    let d : (0x200 + offset % 256) / 256 ≡ 2 = omega arith in
    let m : (0x200 + offset % 256) % 256 ≡ offset % 256 = omega arith in
    rw (d, m)

-- a write to DATA_CMD makes its piece, and one to another register none
word_step : (address : ℕ) (bus : Bus) (w : ℕ) (fs : List (Option Frame)) (later : List ℕ)
    → ((b : Bus) → pieces (to address b) fs ≡ signs b address later)
    → (q : Bool)
    → made bus address (if q then Some w else None) ++ pieces
    (to address (moved bus (if q then Some w else None))) fs
    ≡ signs bus address (if q then w ∷ later else later)
unfolding signs
word_step address bus w fs later ih true = rw (ih _)
word_step address bus w fs later ih false = ih bus

-- from the write to TAR on
along : (address : ℕ) (bus : Bus) (used : ℕ) (fs : List (Option Frame))
    → (used ≡ 0 → ⊥)
    → pieces (to address bus) fs ≡ signs bus address (written_to DATA_CMD (decode (kept_from used fs)))
unfolding pieces kept_from signs written_to decode
along address bus used [] f = refl
along address bus used (Some (Read offset w) ∷ fs) f = along address bus (used + 0) fs (λ e. f (omega arith))
along address bus used (Some (Write offset w) ∷ fs) f =
    rw (ne_eqb used 0 f, entry_is offset w)
    (word_step address bus w fs (written_to DATA_CMD (decode (kept_from (used + 2) fs)))
    (λ b. along address b (used + 2) fs (λ e. omega arith)) (eqb (offset % 256) DATA_CMD))
along address bus used (Some Pending ∷ fs) f = along address bus (used + 0) fs (λ e. f (omega arith))
along address bus used (Some BlockReset ∷ fs) f = along address bus (used + 0) fs (λ e. f (omega arith))
along address bus used (Some Buffer ∷ fs) f = along address bus (used + 0) fs (λ e. f (omega arith))
along address bus used (Some (Answer n d) ∷ fs) f = along address bus (used + 0) fs (λ e. f (omega arith))
along address bus used (None ∷ fs) f = along address bus (used + 0) fs (λ e. f (omega arith))

-- a write to TAR opens the transfer
target_step : (offset w : ℕ) (fs : List (Option Frame))
    → pieces None fs ≡ bus_sequence (decode (kept_from 0 fs))
    → (q : Bool)
    → eqb (offset % 256) TAR ≡ q
    → pieces (opened (if q then Some w else None)) fs
    ≡ bus_sequence (decode ((if q then (0x200 + offset % 256) ∷ w ∷ [] else []) ++ kept_from
    (0 + length (if q then (0x200 + offset % 256) ∷ w ∷ [] else [])) fs))
unfolding written_to decode
target_step offset w fs ih true e =
    rw (entry_is offset w, eqb-true (offset % 256) TAR e) (along (address_field w) Idle 2 fs (λ z. omega arith))
target_step offset w fs ih false e = ih

pub pieces_are_sequence : (fs : List (Option Frame)) → pieces None fs ≡ bus_sequence (decode (kept_from 0 fs))
unfolding pieces kept_from signs written_to decode
pieces_are_sequence [] = refl
pieces_are_sequence (Some (Read offset w) ∷ fs) = pieces_are_sequence fs
pieces_are_sequence (Some (Write offset w) ∷ fs) = target_step offset w fs (pieces_are_sequence fs) (eqb (offset % 256) TAR) refl
pieces_are_sequence (Some Pending ∷ fs) = pieces_are_sequence fs
pieces_are_sequence (Some BlockReset ∷ fs) = pieces_are_sequence fs
pieces_are_sequence (Some Buffer ∷ fs) = pieces_are_sequence fs
pieces_are_sequence (Some (Answer n d) ∷ fs) = pieces_are_sequence fs
pieces_are_sequence (None ∷ fs) = pieces_are_sequence fs
