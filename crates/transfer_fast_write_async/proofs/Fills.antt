-- Rounds of an async write: TXFLR, then the places, then either the polls that lead to the next round or the end of the bytes.
use Prim.Native.Nat.{ℕ, ◌+◌, ◌/◌, ◌-◌, ◌<◌, ◌≤◌, ◌^◌}
use native.Mathlib.Nat.{eq-zero-or-pos}
use native.Mathlib.Omega.{arith}
use mathlib.Core.Bool.{Bool}
use mathlib.Core.List.{List}
use mathlib.Core.Logic.{⊎_elim}
use mathlib.Core.Path.{◌≡◌, refl, ◌∙◌}
use lib.ListN.{length, get_or}
use borrow.Author.Tests.{le-ltb, eq-eqb, ne_eqb}
use Rattle.regs.specs.Registers.{TXFLR, TX_ABRT_SOURCE}
use Rattle.regs.specs.Fields.{level}
use Rattle.regs.specs.Inner.Machine.{entered}
use Rattle.regs.specs.declared.access.Recording.{Recording}
use Rattle.transfer.specs.Inner.Points.{with_point}
use Rattle.transfer.specs.Inner.Machine.{machine, moved_to, next_at, next_fill, next_abort, store_at, step_of}
use Rattle.transfer.specs.Inner.Machine.{step_fill, step_abort, free_step, full_step, places, filling, wait_stop, returned}
use Rattle.transfer.specs.declared.Transfer.{Transfer}
use Rattle.transfer.specs.Inner.Machine.{go}
use Rattle.std.specs.Prelude.{Option, Ok}
use Rattle.transfer.specs.declared.Point.{Point}
use Rattle.transfer.specs.declared.Point.TheVariants.{WriteAsync, Abort}
use Rattle.transfer.specs.declared.FillPoint.TheVariants.{Free, Full}
use Rattle.transfer.specs.declared.AbortPoint.TheVariants.{Source}
use Rattle.transfer.specs.declared.Caller.TheVariants.{Space}
use Rattle.regs_runs.specs.Inner.Reaches.{Reaches}
use Rattle.regs_runs.specs.Inner.Puts.{Reads}
use Rattle.regs_runs.proofs.Reach.{stays, keeps_on, did_read}
use Rattle.transfer_fast_write_async.specs.Inner.Fills.{Polls, StraightFill, Leads, Filled}
use Rattle.transfer_fast_write_async.proofs.Filling.{from_any_point, no_place, no_byte, lead_of, lead_after}

module _ (coded : Bool) (kinds lengths bytes : List ℕ) {readings : List ℕ} (t : Transfer) {s₀ : Transfer} {e₀ u₀ : ℕ} {l₀ b₀ : List ℕ} (i : ℕ) {e u : ℕ}
    {l b : List ℕ} where
  -- TXFLR
  pub counted : (space : ℕ) → Reaches (machine coded kinds lengths bytes) readings s₀ e₀ u₀ l₀ b₀ (with_point t (WriteAsync (Free i))) e u l b
      → 0 < space
      → space ≡ 16 - level (get_or readings u 0) → e < length l₀ / 2 → u < length readings
      → Reaches (machine coded kinds lengths bytes) readings s₀ e₀ u₀ l₀ b₀
      (moved_to coded kinds lengths t (filling t.operation.len t.operation.send_stop i space)) (e + 1) (u + 1)
      (entered l e (0x100 + TXFLR) (get_or readings u 0)) b
  unfolding next_at next_fill store_at step_of step_fill free_step places
  counted space g some is room left =
      let n = level (get_or readings u 0) in
      let p = WriteAsync (Free i) in
      let a : (machine coded kinds lengths bytes).advance (with_point t p) (get_or readings u 0) ≡ moved_to coded kinds lengths t
      (filling t.operation.len t.operation.send_stop i space) =
      rw (le-ltb 16 n (omega (arith, some, is)), ← is) (from_any_point coded kinds lengths t p (filling t.operation.len t.operation.send_stop i space)) in
      did_read g refl room left a refl refl

  -- TX_ABRT_SOURCE and TXFLR
  pub polled : Reaches (machine coded kinds lengths bytes) readings s₀ e₀ u₀ l₀ b₀ (with_point t (Abort Source (Space i))) e u l b
      → Polls readings u → e + 2 ≤ length l₀ / 2
      → Reaches (machine coded kinds lengths bytes) readings s₀ e₀ u₀ l₀ b₀ (with_point t (WriteAsync (Free i))) (e + 2) (u + 2)
      (entered (entered l e (0x100 + TX_ABRT_SOURCE) (get_or readings u 0)) (e + 1) (0x100 + TXFLR) (get_or readings (u + 1) 0)) b
  unfolding next_at next_fill next_abort store_at step_of step_fill step_abort full_step places returned
  polled g s room =
      let a₁ : (machine coded kinds lengths bytes).advance (with_point t (Abort Source (Space i))) (get_or readings u 0) ≡ with_point t
      (WriteAsync (Full i)) =
      rw (eq-eqb (get_or readings u 0) 0 s.quiet) in
      let g₁ = did_read g refl (omega (arith, room)) (omega (arith, s.left)) a₁ refl refl in
      let n = level (get_or readings (u + 1) 0) in
      let q : e + 2 ≡ e + 1 + 1 = omega arith in
      let v : u + 2 ≡ u + 1 + 1 = omega arith in
      let a₂ : (machine coded kinds lengths bytes).advance (with_point t (WriteAsync (Full i))) (get_or readings (u + 1) 0) ≡ with_point t
      (WriteAsync (Free i)) =
      rw (le-ltb 16 n (omega (arith, s.again)), ne_eqb (16 - n) 0 (λ (z : 16 - n ≡ 0). omega (arith, s.again, z))) in
      did_read g₁ refl (omega (arith, room)) (omega (arith, s.left)) a₂ q v

-- the log has room for TXFLR and for the word of each byte that has a place
pub has_room : {r : Recording} {i len space : ℕ} → StraightFill r i len space → (j : ℕ) → j ≤ space
    → i + j ≤ len → r.entries + 1 + j ≤ length r.log.now / 2
has_room {i = i} {len} {space} s j in_places in_bytes =
    ⊎_elim (λ (z : i + space - len ≡ 0). omega (arith, (s.goes_on (omega (arith, z))).1))
    (λ (p : 0 < i + space - len). omega (arith, s.last (omega (arith, p))))
    (eq-zero-or-pos (i + space - len))

-- the log has room for the word of a place that has a byte
pub place_room : {r r₁ : Recording} {i len space v n : ℕ} → StraightFill r i len space → Reads r TXFLR v r₁ → n < space → i + n < len
    → r₁.entries + n < length r₁.log.now / 2
place_room {n = n} s e more before =
    rw e.keeps.size (omega (arith, e.entries, has_room s (n + 1) (omega (arith, more)) (omega (arith, before))))

-- a round up to a place: TXFLR is read, and places are filled
module _ {t : Transfer} {bytes : List ℕ} {i space count : ℕ} {r r₁ r₂ : Recording} {v : ℕ}
    (s : StraightFill r i t.operation.len space) (fits : length r.log.now < 2 ^ 64) (e : Reads r TXFLR v r₁)
    (within : i ≤ t.operation.len) (few : count ≤ space) (f : Filled t bytes i count r₁ r₂) where
  up_to : Leads t bytes r (go (WriteAsync (Free i))) r₂ (filling t.operation.len t.operation.send_stop (i + count) (space - count))
  up_to =
      let room : r.entries + 1 ≤ length r.log.now / 2 = omega (arith, has_room s 0 (omega arith) (omega (arith, within))) in
      lead_after
      (lead_of e.keeps e.entries e.used e.log room
      (λ coded kinds lengths b t' alike. rw (e.value, ← alike.len, ← alike.send_stop)
      (counted coded kinds lengths bytes t' i space
      (stays (machine coded kinds lengths bytes) r.readings.now fits) s.some s.space_is (omega (arith, room))
      (omega (arith, s.left)))))
      (f.leads space few)

  -- the bytes have ended, and a place is left
  pub last_round : {x : Option Point} → count < space → i + count ≡ t.operation.len → wait_stop t.operation.send_stop (Ok tt) ≡ Ok x
      → Leads t bytes r (go (WriteAsync (Free i))) r₂ (Ok x)
  last_round {x} more ended ex =
      let is : filling t.operation.len t.operation.send_stop (i + count) (space - count) ≡ Ok x =
      no_byte t.operation.len t.operation.send_stop (i + count) (space - count) ended (omega (arith, more)) ∙ ex in
      rw is at up_to

  -- every place is filled, and a poll leads to the next round
  pub one_round : {r₃ r₄ : Recording} {v₃ v₄ : ℕ} → space ≤ count → i + count ≤ t.operation.len
      → Reads r₂ TX_ABRT_SOURCE v₃ r₃
      → Reads r₃ TXFLR v₄ r₄
      → Leads t bytes r (go (WriteAsync (Free i))) r₄ (go (WriteAsync (Free (i + count))))
  one_round {r₃} {r₄} all in_bytes e₃ e₄ =
      let p = s.goes_on (omega (arith, all, in_bytes)) in
      let none : space - count ≡ 0 = omega (arith, all) in
      let u₂ : r₂.used ≡ r.used + 1 = f.used ∙ e.used in
      let same : r₂.readings.now ≡ r.readings.now = f.keeps.readings ∙ e.keeps.readings in
      let size : length r₂.log.now ≡ length r.log.now = f.keeps.size ∙ e.keeps.size in
      let room : r₂.entries + 2 ≤ length r₂.log.now / 2 = rw size (omega (arith, p.1, f.entries, e.entries, few)) in
      let polls : Polls r₂.readings.now r₂.used = rw (same, u₂) p.0 in
      lead_after (rw (none, no_place t.operation.len t.operation.send_stop (i + count)) at up_to)
      (lead_of (keeps_on e₃.keeps e₄.keeps) (omega (arith, e₃.entries, e₄.entries)) (omega (arith, e₃.used, e₄.used))
      (rw (e₃.log, e₃.entries, e₃.value, e₄.value, e₃.keeps.readings, e₃.used) at e₄.log) room
      (λ coded kinds lengths b t' alike. polled coded kinds lengths bytes t' (i + count)
      (stays (machine coded kinds lengths bytes) r₂.readings.now (rw size fits)) polls room))
