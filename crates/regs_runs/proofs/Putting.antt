-- Entries put into a recording's log, one after the other.
use Prim.Native.Nat.{ℕ, ◌+◌}
use native.Mathlib.Omega.{arith}
use mathlib.Core.List.{List}
use mathlib.Core.Path.{◌∙◌}
use Rattle.regs.specs.Inner.Machine.{entered}
use Rattle.regs.specs.Inner.Recording.{Enters}
use Rattle.regs.specs.declared.access.Recording.{Recording}
use Rattle.regs_runs.specs.Inner.Puts.{Puts}
use Rattle.regs_runs.proofs.Reach.{keeps_on}

pub first_put : {before after : Recording} {head v : ℕ} → Enters before head v after
    → Puts before 1 (entered before.log.now before.entries head v) after
first_put x = record { keeps = x.keeps; log = x.log; entries = x.entries; used = x.used }

pub next_put : {before mid after : Recording} {n head v : ℕ} {l : List ℕ} → Puts before n l mid → Enters mid head v after
    → Puts before (n + 1) (entered l (before.entries + n) head v) after
next_put p x = record {
  keeps = keeps_on p.keeps x.keeps;
  log = rw (p.log, p.entries) at x.log;
  entries = omega (arith, x.entries, p.entries);
  used = x.used ∙ p.used;
}
