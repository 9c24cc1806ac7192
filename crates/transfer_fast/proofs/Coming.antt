-- A transfer comes as far as the burst that begins at its point, and then as far as the polls there.
use Prim.Native.Nat.{ℕ, ◌<◌, ◌^◌}
use mathlib.Core.List.{List}
use mathlib.Core.Path.{◌≡◌, refl, sym, ap}
use lib.ListN.{length}
use Rattle.std.specs.Prelude.{Option, Some, Ok}
use Rattle.regs.specs.declared.access.Recording.{Recording}
use Rattle.transfer.specs.Inner.Points.{with_point}
use Rattle.transfer.specs.Inner.Machine.{machine, go}
use Rattle.transfer.specs.declared.Transfer.{Transfer}
use Rattle.transfer.specs.declared.Point.{Point}
use Rattle.regs_runs.proofs.Reach.{stays, then, keeps_all, keeps_on}
use Rattle.transfer_fast_blocking.specs.Inner.Bursts.{Bursts}
use Rattle.transfer_fast_write_async.specs.Inner.Fills.{Leads}
use Rattle.transfer_fast_polls.specs.Inner.Stays.{Stays}
use Rattle.transfer_fast.specs.Inner.GoesAhead.{GoesAhead}

at_its_point : (t : Transfer) {p : Point} → t.point ≡ p → with_point t p ≡ t
at_its_point t e = ap (with_point t) (sym e)

module _ {t : Transfer} {bytes : List ℕ} {before : Recording} {b : List ℕ} where
  pub not_ahead : length before.log.now < 2 ^ 64
      → GoesAhead t bytes before b before b (Some t.point)
  not_ahead fits = record {
    keeps = keeps_all;
    room = λ h. h;
    reaches = λ coded kinds lengths. stays (machine coded kinds lengths bytes) before.readings.now fits;
  }

  -- byte after byte, or rounds of an async read
  pub burst_ahead : {alike : Transfer → Type 0} {after : Recording} {b' : List ℕ} {p p' : Point} → t.point ≡ p
      → alike t
      → Bursts alike bytes before b p after b' p'
      → GoesAhead t bytes before b after b' (Some p')
  burst_ahead at same x = record {
    keeps = x.keeps;
    room = x.room;
    reaches = λ coded kinds lengths. rw (at_its_point t at) at (x.reaches coded kinds lengths t same);
  }

  -- rounds of an async write, which may end the operation
  pub fills_ahead : {after : Recording} {p : Point} {reached : Option Point} → t.point ≡ p → Leads t bytes before (go p) after (Ok reached)
      → GoesAhead t bytes before b after b reached
  fills_ahead at x = record {
    keeps = x.keeps;
    room = x.room;
    reaches = λ coded kinds lengths. rw (at_its_point t at) at
        (x.reaches coded kinds lengths b t (record { len = refl; at = refl; send_stop = refl }));
  }

  -- and then polls
  pub then_polls : {mid after : Recording} {b' : List ℕ} {p : Point}
      → GoesAhead t bytes before b mid b' (Some p)
      → Stays p mid after
      → GoesAhead t bytes before b after b' (Some p)
  then_polls {b' = b'} x y = record {
    keeps = keeps_on x.keeps y.keeps;
    room = λ h. y.room (x.room h);
    reaches = λ coded kinds lengths. then (x.reaches coded kinds lengths)
        (rw x.keeps.readings at (y.reaches coded kinds lengths bytes t b'));
  }
