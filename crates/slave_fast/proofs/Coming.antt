-- The slave comes as far as the burst that begins at its point.
use Prim.Native.Nat.{ℕ, ◌<◌, ◌≤◌}
use mathlib.Core.List.{List}
use mathlib.Core.Path.{◌≡◌, sym, ap, ◌∙◌}
use Rattle.std.specs.Prelude.{true, None, refl}
use Rattle.regs.proofs.Tests.{false_true}
use Rattle.slave_listen.specs.declared.ListenPoint.TheVariants.{Status, RawIntrStat}
use Rattle.slave_respond.specs.Inner.Machine.{response, count_of, sends_bytes}
use Rattle.slave_respond.specs.declared.Job.{Job}
use Rattle.slave_respond.specs.declared.Job.TheVariants.{Respond, RespondThenFill, Fill, FillAfter}
use Rattle.slave_respond.specs.declared.RespondPoint.{RespondPoint}
use Rattle.slave_respond.specs.declared.RespondPoint.TheVariants as P
use Rattle.slave_respond.specs.declared.Response.{Response}
use Rattle.slave_steps.specs.Inner.Machine.{slave}
use Rattle.slave_steps.specs.declared.Slave.{Slave}
use Rattle.slave_steps.specs.declared.Point.{Point}
use Rattle.slave_steps.specs.declared.Point.TheVariants.{Listening, Responding}
use Rattle.slave_fast_bytes.specs.Inner.Bursts.{ForAny, Drains, Responds}
use Rattle.slave_fast_polls.specs.Inner.Idles.{Idles, Awaits}
use Rattle.slave_fast.specs.Inner.GoesAhead.{GoesAhead, SendsBytes}
use Rattle.slave_fast_bytes.specs.declared.listen.Message.{Message}
use Rattle.regs.specs.declared.access.Recording.{Recording}

-- a response that sends the lent bytes sends all of them
pub sends_all : (job : Job) → sends_bytes job ≡ true → SendsBytes job
sends_all Respond e = record { counts = λ count. refl; sends = λ bytes i. refl }
sends_all (RespondThenFill fill) e = record { counts = λ count. refl; sends = λ bytes i. refl }
sends_all (Fill fill) e = absurd (false_true e)
sends_all (FillAfter fill) e = absurd (false_true e)

at_its_point : (s : Slave) {p : Point} → s.point ≡ p → slave s.state s.length p ≡ s
at_its_point s e = ap (λ (p : Point). slave s.state s.length p) (sym e)

module _ {s : Slave} {before after : Recording} where
  pub listen_ahead : {buffer buffer' : List ℕ} {stat i : ℕ} {to : Message}
      → s.point ≡ Listening (Status stat i)
      → s.state.pending_byte ≡ None
      → Drains (record { stat = stat; index = i; places = s.length }) before buffer to after buffer'
      → ForAny (λ (bytes : List ℕ). GoesAhead bytes s before buffer (Listening (Status to.stat to.index)) after buffer')
  listen_ahead at none d = λ bytes. record {
    keeps = d.keeps;
    reaches = rw (at_its_point s at) at (d.reaches bytes s.state none);
  }

  pub respond_ahead : {bytes : List ℕ} {job : Job} {p p' : RespondPoint}
      → s.point ≡ Responding (response job p)
      → SendsBytes job
      → Responds s.length bytes p before p' after
      → ForAny (λ (buffer : List ℕ). GoesAhead bytes s before buffer (Responding (response job p')) after buffer)
  respond_ahead {bytes} {job = job} at own d = λ buffer. record {
    keeps = d.keeps;
    reaches = rw (at_its_point s at) at (d.reaches s.state job buffer (own.counts s.length) (own.sends bytes));
  }

  -- polls that find nothing
  pub await_ahead : {i : ℕ}
      → s.point ≡ Listening (RawIntrStat i)
      → s.state.pending_byte ≡ None
      → i < s.length
      → Awaits before after
      → (bytes buffer : List ℕ) → GoesAhead bytes s before buffer (Listening (RawIntrStat i)) after buffer
  await_ahead {i = i} at none more d bytes buffer = record {
    keeps = d.keeps;
    reaches = rw (at_its_point s at) (rw (at_its_point s at) at (d.reaches bytes s.state s.length i buffer none more));
  }

  pub idle_ahead : {job : Job} {i : ℕ}
      → s.point ≡ Responding (response job (P.RawIntrStat i))
      → count_of job s.length ≤ i
      → Idles before after
      → (bytes buffer : List ℕ)
      → GoesAhead bytes s before buffer (Responding (response job (P.RawIntrStat i))) after buffer
  idle_ahead {job = job} {i = i} at sent d bytes buffer = record {
    keeps = d.keeps;
    reaches = rw (at_its_point s at)
        (rw (at_its_point s at) at (d.reaches bytes s.state job s.length i buffer sent));
  }

pub responding_at : {x : Point} {r : Response} {p : RespondPoint} → x ≡ Responding r → r.point ≡ p → x ≡ Responding (response r.job p)
responding_at {r = r} e q = e ∙ ap (λ (y : RespondPoint). Responding (response r.job y)) q
