-- The claim over the whole program: what is handed to be written is what Session prints of all that was read. It rests on
-- the contracts of `read_all` and `at_end`.
use mathlib.Core.List.{[], ◌++◌, append-nil}
use mathlib.Core.Path.{sym, ap, ◌∙◌}
use Rattle.replay_session.specs.Session.{printed}
use Rattle.replay_state.specs.Inner.Rest.{rest}
use Rattle.replay.specs.Replayed.{PrintsSession, PrintsBeginning}

pub every_read : PrintsSession
every_read w r out made p e f =
    let s = rw e at p.stops in
    sym (ap printed (sym (append-nil p.came)) ∙ (p.same [] ∙ (rw (s.1, f.text))))

pub cut_input : PrintsBeginning
cut_input w r e out made p h f =
    (rw h at f.text, λ more. record { behind = rest w (p.left ++ more); whole = p.same more })
