-- The claim: whoever feeds an input in chunks of any sizes, writes out what each call of `feed` says, and at the
-- end what `finish` says, has written what Session
-- says of the input.
use Prim.Native.Nat.{ℕ}
use mathlib.Core.List.{List, [], ◌++◌, append_assoc, append-nil}
use mathlib.Core.Path.{◌≡◌, refl, sym, ap, ◌∙◌}
use lib.ListN.{take, drop}
use Rattle.replay_session.specs.Session.{printed}
use Rattle.replay_session.proofs.Bound.{same_printed}
use Rattle.replay_state.specs.Inner.Rest.{Whole, rest}
use Rattle.replay_state.specs.Inner.Fed.{FedAs, Finished, start_state}

-- calls of `feed` one after the other, by their contract: from v, reading `input`, to w, with `text` written. What
-- a call left of its chunk is fed again.
pub data Reads : Whole → List ℕ → Whole → List ℕ → Type 0 where
  none : {v : Whole} → Reads v [] v []
  feed : {u v w : Whole} {text : List ℕ} (chunk more : List ℕ) (used made : ℕ) (out : List ℕ)
      → FedAs v chunk u out used made
      → Reads u (drop used chunk ++ more) w text
      → Reads v (chunk ++ more) w (take made out ++ text)

reads : {v w : Whole} {input text : List ℕ} → Reads v input w text → (more : List ℕ) → rest v (input ++ more) ≡ text ++ rest w more
reads none more = refl
reads {v} {w} (feed {u = u} {text = text} chunk later used made out f r) more =
    ap (rest v) (append_assoc chunk later more)
    ∙ (f.same (later ++ more)
    ∙ (ap (λ (l : List ℕ). take made out ++ l) (ap (rest u) (sym (append_assoc (drop used chunk) later more)) ∙ reads r more)
    ∙ sym (append_assoc (take made out) text (rest w more))))

pub every_split : {v w : Whole} {input text out : List ℕ} {made : ℕ}
    → v.state ≡ start_state
    → Reads v input w text
    → Finished w out made
    → text ++ take made out ≡ printed input
every_split {v} {input = input} {text = text} {out = out} {made = made} e r f =
    let a : rest v input ≡ text ++ take made out =
    ap (rest v) (sym (append-nil input)) ∙ (reads r [] ∙ ap (λ (l : List ℕ). text ++ l) (sym f.same)) in
    sym (rw e at a) ∙ same_printed input
