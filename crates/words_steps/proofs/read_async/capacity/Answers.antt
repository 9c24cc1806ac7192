-- `capacity`: a level over 16 makes no step. Else n is the smaller of the words to queue and the
-- free places, by `half`, `level_of` and `min`, and the test n == 0 decides between `no_words` and
-- `words_to_queue` (proofs/ReadAsync.antt).
use native.Mathlib.Omega.{arith}
use mathlib.Core.Path.{◌≡◌, sym, ◌∙◌}
use Prim.Native.Nat.{◌-◌, ◌%◌, ◌^◌, min}
use lib.ListN.{get_or}
use Rattle.regs.specs.Fields.{level}
use Rattle.words_steps.proofs.ReadAsync.{no_words, words_to_queue}
use Rattle.words_steps.proofs.read_async.capacity.Goals as goal

pub returns-then-n-eq0 : goal.returns-then-n-eq0
returns-then-n-eq0 c = let least : c.min-n.result ≡ min (get_or c.args.words.now 7 0 % 2 ^ 16)
    (16 - level c.args.v) =
    simp (c.min-n.ensures, c.half.ensures, c.level_of-level.ensures) in
    no_words c.args.v c.args.words.now c.sized.ensures
    c.requires.0 c.requires.1 (omega arith, sym least ∙ c.if-n-eq0.true)

pub returns : goal.returns
returns c = let least : c.min-n.result ≡ min (get_or c.args.words.now 7 0 % 2 ^ 16)
    (16 - level c.args.v) =
    simp (c.min-n.ensures, c.half.ensures, c.level_of-level.ensures) in
    simp least
    (words_to_queue c.args.v c.args.words.now c.sized.ensures
    c.requires.0 c.requires.1 (omega arith, λ e. c.if-n-eq0.false (least ∙ e)))
