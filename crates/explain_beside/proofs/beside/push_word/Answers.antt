-- `push_word`: `both` joins access, spaces, head, piece and LF. `long` of proofs/Spaces.antt says that where
-- the access ends is its text's length behind where it begins, so `push_spaces` adds the spaces that `filled`
-- counts from that length.
use Rattle.std.proofs.Common.{ℕ, ◌≡◌, ◌+◌, ◌-◌, arith, length}
use Rattle.regs.specs.Registers.{DATA_CMD}
use Rattle.text_hex.proofs.Adding.{both, at_most}
use Rattle.explain_frames.specs.Texts.{access_words}
use Rattle.explain_beside.specs.Piece.{word_line}
use Rattle.explain_beside.proofs.Spaces.{long}
use Rattle.explain_beside.proofs.beside.push_word.Goals as goal

pub returns : goal.returns
unfolding word_line
returns c =
    let words = rw c.from.ensures at c.push_words.ensures in
    let n : ℕ = length (access_words 1 DATA_CMD c.args.w) in
    let e : c.push_words.new.text.at ≡ c.args.text.now.at + n =
    long words.appended (omega (arith, c.requires))
    (omega (arith, words.appended.room, words.size, c.requires)) in
    let k : c.args.text.now.at + 52 - c.push_words.new.text.at ≡ 52 - n = omega (arith, e) in
    at_most 16900 (omega arith)
    (both (both words (rw k at c.push_spaces.ensures))
    (both c.push_text.ensures (both c.push_piece.ensures c.push.ensures)))
