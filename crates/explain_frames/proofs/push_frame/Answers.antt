-- `push_frame`: a match on the frame; each arm is its callee's contract for that case of `frame_text`, raised
-- by `at_most` to 16900 bytes. A buffer's text has at most 16 + 2 * 8194 bytes by the required length of the
-- line.
use native.Mathlib.Omega.{arith}
use Rattle.text_hex.proofs.Adding.{at_most}
use Rattle.explain_frames.specs.Texts.{frame_text}
use Rattle.explain_frames.proofs.push_frame.Goals as goal

pub returns-in-Read : goal.returns-in-Read
unfolding frame_text
returns-in-Read c = rw c.in-Read.is (at_most 16900 (omega arith) c.push_access.ensures)

pub returns-in-Write : goal.returns-in-Write
unfolding frame_text
returns-in-Write c = rw c.in-Write.is (at_most 16900 (omega arith) c.push_access-in-Write.ensures)

pub returns-in-Pending : goal.returns-in-Pending
unfolding frame_text
returns-in-Pending c = rw c.in-Pending.is (at_most 16900 (omega arith) c.push_mark.ensures)

pub returns-in-BlockReset : goal.returns-in-BlockReset
unfolding frame_text
returns-in-BlockReset c = rw c.in-BlockReset.is (at_most 16900 (omega arith) c.push_mark-in-BlockReset.ensures)

pub returns-in-Buffer : goal.returns-in-Buffer
unfolding frame_text
returns-in-Buffer c = rw c.in-Buffer.is
    (at_most 16900 (omega (arith, c.requires.not_long)) c.push_buffer.ensures)

pub returns-in-Answer : goal.returns-in-Answer
unfolding frame_text
returns-in-Answer c = rw c.in-Answer.is (at_most 16900 (omega arith) c.push_answer.ensures)
