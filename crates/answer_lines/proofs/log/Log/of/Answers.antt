-- `of`: the first words of the array are those that were copied, by `handed_over` of proofs/Keeping.antt.
use Rattle.answer_lines.proofs.Keeping.{handed_over}
use Rattle.answer_lines.proofs.log.Log.of.Goals as goal

pub returns : goal.returns
returns c = handed_over c.least-used.result c.args.words.now _ c.least-used.ensures c.copy_from_slice.ensures.after
