-- `fill`: before the last round no byte is the last one, so that the word is the same without STOP (`same_word` of
-- proofs/Filling.antt).
use Rattle.std.proofs.Common.{◌≡◌, ◌∙◌}
use Rattle.transfer.specs.Inner.Machine.{byte_at, fill_word}
use Rattle.transfer_fast_write_async.proofs.Filling.{same_word}
use Rattle.transfer_fast_write_async.proofs.fill.Goals as goal

pub returns : goal.returns
returns c =
    let o = c.args.t.operation in
    let word : c.word_of_fill-w.result ≡ fill_word (byte_at c.args.bytes.now o.at c.args.i) c.args.i o.len o.send_stop =
    rw (← c.byte_of-byte.ensures) (c.word_of_fill-w.ensures ∙ same_word c.args.last _ c.args.i o.len o.send_stop c.requires.3) in
    rw (← word) c.put_write.ensures
