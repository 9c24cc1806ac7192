-- `text_hex::digits::digit_value` meets its contract.
use Rattle.text_hex.proofs.Pairs.{digit_plain}
use Rattle.text_hex.proofs.digits.digit_value.Goals as goal

pub returns : goal.returns
returns c = digit_plain c.args.c c.requires
