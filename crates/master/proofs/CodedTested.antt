-- The code of a last read is tested: `CodeTested` of specs/CodedLaws.antt, from `as_longer` and `all_came`.
use Prim.Native.Nat.{ℕ, zero, suc}
use mathlib.Core.Bool.{Bool, true, not, ◌||◌}
use mathlib.Core.List.{List, [], ◌∷◌}
use mathlib.Core.Path.{◌≡◌, refl, ap, subst, ◌∙◌}
use lib.Dec.{eqb, T}
use lib.ListN.{length, get_or}
use Rattle.regs.specs.declared.access.Entry.{Entry}
use Rattle.regs.specs.declared.answers.Answer.TheVariants.{Accepted, Refused}
use Rattle.regs.specs.declared.answers.Refusal.TheVariants.{WrongPacketErrorCode}
use Rattle.regs.specs.declared.answers.Reply.{Reply}
use Rattle.regs.specs.declared.answers.Reply.TheVariants.{Answered}
use Rattle.regs.specs.Left.{bytes_read}
use Rattle.std.specs.Prelude.{if◌then◌else◌}
use Rattle.master.specs.Operations.{Operation, writes, reads, Transfer, read, write, write_read, transaction, operations_of}
use Rattle.master.specs.Coded.{code_of, with_code, room_of, ends_in_read, is_right}
use Rattle.master.specs.CodedLaws.{coded_left, plain_left, longer_form, tested_reply, CodeTested}
use Rattle.master.proofs.AsLonger.{as_longer}
use Rattle.master.proofs.CodedCame.{all_came}

-- a last read has a byte more, whatever the code is
any_code : (c : ℕ) (os : List (Operation ℕ)) → ends_in_read os ≡ true → with_code c os ≡ with_code 0 os
unfolding with_code ends_in_read
any_code c [] e = refl
any_code c (writes bytes ∷ []) e = absurd (subst (λ (q : Bool). T (not q)) e tt)
any_code c (reads zero ∷ []) e = refl
any_code c (reads (suc n) ∷ []) e = refl
any_code c (writes bytes ∷ (p ∷ os)) e = ap (λ (l : List (Operation ℕ)). writes bytes ∷ l) (any_code c (p ∷ os) e)
any_code c (reads n ∷ (p ∷ os)) e = ap (λ (l : List (Operation ℕ)). reads n ∷ l) (any_code c (p ∷ os) e)

any_form : (c : ℕ) (t : Transfer ℕ) → ends_in_read (operations_of t) ≡ true → longer_form c t ≡ longer_form 0 t
unfolding ends_in_read
any_form c (read len) e = refl
any_form c (write bytes) e = absurd (subst (λ (q : Bool). T (not q)) e tt)
any_form c (write_read bytes len) e = refl
any_form c (transaction os) e = ap transaction (any_code c os e)

abbrev told : Bool → Reply
told q = Answered (if q then Accepted else Refused WrongPacketErrorCode)

pub code_tested : CodeTested
code_tested mode address t log readings buffer some small size last accepted =
    let os = operations_of t in
    let o = coded_left mode address t log readings buffer in
    let came = bytes_read o.log in
    let byte = get_or came (room_of os) 0 in
    let code = code_of address os came in
    let test : is_right address os came ≡ eqb byte code = ap (λ (q : Bool). not q || eqb byte code) last in
    let log_same : o.log ≡ (plain_left mode address (longer_form 0 t) log readings buffer).log =
    (as_longer mode address t log readings buffer some small size).log
    ∙ ap (λ (u : Transfer ℕ). (plain_left mode address u log readings buffer).log) (any_form code t last)
    in
    record {
      came = ap (λ (l : List Entry). length (bytes_read l)) log_same
          ∙ all_came mode address t log readings buffer some small last accepted;
      answer = (as_longer mode address t log readings buffer some small size).answer
          ∙ ap (λ (u : Transfer ℕ). tested_reply (is_right address os came) (plain_left mode address u log readings buffer).answer)
          (any_form code t last)
          ∙ ap (tested_reply (is_right address os came)) accepted
          ∙ ap told test;
    }
