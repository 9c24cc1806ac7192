-- The message of a transfer operation by operation, as it is computed: an address byte stands where the direction changes,
-- then the bytes that are written, or the next bytes that came. It is the message of the joined operations.
use Prim.Native.Nat.{ℕ, zero, suc, ◌+◌, ◌*◌}
use mathlib.Core.List.{List, [], ◌∷◌, ◌++◌, map, append_assoc}
use mathlib.Core.Path.{◌≡◌, refl, sym, ap, ◌∙◌}
use lib.ListN.{take, drop, replicate}
use lib.Seq.{take-nil, drop-nil, take-add, drop-drop}
use Rattle.bus.specs.declared.Sign.{Sign}
use Rattle.bus.specs.declared.Sign.TheVariants.{Restart, Written, ReadSlot}
use Rattle.master.specs.Operations.{Operation, writes, reads, READ, WRITE}
use Rattle.master.specs.Sequence.{joined_to, joined, sequence_from, sequence}
use Rattle.master.specs.Coded.{message}
use Rattle.master.specs.Inner.Message.{opened, message_from}

message_written : (bs : List ℕ) (ss : List Sign) (came : List ℕ) → message (map Written bs ++ ss) came ≡ bs ++ message ss came
unfolding message
message_written [] ss came = refl
message_written (b ∷ bs) ss came = ap (λ (l : List ℕ). b ∷ l) (message_written bs ss came)

message_read : (n : ℕ) (ss : List Sign) (came : List ℕ)
    → message (replicate n ReadSlot ++ ss) came ≡ take n came ++ message ss (drop n came)
unfolding message
message_read zero ss came = refl
message_read (suc n) ss [] = message_read n ss [] ∙ rw (take-nil {A = ℕ} n, drop-nil {A = ℕ} n)
message_read (suc n) ss (b ∷ came) = ap (λ (l : List ℕ). b ∷ l) (message_read n ss came)

module _ (address : ℕ) where
  -- the message behind an operation
  abbrev rest_of : List (Operation ℕ) → List ℕ → List ℕ
  rest_of js came = message (sequence_from Restart address js) came

  -- of joined operations, behind one of this kind
  abbrev behind : ℕ → List (Operation ℕ) → List ℕ → List ℕ
  behind last [] came = []
  behind last (writes bs ∷ js) came = opened address last WRITE ++ (bs ++ rest_of js came)
  behind last (reads n ∷ js) came = opened address last READ ++ (take n came ++ rest_of js (drop n came))

  rest_writes : (bs : List ℕ) (js : List (Operation ℕ)) (came : List ℕ)
      → rest_of (writes bs ∷ js) came ≡ (address * 2 + 0) ∷ (bs ++ rest_of js came)
  unfolding message sequence_from
  rest_writes bs js came = ap (λ (l : List ℕ). (address * 2 + 0) ∷ l) (message_written bs (sequence_from Restart address js) came)

  rest_reads : (n : ℕ) (js : List (Operation ℕ)) (came : List ℕ)
      → rest_of (reads n ∷ js) came ≡ (address * 2 + 1) ∷ (take n came ++ rest_of js (drop n came))
  unfolding message sequence_from
  rest_reads n js came = ap (λ (l : List ℕ). (address * 2 + 1) ∷ l) (message_read n (sequence_from Restart address js) came)

  -- one more operation in front
  write_behind : (last : ℕ) (a : List ℕ) (js : List (Operation ℕ)) (came : List ℕ)
      → opened address last WRITE ++ (a ++ behind WRITE js came) ≡ behind last (joined_to (writes a) js) came
  unfolding message sequence_from
  write_behind last a [] came = refl
  write_behind last a (writes b ∷ js) came =
      ap (λ (l : List ℕ). opened address last WRITE ++ l) (sym (append_assoc a b (rest_of js came)))
  write_behind last a (reads n ∷ js) came =
      ap (λ (l : List ℕ). opened address last WRITE ++ (a ++ l)) (sym (rest_reads n js came))

  read_behind : (last m : ℕ) (js : List (Operation ℕ)) (came : List ℕ)
      → opened address last READ ++ (take m came ++ behind READ js (drop m came)) ≡ behind last (joined_to (reads m) js) came
  unfolding message sequence_from
  read_behind last m [] came = refl
  read_behind last m (writes b ∷ js) came =
      ap (λ (l : List ℕ). opened address last READ ++ (take m came ++ l)) (sym (rest_writes b js (drop m came)))
  read_behind last m (reads n ∷ js) came =
      ap (λ (l : List ℕ). opened address last READ ++ l)
      (sym (append_assoc (take m came) (take n (drop m came)) (rest_of js (drop n (drop m came))))
      ∙ rw (take-add m n came, drop-drop n m came))

  joined_behind : (last : ℕ) (os : List (Operation ℕ)) (came : List ℕ) → message_from address last os came ≡ behind last (joined os) came
  unfolding message_from joined
  joined_behind last [] came = refl
  joined_behind last (writes a ∷ os) came =
      ap (λ (l : List ℕ). opened address last WRITE ++ (a ++ l)) (joined_behind WRITE os came)
      ∙ write_behind last a (joined os) came
  joined_behind last (reads m ∷ os) came =
      ap (λ (l : List ℕ). opened address last READ ++ (take m came ++ l)) (joined_behind READ os (drop m came))
      ∙ read_behind last m (joined os) came

  -- from the start: no operation has the kind 2
  from_start : (js : List (Operation ℕ)) (came : List ℕ) → message (sequence address js) came ≡ behind 2 js came
  unfolding message sequence_from
  from_start [] came = refl
  from_start (writes bs ∷ js) came =
      ap (λ (l : List ℕ). (address * 2 + 0) ∷ l) (message_written bs (sequence_from Restart address js) came)
  from_start (reads n ∷ js) came =
      ap (λ (l : List ℕ). (address * 2 + 1) ∷ l) (message_read n (sequence_from Restart address js) came)

  pub message_is : (os : List (Operation ℕ)) (came : List ℕ)
      → message (sequence address (joined os)) came ≡ message_from address 2 os came
  message_is os came = from_start (joined os) came ∙ sym (joined_behind 2 os came)
