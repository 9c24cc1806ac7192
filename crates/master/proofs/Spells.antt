-- What a behaviour of the driver spells: the bytes of operations in order, each one that is read stored at the next place
-- of the buffer, and then the code. They are found along the driver's text, as in Alike.antt.
--     Spells c i t     with c to come and i bytes read before, t makes no other access to DATA_CMD than those of c, in
--                      order, and words that ask for bytes; and it is accepted only where nothing is to come any more
use Prim.Native.Nat.{ℕ, suc, ◌<◌}
use mathlib.Core.Bool.{true, false}
use mathlib.Core.List.{List, [], ◌∷◌}
use mathlib.Core.Path.{◌≡◌}
use lib.Dec.{eqb}
use Rattle.regs.specs.declared.answers.Answer.TheVariants.{Accepted, Refused}
use Rattle.regs.specs.declared.answers.Refusal.{Refusal}
use Rattle.regs.specs.Registers.{DATA_CMD}
use Rattle.regs.specs.Fields.{command_word, cmd, dat}
use Rattle.regs.specs.Program as P
use Rattle.master.specs.Operations.{Operation, writes, reads, READ, WRITE}
use Rattle.master.specs.Inner.Message.{NO_KIND}
use Rattle.master.proofs.Emits.{Does}

-- the rest of the operations' data, after data of this kind, and then the code; or nothing
pub data ToCome : Type 0 where
  data_and_code : (last : ℕ) (os : List (Operation ℕ)) → ToCome
  nothing : ToCome

-- without operations there is no code
abbrev pub to_come : List (Operation ℕ) → ToCome
to_come [] = nothing
to_come (o ∷ os) = data_and_code NO_KIND (o ∷ os)

pub data Spells : ToCome → ℕ → Does → Type 0 where
  refused_spells : {c : ToCome} {i : ℕ} {why : Refusal} → Spells c i (P.ends (Refused why))
  accepted_spells : {i : ℕ} → Spells nothing i (P.ends Accepted)
  reads_spells : {c : ToCome} {i r : ℕ} {f : ℕ → Does} → eqb r DATA_CMD ≡ false
      → ((v : ℕ) → Spells c i (f v)) → Spells c i (P.reads r f)
  writes_spells : {c : ToCome} {i r w : ℕ} {t : Does} → eqb r DATA_CMD ≡ false
      → Spells c i t → Spells c i (P.writes r w t)
  -- a word that asks for a byte, which is none of the message; the last one comes before the last byte is taken
  asks_spells : {last i w : ℕ} {os : List (Operation ℕ)} {t : Does} → cmd w ≡ true
      → Spells (data_and_code last os) i t → Spells (data_and_code last os) i (P.writes DATA_CMD w t)
  marks_spells : {c : ToCome} {i x : ℕ} {t : Does} → Spells c i t → Spells c i (P.marks x t)
  cut_spells : {c : ToCome} {i : ℕ} → Spells c i P.cut
  byte_read : {last n i p : ℕ} {os : List (Operation ℕ)} {f : ℕ → Does} → p ≡ i
      → ((v : ℕ) → Spells (data_and_code READ (reads n ∷ os)) (suc i) (f v))
      → Spells (data_and_code last (reads (suc n) ∷ os)) i (P.reads DATA_CMD (λ v. P.stores p (dat v) (f v)))
  code_read : {i p : ℕ} {f : ℕ → Does} → p ≡ i
      → ((v : ℕ) → Spells nothing i (f v))
      → Spells (data_and_code READ (reads 0 ∷ [])) i (P.reads DATA_CMD (λ v. P.stores p (dat v) (f v)))
  byte_written : {last i b : ℕ} {bs : List ℕ} {os : List (Operation ℕ)} {t : Does} → b < 256
      → Spells (data_and_code WRITE (writes bs ∷ os)) i t
      → Spells (data_and_code last (writes (b ∷ bs) ∷ os)) i (P.writes DATA_CMD (command_word b false false false) t)
  code_written : {i : ℕ} {t : Does} → Spells nothing i t
      → Spells (data_and_code WRITE (writes [] ∷ [])) i (P.writes DATA_CMD (command_word 0 false true false) t)
  read_over : {i : ℕ} {o : Operation ℕ} {os : List (Operation ℕ)} {t : Does} → Spells (data_and_code READ (o ∷ os)) i t
      → Spells (data_and_code READ (reads 0 ∷ (o ∷ os))) i t
  write_over : {i : ℕ} {o : Operation ℕ} {os : List (Operation ℕ)} {t : Does} → Spells (data_and_code WRITE (o ∷ os)) i t
      → Spells (data_and_code WRITE (writes [] ∷ (o ∷ os))) i t
