-- The words of operations make the sequence of the joined operations.
use Prim.Native.Nat.{ℕ, zero, suc, ◌/◌, ◌%◌, ◌^◌, ◌<◌}
use native.Mathlib.Omega.{arith}
use mathlib.Core.Path.{◌≡◌, refl, ap, sym, ◌∙◌}
use mathlib.Core.Logic.{◌≢◌}
use mathlib.Core.Bool.{Bool, true, false, not, ◌&&◌, and-false, and-true}
use mathlib.Core.List.{List, [], ◌∷◌, ◌++◌, map, append_assoc}
use lib.Dec.{eqb-suc-zero}
use lib.ListN.{replicate, replicate-append-replicate}
use Rattle.std.specs.Prelude.{if◌then◌else◌, Option, Some, None}
use Rattle.regs.specs.Fields.{stop, restart, command_word}
use Rattle.regs.specs.Log.{Each}
use Rattle.bus.specs.declared.Direction.{Direction}
use Rattle.bus.specs.declared.Direction.TheVariants.{Writing, Reading}
use Rattle.bus.specs.declared.Bus.{Bus}
use Rattle.bus.specs.declared.Bus.TheVariants.{Idle, Busy}
use Rattle.bus.specs.declared.Condition.{Condition}
use Rattle.bus.specs.declared.Condition.TheVariants as C
use Rattle.bus.specs.declared.Sign.{Sign}
use Rattle.bus.specs.declared.Sign.TheVariants.{Restart, Stop, Written, ReadSlot}
use Rattle.bus.specs.Bus.{same, direction_of, opening_of, opening, byte_sign, closing, signs}
use Rattle.master.specs.Operations.{Operation, writes, reads}
use Rattle.master.specs.Sequence.{joined_to, joined, direction, payload, sequence_from, sequence}
use Rattle.master.specs.Demand3.{NotEmpty}
use Rattle.master.specs.CodedLaws.{Small}
use Rattle.master.proofs.Words.{read_words, write_words, words_of, all_words}

-- what written numbers are: bytes
abbrev pub Bytes : List ℕ → Type 0
Bytes bs = Each (λ b. b < 256) bs

abbrev pub OfBytes : Operation ℕ → Type 0
OfBytes = Small

-- what comes before a byte, by its direction and its RESTART flag
abbrev pub opens : Bus → Direction → Bool → Option Condition
opens Idle d flag = Some C.Start
opens (Busy e) d flag = if same e d && not flag then None else Some C.Restart

abbrev pub front : Bus → ℕ → Direction → Bool → List Sign
front bus a d flag = opening (opens bus d flag) a d

-- the bus after a byte, by its direction and its STOP flag
abbrev left : Bool → Direction → Bus
left last d = if last then Idle else Busy d

opens_as : (bus : Bus) (w : ℕ) → opening_of bus w ≡ opens bus (direction_of w) (restart w)
opens_as Idle w = refl
opens_as (Busy d) w = refl

-- one word
signs_of_word : (bus : Bus) (a w : ℕ) (ws : List ℕ)
    → signs bus a (w ∷ ws) ≡ front bus a (direction_of w) (restart w)
    ++ (byte_sign (direction_of w) w ∷ (closing (stop w) ++ signs (left (stop w) (direction_of w)) a ws))
unfolding signs
signs_of_word bus a w ws = rw (opens_as bus w) (append_assoc (front bus a (direction_of w) (restart w)) _ _)

signs_of_read : (bus : Bus) (a : ℕ) (restart stop : Bool) (ws : List ℕ)
    → signs bus a (command_word 0 true stop restart ∷ ws)
    ≡ front bus a Reading restart ++ (ReadSlot ∷ (closing stop ++ signs (left stop Reading) a ws))
signs_of_read bus a true true ws = signs_of_word bus a _ ws
signs_of_read bus a true false ws = signs_of_word bus a _ ws
signs_of_read bus a false true ws = signs_of_word bus a _ ws
signs_of_read bus a false false ws = signs_of_word bus a _ ws

signs_of_write : (bus : Bus) (a b : ℕ) (stop : Bool) (ws : List ℕ) → b < 256
    → signs bus a (command_word b false stop false ∷ ws)
    ≡ front bus a Writing false ++ (Written b ∷ (closing stop ++ signs (left stop Writing) a ws))
signs_of_write bus a b true ws small =
    let w : ℕ = command_word b false true false in
    let r : w / 2 ^ 8 % 2 ≡ 0 = omega arith in
    let s : w / 2 ^ 9 % 2 ≡ 1 = omega arith in
    let t : w / 2 ^ 10 % 2 ≡ 0 = omega arith in
    let v : w % 256 ≡ b = omega arith in
    signs_of_word bus a w ws ∙ rw (r, s, t, v)
signs_of_write bus a b false ws small =
    let w : ℕ = command_word b false false false in
    let r : w / 2 ^ 8 % 2 ≡ 0 = omega arith in
    let s : w / 2 ^ 9 % 2 ≡ 0 = omega arith in
    let t : w / 2 ^ 10 % 2 ≡ 0 = omega arith in
    let v : w % 256 ≡ b = omega arith in
    signs_of_word bus a w ws ∙ rw (r, s, t, v)

-- one operation
signs_of_writes : (bus : Bus) (a : ℕ) (stop : Bool) (b : ℕ) (bs : List ℕ) (ws : List ℕ) → Bytes (b ∷ bs)
    → signs bus a (write_words stop (b ∷ bs) ++ ws) ≡ front bus a Writing false
    ++ (map Written (b ∷ bs) ++ (closing stop ++ signs (left stop Writing) a ws))
unfolding write_words
signs_of_writes bus a stop b [] ws small = rw (and-true, signs_of_write bus a b stop ws small.0)
signs_of_writes bus a stop b (c ∷ cs) ws small =
    rw (
      and-false,
      signs_of_write bus a b false (write_words stop (c ∷ cs) ++ ws) small.0,
      signs_of_writes (Busy Writing) a stop c cs ws small.1,
    )

signs_of_reads : (bus : Bus) (a : ℕ) (restart stop : Bool) (n : ℕ) (ws : List ℕ)
    → signs bus a (read_words restart stop (suc n) ++ ws)
    ≡ front bus a Reading restart
    ++ (replicate (suc n) ReadSlot ++ (closing stop ++ signs (left stop Reading) a ws))
unfolding read_words
signs_of_reads bus a restart stop zero ws = rw (and-true, signs_of_read bus a restart stop ws)
signs_of_reads bus a restart stop (suc n) ws =
    rw (
      eqb-suc-zero n,
      and-false,
      signs_of_read bus a restart false (read_words false stop (suc n) ++ ws),
      signs_of_reads (Busy Reading) a false stop n ws,
    )

-- a read's RESTART flag asks for nothing new: its direction is new anyway
abbrev pub Harmless : Bool → Bus → Operation ℕ → Type 0
Harmless restart bus o = (a : ℕ) → front bus a (direction o) restart ≡ front bus a (direction o) false

signs_of_operation : (bus : Bus) (a : ℕ) (restart stop : Bool) (o : Operation ℕ) (ws : List ℕ)
    → NotEmpty o
    → OfBytes o
    → Harmless restart bus o
    → signs bus a (words_of restart stop o ++ ws) ≡ front bus a (direction o) false
    ++ (payload o ++ (closing stop ++ signs (left stop (direction o)) a ws))
signs_of_operation bus a restart stop (writes []) ws full bytes harmless = absurd full
signs_of_operation bus a restart stop (writes (b ∷ bs)) ws full bytes harmless = signs_of_writes bus a stop b bs ws bytes
signs_of_operation bus a restart stop (reads zero) ws full bytes harmless = absurd full
signs_of_operation bus a restart stop (reads (suc n)) ws full bytes harmless = rw (signs_of_reads bus a restart stop n ws, harmless a)

-- the sequence from a bus that may be busy already
flow : Bus → ℕ → List (Operation ℕ) → List Sign
flow bus a [] = Stop ∷ []
flow bus a (o ∷ os) = front bus a (direction o) false ++ (payload o ++ sequence_from Restart a os)

pub map_append : (f : ℕ → Sign) (xs ys : List ℕ) → map f (xs ++ ys) ≡ map f xs ++ map f ys
map_append f [] ys = refl
map_append f (x ∷ xs) ys = ap (λ r. f x ∷ r) (map_append f xs ys)

flow_joined : (bus : Bus) (a : ℕ) (o : Operation ℕ) (os : List (Operation ℕ))
    → flow bus a (joined_to o os) ≡ front bus a (direction o) false ++ (payload o ++ flow (Busy (direction o)) a os)
unfolding flow sequence_from
flow_joined bus a o [] = refl
flow_joined bus a (writes b) (writes c ∷ os) = rw (map_append, append_assoc (map Written b))
flow_joined bus a (writes b) (reads n ∷ os) = refl
flow_joined bus a (reads m) (writes c ∷ os) = refl
flow_joined bus a (reads m) (reads n ∷ os) = rw (← replicate-append-replicate m n ReadSlot, append_assoc (replicate m ReadSlot))

abbrev pub AllHarmless : Bool → Bus → List (Operation ℕ) → Type 0
AllHarmless restart bus [] = Unit {0}
AllHarmless restart bus (o ∷ os) = Harmless restart bus o × AllHarmless restart (Busy (direction o)) os

signs_of_all : (bus : Bus) (a : ℕ) (restart : Bool) (o : Operation ℕ) (os : List (Operation ℕ))
    → Each NotEmpty (o ∷ os) → Each OfBytes (o ∷ os) → AllHarmless restart bus (o ∷ os)
    → signs bus a (all_words restart (o ∷ os)) ≡ flow bus a (joined (o ∷ os))
unfolding all_words flow joined signs sequence_from
signs_of_all bus a restart o [] full bytes harmless =
    signs_of_operation bus a restart true o [] full.0 bytes.0 harmless.0
signs_of_all bus a restart o (p ∷ os) full bytes harmless =
    signs_of_operation bus a restart false o (all_words restart (p ∷ os)) full.0 bytes.0 harmless.0
    ∙ (ap (λ ss. front bus a (direction o) false ++ (payload o ++ ss))
    (signs_of_all (Busy (direction o)) a restart p os full.1 bytes.1 harmless.1)
    ∙ sym (flow_joined bus a o (joined (p ∷ os))))

pub harmless_unset : (bus : Bus) (os : List (Operation ℕ)) → AllHarmless false bus os
harmless_unset bus [] = tt
harmless_unset bus (o ∷ os) = (λ a. refl, harmless_unset (Busy (direction o)) os)

idle_flow : (a : ℕ) (qs : List (Operation ℕ)) → flow Idle a qs ≡ sequence a qs
unfolding flow sequence_from
idle_flow a [] = refl
idle_flow a (q ∷ qs) = refl

-- from an idle bus the words of operations make the sequence of the joined operations
pub words_make_sequence : (a : ℕ) (restart : Bool) (os : List (Operation ℕ))
    → os ≢ []
    → Each NotEmpty os
    → Each OfBytes os
    → AllHarmless restart Idle os
    → signs Idle a (all_words restart os) ≡ sequence a (joined os)
words_make_sequence a restart [] some full bytes harmless = absurd (some refl)
words_make_sequence a restart (o ∷ os) some full bytes harmless =
    signs_of_all Idle a restart o os full bytes harmless ∙ idle_flow a (joined (o ∷ os))

-- the sequence of the joined operations, operation by operation and without its STOP
unfoldable pub body : Bus → ℕ → List (Operation ℕ) → List Sign
body bus a [] = []
body bus a (o ∷ os) = front bus a (direction o) false ++ (payload o ++ body (Busy (direction o)) a os)

pub append_three : (xs ys zs ws : List Sign) → (xs ++ (ys ++ zs)) ++ ws ≡ xs ++ (ys ++ (zs ++ ws))
append_three xs ys zs ws = append_assoc xs (ys ++ zs) ws ∙ ap (λ (r : List Sign). xs ++ r) (append_assoc ys zs ws)

flow_body : (bus : Bus) (a : ℕ) (os : List (Operation ℕ)) → flow bus a (joined os) ≡ body bus a os ++ Stop ∷ []
unfolding flow joined body
flow_body bus a [] = refl
flow_body bus a (o ∷ os) =
    flow_joined bus a o (joined os)
    ∙ (ap (λ (ss : List Sign). front bus a (direction o) false ++ (payload o ++ ss)) (flow_body (Busy (direction o)) a os)
    ∙ sym (append_three (front bus a (direction o) false) (payload o) (body (Busy (direction o)) a os) (Stop ∷ [])))

pub sequence_body : (a : ℕ) (os : List (Operation ℕ)) → sequence a (joined os) ≡ body Idle a os ++ Stop ∷ []
sequence_body a os = sym (idle_flow a (joined os)) ∙ flow_body Idle a os
