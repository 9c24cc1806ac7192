-- What a transfer is asked to do: operations, and how kinds and lengths beside one write and one read buffer list them.
use Rattle.std.specs.Prelude.{ℕ, ◌+◌, Bool, true, ◌&&◌, ◌||◌, List, [], ◌∷◌, eqb, leb, length, take, drop, if◌then◌else◌}

-- a write of bytes, each a B, or a read of so many bytes
pub data Operation (B : Type 0) : Type 0 where
  writes : List B → Operation B
  reads : ℕ → Operation B

-- the arguments of the four forms
pub data Transfer (B : Type 0) : Type 0 where
  read : ℕ → Transfer B
  write : List B → Transfer B
  write_read : List B → ℕ → Transfer B
  transaction : List (Operation B) → Transfer B

pub data Mode : Type 0 where
  blocking async : Mode

-- the one read or write, a write-read's write and then its read, or a transaction's as listed
abbrev pub operations_of : {B : Type 0} → Transfer B → List (Operation B)
operations_of (read len) = reads len ∷ []
operations_of (write bytes) = writes bytes ∷ []
operations_of (write_read bytes len) = writes bytes ∷ reads len ∷ []
operations_of (transaction os) = os

-- the two kinds
abbrev pub READ : ℕ
READ = 0

abbrev pub WRITE : ℕ
WRITE = 1

-- the operations that kinds and lengths list: a write's bytes come from the front of those that are left
unfoldable pub listed : {B : Type 0} → List ℕ → List ℕ → List B → List (Operation B)
listed [] lengths bytes = []
listed (kind ∷ kinds) [] bytes = []
listed (kind ∷ kinds) (n ∷ lengths) bytes =
    if eqb kind WRITE then writes (take n bytes) ∷ listed kinds lengths (drop n bytes) else reads n ∷ listed kinds lengths bytes

-- the lengths of a kind, added
unfoldable pub total : ℕ → List ℕ → List ℕ → ℕ
total k [] lengths = 0
total k (kind ∷ kinds) [] = 0
total k (kind ∷ kinds) (n ∷ lengths) = if eqb kind k then n + total k kinds lengths else total k kinds lengths

unfoldable pub known : List ℕ → Bool
known [] = true
known (kind ∷ kinds) = (eqb kind READ || eqb kind WRITE) && known kinds

-- the limits of number 20: bytes of one direction, and operations
abbrev pub MOST_BYTES : ℕ
MOST_BYTES = 4096

abbrev pub MOST_OPERATIONS : ℕ
MOST_OPERATIONS = 64

abbrev pub fits : ℕ → Bool
fits len = leb len MOST_BYTES

-- kinds and lengths are as many, at most 64, each kind is known, and the lengths of each add up to its lent buffer, which fits
abbrev pub lists : List ℕ → List ℕ → ℕ → ℕ → Bool
lists kinds lengths written room =
    eqb (length kinds) (length lengths) && (leb (length kinds) MOST_OPERATIONS && (known kinds
    && (eqb (total WRITE kinds lengths) written && (eqb (total READ kinds lengths) room && (fits written && fits room)))))
