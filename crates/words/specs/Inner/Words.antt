-- A transfer as 20 words. Whatever the words are, they stand for a transfer
-- under way, or for one that is over, of which number and detail are left.
use Rattle.std.specs.Prelude.{ℕ, ◌%◌, ◌^◌, Bool, true, false, not, List, eqb, ltb, get_or, if◌then◌else◌}
use Rattle.transfer.specs.declared.Mode.{Mode}
use Rattle.transfer.specs.declared.Mode.TheVariants.{Blocking, Async}
use Rattle.transfer.specs.declared.Operation.{Operation}
use Rattle.transfer.specs.declared.Transfer.{Transfer}
use Rattle.words_points.specs.Held.{Held, Live, Over}
use Rattle.words_points.specs.Inner.Numbers.{point_at}
use Rattle.words_points.specs.declared.Who.{Who}
use Rattle.words_points.specs.declared.Place.{Place}

-- 16 bits, 32 bits, and a flag
abbrev pub half_of : ℕ → ℕ
half_of w = w % 2 ^ 16

abbrev pub full_of : ℕ → ℕ
full_of w = w % 2 ^ 32

abbrev pub flag_of : ℕ → Bool
flag_of w = not (eqb w 0)

unfoldable pub mode_at : Bool → Mode
mode_at false = Blocking
mode_at true = Async

-- the form: 1 for the async mode, and 2 more for RESTART
unfoldable pub form_of : Mode → Bool → ℕ
form_of Blocking false = 0
form_of Blocking true = 2
form_of Async false = 1
form_of Async true = 3

unfoldable pub who_in : List ℕ → Who
who_in s =
    record {
      kind = get_or s 3 0;
      index = half_of (get_or s 4 0);
      count = half_of (get_or s 5 0);
      remaining = half_of (get_or s 6 0);
      queue = half_of (get_or s 7 0);
      batch = half_of (get_or s 8 0);
      failure = record { kind = get_or s 9 0; count = half_of (get_or s 10 0); word = full_of (get_or s 11 0) };
    }

unfoldable pub place_in : List ℕ → Place
place_in s = record { group = get_or s 0 0; row = get_or s 1 0; word = full_of (get_or s 2 0); who = who_in s }

abbrev pub operation_in : List ℕ → Operation
operation_in s =
    record {
      at = get_or s 16 0;
      len = half_of (get_or s 15 0);
      restart = ltb 1 (get_or s 12 0);
      send_stop = flag_of (get_or s 13 0);
    }

unfoldable pub transfer_in : List ℕ → Transfer
transfer_in s =
    record {
      point = point_at (place_in s);
      mode = mode_at (eqb (get_or s 12 0 % 2) 1);
      address = half_of (get_or s 14 0);
      operation = operation_in s;
      begun = get_or s 17 0;
      reads = get_or s 18 0;
      writes = get_or s 19 0;
    }

-- groups 0 to 7 have points; any other group is the end, with the number in the row and the detail in the word
unfoldable pub held_at : List ℕ → Held
held_at s = if ltb 7 (get_or s 0 0) then Over (get_or s 1 0 % 2 ^ 8) (full_of (get_or s 2 0)) else Live (transfer_in s)
