-- What is claimed of the causes of an abort: when there are none, what the count and the lowest say, that only bits 0 to 16
-- matter, and which reason the lowest tells.
use Rattle.std.specs.Prelude.{ℕ, ◌%◌, ◌^◌, ◌≤◌, ◌<◌, true, false, ◌↔◌, ◌≡◌, Some, None}
use Rattle.regs.specs.Fields.{bit, no_acknowledge}
use Rattle.regs_causes.specs.declared.Counted.{Counted}
use Rattle.regs_causes.specs.Causes.{causes_of}

-- there is none exactly if the low 17 bits are clear
abbrev pub NoneIfClear : Type 0
NoneIfClear = (w : ℕ) → (causes_of w ≡ None) ↔ (w % 2 ^ 17 ≡ 0)

-- at least one and at most 17 are set, and the lowest is one of the 17, set, with none set below it
pub record Lowest (w : ℕ) (c : Counted) : Type 0 where
  pub some : 1 ≤ c.count
  pub at_most_17 : c.count ≤ 17
  pub a_cause : c.lowest < 17
  pub set : bit c.lowest w ≡ true
  pub none_below : (j : ℕ) → j < c.lowest → bit j w ≡ false

-- a word whose low 17 bits are not all clear has such a count and such a lowest
abbrev pub SetOtherwise : Type 0
SetOtherwise = (w : ℕ) → (w % 2 ^ 17 ≡ 0 → ⊥) → (c : Counted) × (causes_of w ≡ Some c) × Lowest w c

-- what lies above the causes changes nothing
abbrev pub OnlyLowBits : Type 0
OnlyLowBits = (w : ℕ) → causes_of w ≡ causes_of (w % 2 ^ 17)

-- no acknowledge of an address, what the driver calls NoAcknowledge, exactly if the lowest is one of the first three
abbrev pub AddressNotAcknowledged : Type 0
AddressNotAcknowledged = (w : ℕ)
    → (no_acknowledge w ≡ true) ↔ ((c : Counted) × (causes_of w ≡ Some c) × (c.lowest < 3))

-- a data byte that was not acknowledged, bit 3 without those three, exactly if the lowest is 3
abbrev pub DataNotAcknowledged : Type 0
DataNotAcknowledged = (w : ℕ)
    → ((no_acknowledge w ≡ false) × (bit 3 w ≡ true)) ↔ ((c : Counted) × (causes_of w ≡ Some c) × (c.lowest ≡ 3))

-- words and their causes, computed
pub record Rows : Type 0 where
  pub nothing : causes_of 0 ≡ None
  pub flush_count_only : causes_of 0x00800000 ≡ None
  pub bit_17_only : causes_of 0x00020000 ≡ None
  pub data_byte : causes_of 0x8 ≡ Some (record { count = 1; lowest = 3 })
  pub data_byte_and_arbitration : causes_of 0x1008 ≡ Some (record { count = 2; lowest = 3 })
  pub all_causes : causes_of 0x1FFFF ≡ Some (record { count = 17; lowest = 0 })
  pub bit_16_only : causes_of 0x10000 ≡ Some (record { count = 1; lowest = 16 })
  pub all_bits : causes_of 0xFFFFFFFF ≡ Some (record { count = 17; lowest = 0 })
