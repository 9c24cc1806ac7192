-- What the access that is told of the words, and was made, makes of the running code is what `Moves` says: of a transfer under
-- way it is the machine's access, and at the end there is none.
use Prim.Native.Nat.{ℕ}
use mathlib.Core.List.{List}
use mathlib.Core.Path.{◌≡◌, refl, ap, ◌∙◌}
use lib.Dec.{ltb}
use lib.ListN.{get_or}
use Rattle.regs.specs.Inner.Summed.{changed_by, sum_after}
use Rattle.regs.specs.declared.access.Next.{Next}
use Rattle.regs.specs.declared.access.Next.TheVariants.{Read, Write, Mark, Finished}
use Rattle.regs.proofs.Tests.{by_test}
use Rattle.master.specs.Inner.Running.{Sum, running}
use Rattle.transfer.specs.Inner.Machine.{next_of}
use Rattle.words_points.specs.Held.{Held, Live, Over}
use Rattle.words.specs.Inner.Words.{half_of, transfer_in, held_at}
use Rattle.words_code.specs.Inner.Code.{fed_by}
use Rattle.export_steps.specs.Inner.Steps.{ended, access_of, access_held, told_by, sum_held}
use Rattle.export_steps.specs.declared.Access.{Access}
use Rattle.export_steps.proofs.Told.{told_is}

abbrev fed_with : ℕ → Sum → Access → ℕ → Sum
fed_with address s a v = fed_by address s a.kind a.register a.value v

-- an access of the machine, as it is told
fed_is : (address : ℕ) (s : Sum) (n : Next) (v : ℕ)
    → fed_with address s (access_of (changed_by (running address) s n)) v ≡ sum_after (running address) s n v
unfolding access_of ended fed_by
fed_is address s (Read r) v = refl
fed_is address s (Write r x) v = refl
fed_is address s (Mark x) v = refl
fed_is address s (Finished a) v = refl

module _ (bytes words : List ℕ) (s : Sum) (v : ℕ) where
  abbrev Fed : Held → Type 0
  Fed h = fed_with (half_of (get_or words 14 0)) s (told_by s (access_held bytes h)) v ≡ sum_held bytes h s v

  at_live : Fed (Live (transfer_in words))
  unfolding access_held sum_held transfer_in
  at_live =
      ap (λ (a : Access). fed_with (half_of (get_or words 14 0)) s a v)
      (told_is (half_of (get_or words 14 0)) s (next_of bytes (transfer_in words)))
      ∙ fed_is (half_of (get_or words 14 0)) s (next_of bytes (transfer_in words)) v

  at_over : (n d : ℕ) → Fed (Over n d)
  unfolding access_held sum_held ended told_by fed_by
  at_over n d = refl

  by_words : Fed (held_at words)
  unfolding held_at
  by_words = by_test (ltb 7 (get_or words 0 0)) (λ q. rw q (at_over _ _)) (λ q. rw q at_live)

  -- with what the code before it and the address are
  pub made_feeds : (a : Access) (address : ℕ) (s' : Sum) → a ≡ told_by s (access_held bytes (held_at words))
      → address ≡ half_of (get_or words 14 0)
      → s' ≡ fed_by address s a.kind a.register a.value v
      → s' ≡ sum_held bytes (held_at words) s v
  made_feeds a address s' told e fed =
      fed ∙ ap (λ (x : ℕ). fed_with x s a v) e ∙ ap (λ (x : Access). fed_with (half_of (get_or words 14 0)) s x v) told ∙ by_words
