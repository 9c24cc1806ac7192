-- Texts put one behind the other are put as one; and what holds while a loop puts them.
use Prim.Native.Nat.{ℕ, ◌+◌, ◌≤◌}
use native.Mathlib.Omega.{arith}
use mathlib.Core.List.{List, [], ◌++◌, append_assoc, append-nil}
use mathlib.Core.Path.{◌≡◌, refl, sym, ap, ◌∙◌}
use lib.ListN.{length, take}
use Rattle.text_hex.specs.Added.{Added}
use Rattle.text_hex.specs.declared.text.Text.{Text}
use Rattle.text_hex.proofs.Appends as appends

pub no_text : (t : Text) (most : ℕ) → Added t [] most t
no_text t most = record { same_reference = refl; size = refl; appended = appends.nothing t.out.now t.at most }

pub both : {a b c : Text} {s t : List ℕ} {m n : ℕ} → Added a s m b → Added b t n c → Added a (s ++ t) (m + n) c
both x y = record {
  same_reference = y.same_reference ∙ x.same_reference;
  size = y.size ∙ x.size;
  appended = appends.then x.appended y.appended;
}

-- the text may be shorter than is said of it
pub at_most : {a b : Text} {t : List ℕ} {m : ℕ} (n : ℕ) → m ≤ n → Added a t m b → Added a t n b
at_most n h x = record { same_reference = x.same_reference; size = x.size; appended = appends.within n h x.appended }

-- of a whole text what is to come is left, and what was put has at most so many bytes
pub record Adding (before : Text) (whole to_come : List ℕ) (most : ℕ) (now : Text) : Type 0 where
  pub same_reference : now.out.ghost_name ≡ before.out.ghost_name
  pub size : length now.out.now ≡ length before.out.now
  pub same : take now.at now.out.now ++ to_come ≡ take before.at before.out.now ++ whole
  pub room : now.at ≤ before.at + most

pub all_to_come : (t : Text) (whole : List ℕ) → Adding t whole whole 0 t
all_to_come t whole = record { same_reference = refl; size = refl; same = refl; room = omega arith }

module _ {before now : Text} {whole to_come : List ℕ} {most : ℕ} (p : Adding before whole to_come most now) where
  pub one_more : {piece rest : List ℕ} {m : ℕ} {after : Text} (n : ℕ)
      → to_come ≡ piece ++ rest
      → Added now piece m after
      → most + m ≤ n
      → Adding before whole rest n after
  one_more {piece} {rest} {m} {after} n e a h = record {
    same_reference = a.same_reference ∙ p.same_reference;
    size = a.size ∙ p.size;
    same = ap (λ (l : List ℕ). l ++ rest) a.appended.same
        ∙ (append_assoc (take now.at now.out.now) piece rest
        ∙ (ap (λ (l : List ℕ). take now.at now.out.now ++ l) (sym e) ∙ p.same));
    room = omega (arith, a.appended.room, p.room);
  }

  pub all_added : (n : ℕ) → to_come ≡ [] → most ≤ n → Added before whole n now
  all_added n e h = record {
    same_reference = p.same_reference;
    size = p.size;
    appended = record {
      same = sym (append-nil (take now.at now.out.now))
          ∙ (ap (λ (l : List ℕ). take now.at now.out.now ++ l) (sym e) ∙ p.same);
      room = omega (arith, p.room);
    };
  }
