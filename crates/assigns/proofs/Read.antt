-- What the assignments of a statement are, whatever the text: their characters are those of DATA, and no signal is assigned twice.
use Prim.Native.Nat.{ℕ}
use native.Mathlib.Omega.{arith}
use mathlib.Core.Path.{◌≡◌, refl, sym, ap, ◌∙◌, subst}
use mathlib.Core.Bool.{Bool, true, false, not, ◌||◌}
use mathlib.Core.Option.{Option, some}
use mathlib.Core.List.{List, [], ◌∷◌, ◌++◌}
use lib.Dec.{eqb}
use lib.ListN.{length}
use borrow.Author.Tests.{eqb-true, not-false}
use Rattle.tokens.specs.Written.{same}
use Rattle.tokens.specs.Tokens.{Tok}
use Rattle.meaning.specs.Body.{Assigns, mark}
use Rattle.meaning.specs.Lists.{has, meets, repeats}
use Rattle.meaning.specs.Names.{find, old_name}
use Rattle.meaning.specs.Signals.{Names}
use Rattle.meaning.specs.Timing.{wave_char}
use Rattle.meaning.specs.Data.{data_read, paired, assigned, assign, assigns}
use Rattle.meaning.proofs.Takes.{Takes}
use Rattle.meaning.proofs.Taking.{takes_keeps, takes_due, takes_old, takes_bind, keeps_bind, keeps_give, keeps_if}
use Rattle.meaning.proofs.Gives.{Gives, gives_bind, gives_after, gives_give, gives_if, gives_until}
use Rattle.sets.proofs.Tidy.{TidyBelow, bare, next, tidy_append}
use Rattle.signals.specs.Names.{AllTidy, none, more}
use Rattle.signals.proofs.Tidy.{gives_known}
use Rattle.data.proofs.Characters.{takes_data, no_mark, no_other}
use Rattle.assigns.specs.Given.{chars}
use Rattle.assigns.proofs.Table.{chars_append, chars_paired}

-- a name that is known stands for signals that differ
pub tidy_name : {most : ℕ} (ns : Names) → AllTidy most ns → Gives (λ x. TidyBelow most x.1) (old_name ns)
unfolding old_name find
tidy_name {most} ns h =
    gives_after P _ _ λ t. gives_bind (TidyBelow most) P _ _ (gives_known (TidyBelow most) _ _ _ (by ns h t.word)) λ l q. gives_give P (t, l) q
  where
    P : Tok × List ℕ → Type 0
    P x = TidyBelow most x.1

    by : (ns : Names) → AllTidy most ns → (w l : List ℕ) → find ns w ≡ some l → TidyBelow most l
    by [] none w l e = let z : ◌≡◌ {A = ℕ} 0 1 = cc in absurd (omega arith)
    by ((t, k) ∷ ns) (more h hs) w l e = here (same t.word w) e (by ns hs w l)
      where
        here : (b : Bool) → ◌≡◌ {A = Option (List ℕ)} (elim b [ true ↦ some k | false ↦ find ns w ]) (some l) → (find ns w ≡ some l → TidyBelow most l)
            → TidyBelow most l
        here true e r = let q : k ≡ l = cc in subst (TidyBelow most) q h
        here false e r = r e

-- ---- it takes a token

pub takes_assign : (ns : Names) (m : Bool) (xs : Assigns) → Takes (assign ns m xs)
unfolding assign
takes_assign ns m xs =
    takes_bind _ _ (takes_old ns) λ x. keeps_bind _ _ (keeps_if _ _ _) λ u. keeps_bind _ _ (takes_keeps (takes_due _)) λ p.
    keeps_bind _ _ (takes_keeps (takes_data m)) λ d. keeps_bind _ _ (keeps_if _ _ _) λ u. keeps_give _

-- ---- signals

assigned_append : (xs ys : Assigns) → assigned (xs ++ ys) ≡ assigned xs ++ assigned ys
unfolding assigned
assigned_append [] ys = refl
assigned_append (x ∷ xs) ys = ap (λ (l : List ℕ). x.0 ∷ l) (assigned_append xs ys)

assigned_paired : (ss cs : List ℕ) → length cs ≡ length ss → assigned (paired ss cs) ≡ ss
unfolding assigned paired
assigned_paired [] cs e = refl
assigned_paired (s ∷ ss) [] e = absurd (omega arith)
assigned_paired (s ∷ ss) (c ∷ cs) e = ap (λ (l : List ℕ). s ∷ l) (assigned_paired ss cs (omega arith))

module _ {most : ℕ} (ns : Names) (m : Bool) (all : AllTidy most ns) where
  abbrev Differ : Assigns → Type 0
  Differ xs = TidyBelow most (assigned xs)

  differ_assign : (xs : Assigns) → Differ xs → Gives Differ (assign ns m xs)
  unfolding assign
  differ_assign xs h =
      gives_bind (λ x. TidyBelow most x.1) Differ _ _ (tidy_name ns all) λ x t.
      gives_bind (λ u. meets x.1 (assigned xs) ≡ false) Differ _ _ (gives_if _ _ _) λ u e.
      gives_after Differ _ _ λ p.
      gives_after Differ _ _ λ d.
      gives_bind (λ u. not (eqb (length d.0) (length x.1)) ≡ false) Differ _ _ (gives_if _ _ _) λ v k.
      gives_give Differ _ (
      subst (TidyBelow most)
      (sym (assigned_append xs (paired x.1 d.0) ∙ ap (λ (l : List ℕ). assigned xs ++ l) (assigned_paired x.1 d.0 (eqb-true _ _ (not-false _ k)))))
      (tidy_append h t e))

  -- no signal is assigned twice, and each is a signal of the text
  pub differ_assigns : Gives (λ xs. TidyBelow most (assigned xs)) (assigns ns m)
  unfolding assigns assigned
  differ_assigns = gives_after Differ _ _ λ p. gives_until Differ "}" (assign ns m) differ_assign [] bare

pub tidy_once : {most : ℕ} {l : List ℕ} → TidyBelow most l → repeats l ≡ false
unfolding repeats
tidy_once bare = refl
tidy_once (next b e t) = rw (e, tidy_once t)

-- ---- characters

-- a character that DATA never has is never assigned
module _ (b : ℕ) (ns : Names) (m : Bool) (h : Gives (λ d. has b d.0 ≡ false) (data_read m)) where
  Without : Assigns → Type 0
  Without xs = has b (chars xs) ≡ false

  without_assign : (xs : Assigns) → Without xs → Gives Without (assign ns m xs)
  unfolding assign Without
  without_assign xs k =
      gives_after Without _ _ λ x.
      gives_after Without _ _ λ u.
      gives_after Without _ _ λ p.
      gives_bind (λ d. has b d.0 ≡ false) Without _ _ h λ d e.
      gives_after Without _ _ λ u. gives_give Without _ (chars_append b xs _ k (chars_paired b x.1 d.0 e))

  without_assigns : Gives Without (assigns ns m)
  unfolding assigns Without chars has
  without_assigns = gives_after Without _ _ λ p. gives_until Without "}" (assign ns m) without_assign [] refl

-- where `#` may not stand, none is assigned
pub no_mark_assigned : (ns : Names) → Gives (λ xs. has mark (chars xs) ≡ false) (assigns ns false)
unfolding Without
no_mark_assigned ns = without_assigns mark ns false no_mark

-- none is anything but a letter, a digit or `#`
pub no_other_assigned : (b : ℕ) (ns : Names) (m : Bool) → (wave_char b || eqb mark b) ≡ false → Gives (λ xs. has b (chars xs) ≡ false) (assigns ns m)
unfolding Without
no_other_assigned b ns m h = without_assigns b ns m (no_other b m h)
