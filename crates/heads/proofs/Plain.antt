-- Heads that no body is looked up for: `W NAME;`, `Loop N {`, `X NAME;` and `Shift {`.
use Prim.Native.Nat.{ℕ, zero, suc, ◌≤◌, ◌<◌}
use native.Mathlib.Omega.{arith}
use mathlib.Core.Path.{◌≡◌, refl, sym, ◌∙◌, subst}
use mathlib.Core.Bool.{Bool, true, false, not, ◌&&◌}
use mathlib.Core.Option.{Option, none, some}
use mathlib.Core.List.{List, [], ◌∷◌}
use lib.Dec.{eqb, leb}
use borrow.Author.Tests.{leb-true, ne_eqb, lt-leb}
use Rattle.tokens.specs.Refusals.{not_here}
use Rattle.tokens.specs.Tokens.{Tok, Toks}
use Rattle.meaning.specs.Bounds.{loop_most}
use Rattle.meaning.specs.Refusals.{too_deep}
use Rattle.meaning.specs.Meaning.{firsts}
use Rattle.meaning.specs.Reader.{Res, ok, refuse, due}
use Rattle.meaning.specs.Names.{name, old_name, within, number_in}
use Rattle.meaning.specs.Lists.{has, repeats}
use Rattle.meaning.specs.Data.{assigned}
use Rattle.meaning.specs.Body.{Assigns, assigning, choosing}
use Rattle.meaning.specs.Timing.{Tables}
use Rattle.meaning.specs.Statements.{sets, loops, shifts, numbered, chosen, looping, shift_head, label_head}
use Rattle.meaning.proofs.Gives.{Gives, gives_after}
use Rattle.words.specs.Cursor.{ahead, Goes, Checked}
use Rattle.words.specs.Table.{names_from, names}
use Rattle.words.specs.declared.Cursor.{Cursor}
use Rattle.words.proofs.Flow.{given as no_more, checked, alive_before}
use Rattle.signals.proofs.Tidy.{gave}
use Rattle.signals.proofs.Tables.{old_below}
use Rattle.timing.specs.Makes.{Makes}
use Rattle.timing.proofs.Making.{made, makes_then}
use Rattle.assigns.specs.Given.{chars, Gave}
use Rattle.measures.specs.Uses.{Given}

-- ---- W

-- the names of the tables stand for their numbers
numbered_from : {A : Type 0} (text places : List ℕ) (i k : ℕ) (xs : List (Tok × A)) → firsts xs ≡ firsts (names_from text places i k)
    → numbered i xs ≡ names_from text places i k
unfolding numbered firsts names_from
numbered_from text places i zero [] e = refl
numbered_from text places i (suc k) [] e = let z : ◌≡◌ {A = ℕ} 0 1 = cc in absurd (omega arith)
numbered_from text places i zero (x ∷ xs) e = let z : ◌≡◌ {A = ℕ} 0 1 = cc in absurd (omega arith)
numbered_from text places i (suc k) (x ∷ xs) e = let l = numbered_from text places (suc i) k xs (cc) in cc

module _ {text : List ℕ} (tplaces : List ℕ) (tables : ℕ) {c a r : Cursor} {k p : ℕ} (tabs : Tables) where
  pub table_chosen : firsts tabs ≡ firsts (names text tplaces tables) → Goes text c (old_name (names text tplaces tables)) a (ahead text c, k)
      → Goes text a (due ";") r p → Makes text c (chosen tabs) r (λ h. (h ≡ sets (choosing k)) × (k < tables))
  unfolding chosen
  table_chosen e name end =
      makes_then _
      (subst (λ (xs : List (Tok × ℕ)). Goes text c (old_name xs) a (ahead text c, k)) (sym (numbered_from text tplaces 0 tables tabs e)) name)
      (makes_then _ end (made no_more (λ live. (refl, old_below tplaces tables name (alive_before end live)))))

-- ---- Loop

between : (a b : ℕ) (o : Option ℕ) (p : ℕ) → Gives (λ n. (a ≤ n) × (n ≤ b)) (within a b o p)
unfolding within
between a b none p = record { all = λ ts n us e. (let z : ◌≡◌ {A = ℕ} 0 1 = cc in absurd (omega arith)) }
between a b (some m) p = record { all = λ ts n us e. by ts n us (leb a m) refl (leb m b) refl e }
  where
    by : (ts : Toks) (n : ℕ) (us : Toks) (x : Bool) → leb a m ≡ x → (y : Bool) → leb m b ≡ y
        → ◌≡◌ {A = Res ℕ} (elim (x && y) [ true ↦ ok m ts | false ↦ refuse 9 p ]) (ok n us) → (a ≤ n) × (n ≤ b)
    by ts n us true f true g e = let q : m ≡ n = cc in (omega (arith, leb-true a m f), omega (arith, leb-true m b g))
    by ts n us true f false g e = let z : ◌≡◌ {A = ℕ} 0 1 = cc in absurd (omega arith)
    by ts n us false f y g e = let z : ◌≡◌ {A = ℕ} 0 1 = cc in absurd (omega arith)

-- a number that is read lies between its bounds
pub number_between : (a b : ℕ) → Gives (λ n. (a ≤ n) × (n ≤ b)) (number_in a b)
unfolding number_in
number_between a b = gives_after (λ n. (a ≤ n) × (n ≤ b)) _ _ λ t. between a b _ _

none_left : (d : ℕ) → eqb d 0 ≡ leb d 0
none_left zero = refl
none_left (suc d) = ne_eqb (suc d) 0 (λ e. omega arith) ∙ sym (lt-leb (suc d) 0 (omega arith))

module _ {text : List ℕ} {c a r : Cursor} (d : ℕ) {p q : ℕ} where
  pub loop_read : {b : Cursor} {n : ℕ} → Checked c (eqb d 0) too_deep p a → Goes text a (number_in 1 loop_most) b n → Goes text b (due "{") r q
      → Makes text c (looping d p) r (λ h. (h ≡ loops n) × (1 ≤ n) × (n ≤ loop_most))
  unfolding looping
  loop_read deep times brace =
      makes_then _ (checked deep (none_left d) refl)
      (makes_then _ times
      (makes_then _ brace
      (made no_more (λ live. let n = gave (number_between 1 loop_most) times (alive_before brace live) in (refl, n.0, n.1)))))

  -- ---- Shift

  pub shift_read : {b : Cursor} (may : Bool) → Checked c (not may) not_here p a → Checked a (eqb d 0) too_deep p b → Goes text b (due "{") r q
      → Makes text c (shift_head may d p) r (λ h. h ≡ shifts)
  unfolding shift_head
  shift_read may here deep brace =
      makes_then _ (checked here refl refl) (makes_then _ (checked deep (none_left d) refl) (makes_then _ brace (made no_more (λ live. refl))))

-- ---- X

-- nothing is assigned
given_none : {given : List ℕ} → Gave [] given → Given [] given
unfolding assigned repeats has chars
given_none g = record {
  gave = g;
  once = refl;
  below = λ s h. (let z : ◌≡◌ {A = ℕ} 0 1 = cc in absurd (omega arith));
  written = λ c h. (let z : ◌≡◌ {A = ℕ} 0 1 = cc in absurd (omega arith));
}

pub label_read : {text : List ℕ} {c a b r : Cursor} {p q : ℕ} {t : Tok} {given : List ℕ} (may : Bool) → Checked c (not may) not_here p a → Goes text a name b t → Goes text b (due ";") r q
    → Gave [] given → Makes text c (label_head may p) r (λ h. (x : Assigns) × (h ≡ sets (assigning x)) × Given x given)
unfolding label_head
label_read may here named end g =
    makes_then _ (checked here refl refl) (makes_then _ named (makes_then _ end (made no_more (λ live. ([], refl, given_none g)))))
