-- Every name that a text declares or lists is short: it was read as a name.
use Prim.Native.Nat.{ℕ, ◌≤◌}
use native.Mathlib.Omega.{arith}
use mathlib.Core.Path.{◌≡◌, subst}
use mathlib.Core.Bool.{true, false, not, ◌&&◌}
use mathlib.Core.List.{List, [], ◌∷◌, ◌++◌}
use lib.Dec.{leb}
use lib.ListN.{length}
use borrow.Author.Tests.{leb-true, not-false}
use Rattle.tokens.specs.Bytes.{digit}
use Rattle.tokens.specs.Tokens.{Tok}
use Rattle.tokens.proofs.Bools.{both}
use Rattle.meaning.specs.Bounds.{name_most}
use Rattle.meaning.specs.Lists.{has}
use Rattle.meaning.specs.Names.{reserved, among, is_name, name, new_name}
use Rattle.meaning.specs.Signals.{Names, signal, signals, signals_up_to, signal_up_to}
use Rattle.meaning.specs.Timing.{Tables, table, timing}
use Rattle.meaning.specs.Meaning.{firsts}
use Rattle.meaning.specs.Document.{list_entry, burst}
use Rattle.meaning.proofs.Gives.{Gives, gives_bind, gives_after, gives_give, gives_if, gives_until}
use Rattle.words.specs.Table.{names}
use Rattle.timing.specs.declared.Watch.{Watch}
use Rattle.texts.specs.Tables.{Found}
use Rattle.texts.specs.declared.Verdict.{Verdict}
use Rattle.sections.specs.Listing.{Short}

-- ---- one name

abbrev Few : Tok → Type 0
Few t = length t.word ≤ name_most

name_few : (w : List ℕ) → is_name w ≡ true → length w ≤ name_most
unfolding is_name
name_few [] e = omega arith
name_few (b ∷ s) e =
    let few = leb (length (b ∷ s)) name_most in
    let plain = not (has 46 (b ∷ s)) in
    let early = not (digit b) in
    let p = both (few && plain && early) (not (among reserved (b ∷ s))) e in
    leb-true (length (b ∷ s)) name_most (both few plain (both (few && plain) early p.0).0).0

names_few : Gives Few name
unfolding name
names_few = gives_after Few _ _ λ t. gives_bind (λ u. not (is_name t.word) ≡ false) Few _ _ (gives_if _ _ _) λ u h. gives_give Few t (name_few t.word (not-false (is_name t.word) h))

-- ---- and so all of them

module _ {A : Type 0} where
  abbrev AllFew : List (Tok × A) → Type 0
  AllFew xs = Short (firsts xs)

  new_few : (used : List (Tok × A)) → Gives Few (new_name used)
  unfolding new_name
  new_few used = gives_bind Few Few _ _ names_few λ t h. gives_after Few _ _ λ u. gives_give Few t h

  few_more : (xs : List (Tok × A)) (x : Tok × A) → AllFew xs → Few x.0 → AllFew (xs ++ x ∷ [])
  unfolding Short firsts
  few_more [] x h k = (k, tt)
  few_more (y ∷ xs) x h k = (h.0, few_more xs x h.1 k)

no_names : (A : Type 0) → AllFew {A = A} []
unfolding Short firsts
no_names A = tt

signal_few : (ns : Names) → AllFew ns → Gives AllFew (signal ns)
unfolding signal_up_to
signal_few ns h =
    gives_bind Few AllFew _ _ (new_few ns) λ t k. gives_after AllFew _ _ λ u. gives_after AllFew _ _ λ v. gives_after AllFew _ _ λ w. gives_give AllFew _ (few_more ns (t, _) h k)

pub signals_few : Gives (λ (ns : Names). Short (firsts ns)) signals
unfolding signals_up_to
signals_few =
    gives_after AllFew _ _ λ a. gives_after AllFew _ _ λ b. gives_bind AllFew AllFew _ _ (signal_few [] (no_names _)) λ ns h. gives_until AllFew _ _ signal_few ns h

table_few : (ns : Names) (tabs : Tables) → AllFew tabs → Gives AllFew (table ns tabs)
unfolding table
table_few ns tabs h =
    gives_after AllFew _ _ λ p. gives_after AllFew _ _ λ u. gives_bind Few AllFew _ _ (new_few tabs) λ t k.
    gives_after AllFew _ _ λ a. gives_after AllFew _ _ λ b. gives_after AllFew _ _ λ n. gives_after AllFew _ _ λ c. gives_after AllFew _ _ λ d.
    gives_after AllFew _ _ λ e. gives_after AllFew _ _ λ ws. gives_after AllFew _ _ λ f. gives_give AllFew _ (few_more tabs (t, _) h k)

pub tables_few : (ns : Names) → Gives (λ (tabs : Tables). Short (firsts tabs)) (timing ns)
unfolding timing
tables_few ns =
    gives_after AllFew _ _ λ a. gives_after AllFew _ _ λ b. gives_bind AllFew AllFew _ _ (table_few ns [] (no_names _)) λ tabs h. gives_until AllFew _ _ (table_few ns) tabs h

-- as they stand in a text's tables
pub tables_short : {w : Watch} {text places lists tplaces waves book rows list : List ℕ} {v : Verdict} → Found text w places lists tplaces waves book rows list v
    → Short (firsts (names text tplaces v.parts.known.tables))
tables_short f = subst Short f.tabled.held.named ((tables_few _).all _ _ _ f.tabled.parts.timing_read)

-- ---- and the listed ones

short_more : (ts : List Tok) (t : Tok) → Short ts → Few t → Short (ts ++ t ∷ [])
unfolding Short
short_more [] t h k = (k, tt)
short_more (u ∷ ts) t h k = (h.0, short_more ts t h.1 k)

entry_few : (l : List Tok) → Short l → Gives Short (list_entry l)
unfolding list_entry
entry_few l h =
    gives_bind Few Short _ _ names_few λ t k. gives_after Short _ _ λ u. gives_after Short _ _ λ v. gives_give Short _ (short_more l t h k)

pub listed_few : Gives (λ (x : Tok × List Tok). Short x.1) burst
unfolding burst Short
listed_few =
    let P : Tok × List Tok → Type 0 = λ x. Short x.1 in
    gives_after P _ _ λ a. gives_after P _ _ λ t. gives_after P _ _ λ b. gives_after P _ _ λ c. gives_after P _ _ λ d.
    gives_bind Short P _ _ (gives_until Short _ _ entry_few [] tt) λ l h. gives_after P _ _ λ e. gives_give P _ h
