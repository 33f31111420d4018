-- More signals and groups allowed (document 02, wish 12): a text that fewer allowed means the same, and whatever is not refused 8 with the smaller bounds is refused as it was.
-- Only two readers look at these bounds, and where they answer otherwise, the one with the smaller bound refuses 8.
use mathlib.Core.Path.{◌≡◌, refl, sym, ap, ◌∙◌, subst}
use Prim.Native.Nat.{ℕ, zero, suc, ◌+◌, ◌≤◌, ◌<◌}
use Prim.Native.String.{String}
use native.Mathlib.Omega.{arith}
use mathlib.Core.Bool.{Bool, true, false, not}
use mathlib.Core.Option.{Option, none, some}
use mathlib.Core.List.{List, [], ◌∷◌, ◌++◌}
use lib.ListN.{length}
use lib.Dec.{leb}
use borrow.Author.Tests.{leb-true, le-leb, lt-leb}
use Rattle.tokens.specs.Tokens.{Tok, Toks, toks, left, fault_of}
use Rattle.meaning.specs.Refusals.{too_many, bad_group}
use Rattle.meaning.specs.Bounds.{signals_most, groups_most}
use Rattle.meaning.specs.Lists.{empty}
use Rattle.meaning.specs.Reader.{Res, Reader, ok, refuse, after, ◌>>=◌, give, refuse_if, ahead, due, if_ahead, option, while_f, while, closed, until}
use Rattle.meaning.specs.Names.{new_name, due_among}
use Rattle.meaning.specs.Signals.{Names, signal_up_to, signals_up_to, signal, directions}
use Rattle.meaning.specs.Groups.{expression, group_up_to, groups_up_to, group}
use Rattle.meaning.specs.Document.{Read, document_up_to}
use Rattle.meaning.specs.Meaning.{Answer, given, refused, accept, Meaning, meaning_up_to, meaning}

-- anything but refusal 8
abbrev Other : {A : Type 0} → Res A → Type 0
Other (ok a ts) = Unit {0}
Other (refuse n p) = n ≡ too_many → ⊥

abbrev pub OtherAnswer : {A : Type 0} → Answer A → Type 0
OtherAnswer (given a) = Unit {0}
OtherAnswer (refused n p) = n ≡ too_many → ⊥

-- what m answers or refuses, but for 8, so does m'
record Wider {A : Type 0} (m m' : Reader A) : Type 0 where
  all : (ts : Toks) → Other (m ts) → m' ts ≡ m ts

-- ---- readers of readers

wider_same : {A : Type 0} (m : Reader A) → Wider m m
wider_same m = record { all = λ ts o. refl }

module _ {A B : Type 0} (m m' : Reader A) (f f' : A → Reader B) (h : Wider m m') (g : (a : A) → Wider (f a) (f' a)) where
  wider_bind : Wider (m >>= f) (m' >>= f')
  unfolding ◌>>=◌ after
  wider_bind = record { all = λ ts o. by ts (m ts) refl o }
    where
      by : (ts : Toks) (r : Res A) → m ts ≡ r → Other (after r f) → after (m' ts) f' ≡ after r f
      by ts (ok a us) e o = ap (λ (r : Res A). after r f') (h.all ts (subst Other (sym e) tt) ∙ e) ∙ (g a).all us o
      by ts (refuse n p) e o = ap (λ (r : Res A). after r f') (h.all ts (subst Other (sym e) o) ∙ e)

wider_if : (b b' : Bool) (p : ℕ) → (b' ≡ true → b ≡ true) → Wider (refuse_if b too_many p) (refuse_if b' too_many p)
unfolding refuse_if
wider_if true b' p h = record { all = λ ts o. absurd (o refl) }
wider_if false false p h = record { all = λ ts o. refl }
wider_if false true p h = let z = h refl in let z : ◌≡◌ {A = ℕ} 0 1 = cc in absurd (omega arith)

wider_option : {S : Type 0} (w : String) (part part' : S → Reader S) → ((s : S) → Wider (part s) (part' s)) → (s : S) → Wider (option w part s) (option w part' s)
unfolding option if_ahead give
wider_option {S} w part part' h s = record { all = λ ts o. by ts (ahead w ts) o }
  where
    by : (ts : Toks) (b : Bool) → Other {A = S} (elim b [ true ↦ part s ts | false ↦ ok s ts ])
        → ◌≡◌ {A = Res S} (elim b [ true ↦ part' s ts | false ↦ ok s ts ]) (elim b [ true ↦ part s ts | false ↦ ok s ts ])
    by ts true o = (h s).all ts o
    by ts false o = refl

module _ {S : Type 0} (test : Toks → Bool) (step step' : S → Reader S) (h : (s : S) → Wider (step s) (step' s)) where
  wider_while_f : (k : ℕ) (s : S) → Wider (while_f test step k s) (while_f test step' k s)
  unfolding while_f
  wider_while_f zero s = record { all = λ ts o. refl }
  wider_while_f (suc k) s = record { all = λ ts o. by (wider_bind (step s) (step' s) (λ x. while_f test step k x) (λ x. while_f test step' k x) (h s) (λ x. wider_while_f k x)) ts (test ts) o }
    where
      by : Wider (step s >>= λ x. while_f test step k x) (step' s >>= λ x. while_f test step' k x) → (ts : Toks) (b : Bool) → Other {A = S} (elim b [ true ↦ (step s >>= λ x. while_f test step k x) ts | false ↦ ok s ts ])
          → ◌≡◌ {A = Res S} (elim b [ true ↦ (step' s >>= λ x. while_f test step' k x) ts | false ↦ ok s ts ]) (elim b [ true ↦ (step s >>= λ x. while_f test step k x) ts | false ↦ ok s ts ])
      by turn ts true o = turn.all ts o
      by turn ts false o = refl

  wider_while : (s : S) → Wider (while test step s) (while test step' s)
  unfolding while
  wider_while s = record { all = λ ts o. (wider_while_f (suc (left ts)) s).all ts o }

wider_until : {S : Type 0} (w : String) (step step' : S → Reader S) → ((s : S) → Wider (step s) (step' s)) → (s : S) → Wider (until w step s) (until w step' s)
unfolding until closed
wider_until w step step' h s =
    wider_bind _ _ _ _ (wider_bind _ _ _ _ (wider_while (λ ts. not (ahead w ts)) step step' h s) (λ x. wider_same _)) (λ x. wider_same _)

-- ---- the two blocks, and the text

-- a bound that is passed was passed by the smaller one
passed : (a b n : ℕ) → a ≤ b → leb b n ≡ true → leb a n ≡ true
passed a b n h e = le-leb a n (omega (arith, h, leb-true b n e))

module _ {most most' : ℕ} (h : most ≤ most') where
  wider_signal : (ns : Names) → Wider (signal_up_to most ns) (signal_up_to most' ns)
  unfolding signal_up_to
  wider_signal ns =
      wider_bind _ _ _ _ (wider_same _) λ t. wider_bind _ _ _ _ (wider_if _ _ _ (passed most most' (length ns) h)) λ u. wider_same _

  wider_signals : Wider (signals_up_to most) (signals_up_to most')
  unfolding signals_up_to
  wider_signals =
      wider_bind _ _ _ _ (wider_same _) λ p. wider_bind _ _ _ _ (wider_same _) λ q. wider_bind _ _ _ _ (wider_signal _) λ ns. wider_until "}" _ _ wider_signal ns

  wider_group : (n : ℕ) (ns : Names) → Wider (group_up_to most n ns) (group_up_to most' n ns)
  unfolding group_up_to
  wider_group n ns =
      wider_bind _ _ _ _ (wider_same _) λ t. wider_bind _ _ _ _ (wider_if _ _ _ (passed (n + most) (n + most') (length ns) (omega (arith, h)))) λ u. wider_same _

  wider_groups : (ns : Names) → Wider (groups_up_to most ns) (groups_up_to most' ns)
  unfolding groups_up_to
  wider_groups ns = wider_bind _ _ _ _ (wider_same _) λ p. wider_bind _ _ _ _ (wider_same _) λ q. wider_until "}" _ _ (wider_group (length ns)) ns

module _ {most most' groups groups' : ℕ} (h : most ≤ most') (k : groups ≤ groups') where
  wider_document : Wider (document_up_to most groups) (document_up_to most' groups')
  unfolding document_up_to
  wider_document =
      wider_bind _ _ _ _ (wider_same _) λ a. wider_bind _ _ _ _ (wider_same _) λ b. wider_bind _ _ _ _ (wider_same _) λ c.
      wider_bind _ _ _ _ (wider_signals h) λ ss. wider_bind _ _ _ _ (wider_option "SignalGroups" _ _ (wider_groups k) ss) λ ns. wider_same _

  -- WIDER PARTS: with larger bounds every text means what it meant, unless it was refused 8
  pub meaning_wider : (text : List ℕ) → OtherAnswer (meaning_up_to most groups text) → meaning_up_to most' groups' text ≡ meaning_up_to most groups text
  unfolding accept
  meaning_wider text = by_fault (fault_of text)
    where
      by_read : (r : Res Read) → document_up_to most groups (toks text 0) ≡ r → OtherAnswer (accept r) → accept (document_up_to most' groups' (toks text 0)) ≡ accept r
      by_read (ok d us) e o = ap accept (wider_document.all (toks text 0) (subst Other (sym e) tt) ∙ e)
      by_read (refuse n p) e o = ap accept (wider_document.all (toks text 0) (subst Other (sym e) o) ∙ e)

      by_fault : (f : Option (ℕ × ℕ)) → OtherAnswer {A = Meaning} (elim f [ some f ↦ refused f.0 f.1 | none ↦ accept (document_up_to most groups (toks text 0)) ])
          → ◌≡◌ {A = Answer Meaning} (elim f [ some f ↦ refused f.0 f.1 | none ↦ accept (document_up_to most' groups' (toks text 0)) ])
          (elim f [ some f ↦ refused f.0 f.1 | none ↦ accept (document_up_to most groups (toks text 0)) ])
      by_fault (some f) o = refl
      by_fault none o = by_read (document_up_to most groups (toks text 0)) refl o

-- ---- before and after

-- the bounds of document 01
abbrev pub signals_before : ℕ
signals_before = 64

abbrev pub groups_before : ℕ
groups_before = 32

module _ (text : List ℕ) where
  -- a text that they allowed is accepted with the same signals, tables and run, and so with the same rows
  pub accepted_before : (m : Meaning) → meaning_up_to signals_before groups_before text ≡ given m → meaning text ≡ given m
  unfolding meaning
  accepted_before m e = meaning_wider {most = signals_before} {most' = signals_most} {groups = groups_before} {groups' = groups_most} (omega arith) (omega arith) text (subst OtherAnswer (sym e) tt) ∙ e

  -- and one that was refused otherwise than 8 is refused as it was
  pub refused_before : (n p : ℕ) → meaning_up_to signals_before groups_before text ≡ refused n p → (n ≡ too_many → ⊥) → meaning text ≡ refused n p
  unfolding meaning
  refused_before n p e o = meaning_wider {most = signals_before} {most' = signals_most} {groups = groups_before} {groups' = groups_most} (omega arith) (omega arith) text (subst OtherAnswer (sym e) o) ∙ e

-- ---- refusal 8 at the new bounds

-- of a new name behind fewer than 256 signals the rest is read
pub signal_allowed : (ns : Names) (ts : Toks) (t : Tok) (us : Toks) → new_name ns ts ≡ ok t us → length ns < 256
    → signal ns ts ≡ (due_among directions >>= λ p. due ";" >>= λ q. give (ns ++ (t, length ns ∷ []) ∷ [])) us
unfolding signal_up_to refuse_if ◌>>=◌ after
signal_allowed ns ts t us e h = rw (e, lt-leb signals_most (length ns) (omega (arith, h)))

-- a new name is the 257th signal: 8 at its name
pub signal_too_many : (ns : Names) (ts : Toks) (t : Tok) (us : Toks) → new_name ns ts ≡ ok t us → length ns ≡ 256 → signal ns ts ≡ refuse too_many t.at
unfolding signal_up_to refuse_if ◌>>=◌ after
signal_too_many ns ts t us e n = rw (e, n)

-- the 129th group behind n signals
pub group_too_many : (n : ℕ) (ns : Names) (ts : Toks) (t : Tok) (us : Toks) → new_name ns ts ≡ ok t us → length ns ≡ n + 128 → group n ns ts ≡ refuse too_many t.at
unfolding group_up_to refuse_if ◌>>=◌ after
group_too_many n ns ts t us e l = rw (e, l, le-leb (n + groups_most) (n + 128) (omega arith))

-- behind fewer than 128 groups the rest is read
pub group_allowed : (n : ℕ) (ns : Names) (ts : Toks) (t : Tok) (us : Toks) → new_name ns ts ≡ ok t us → length ns < n + 128
    → group n ns ts
    ≡ (due "=" >>= λ p. due "'" >>= λ p. expression ns >>= λ g. due "'" >>= λ q. refuse_if (empty g) bad_group q >>= λ u. due ";" >>= λ p. give (ns ++ (t, g) ∷ [])) us
unfolding group_up_to refuse_if ◌>>=◌ after
group_allowed n ns ts t us e h = rw (e, lt-leb (n + groups_most) (length ns) (omega (arith, h)))
