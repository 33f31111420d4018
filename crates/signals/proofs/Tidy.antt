-- What the definitions give: the signals are numbered in order, and each name's signals differ and lie below their number.
use Prim.Native.Nat.{ℕ, zero, suc, ◌+◌, ◌≤◌}
use native.Mathlib.Omega.{arith}
use native.Mathlib.Nat.{zero-add, add-zero, add-suc, suc-add}
use mathlib.Core.Path.{◌≡◌, refl, sym, ap, ◌∙◌, subst}
use mathlib.Core.Bool.{Bool, true, false}
use mathlib.Core.Option.{Option, some}
use mathlib.Core.List.{List, [], ◌∷◌, ◌++◌, append_assoc}
use lib.Dec.{leb}
use lib.ListN.{length, length-append}
use borrow.Author.Tests.{leb-false}
use Rattle.tokens.specs.Written.{same}
use Rattle.tokens.specs.Tokens.{Tok}
use Rattle.meaning.specs.Bounds.{signals_most, groups_most}
use Rattle.meaning.specs.Lists.{meets}
use Rattle.meaning.specs.Reader.{Reader, option}
use Rattle.meaning.specs.Names.{find, known, name, old_name}
use Rattle.meaning.specs.Signals.{Names, signal, signals, signal_up_to, signals_up_to}
use Rattle.meaning.specs.Groups.{term, joined, more, terms, bracket, expression, group, groups, group_up_to, groups_up_to}
use Rattle.meaning.proofs.Gives.{known_ok, Gives, gives_bind, gives_after, gives_give, gives_if, gives_ahead, gives_while, gives_until}
use Rattle.sets.proofs.Tidy.{TidyBelow, bare, next, tidy_single, tidy_append, tidy_without}
use Rattle.words.specs.Cursor.{alive, Goes}
use Rattle.words.specs.declared.Cursor.{Cursor}
use Rattle.words.proofs.Flow.{read}
use Rattle.signals.specs.Names.{AllTidy, none, more as another, front}

-- what a reader gives, its code has found
pub gave : {A : Type 0} {P : A → Type 0} {text : List ℕ} {c r : Cursor} {m : Reader A} {a : A} → Gives P m → Goes text c m r a → alive r ≡ true → P a
gave h g e = h.all _ _ _ (read g e).gave

pub gives_known : {A : Type 0} (P : A → Type 0) (o : Option A) (n p : ℕ) → ((a : A) → o ≡ some a → P a) → Gives P (known o n p)
gives_known P o n p h = record { all = λ ts a us e. h a (known_ok o n p ts e) }

-- ---- tidy names

tidy_more : {most : ℕ} {ns : Names} (t : Tok) {l : List ℕ} → AllTidy most ns → TidyBelow most l → AllTidy most (ns ++ (t, l) ∷ [])
tidy_more t none k = another k none
tidy_more t (another h hs) k = another h (tidy_more t hs k)

wider : {m n : ℕ} {l : List ℕ} → m ≤ n → TidyBelow m l → TidyBelow n l
wider e bare = bare
wider e (next {x = x} h f t) = next {x = x} (omega arith) f (wider e t)

pub tidy_wider : {m n : ℕ} {ns : Names} → m ≤ n → AllTidy m ns → AllTidy n ns
tidy_wider e none = none
tidy_wider e (another h hs) = another (wider e h) (tidy_wider e hs)

-- ---- expressions

module _ (most : ℕ) where
  find_tidy : (ns : Names) → AllTidy most ns → (w l : List ℕ) → find ns w ≡ some l → TidyBelow most l
  unfolding find
  find_tidy [] none w l e = let z : ◌≡◌ {A = ℕ} 0 1 = cc in absurd (omega arith)
  find_tidy ((t, k) ∷ ns) (another h hs) w l e = by (same t.word w) e (find_tidy ns hs w l)
    where
      by : (b : Bool) → ◌≡◌ {A = Option (List ℕ)} (elim b [ true ↦ some k | false ↦ find ns w ]) (some l) → (find ns w ≡ some l → TidyBelow most l) → TidyBelow most l
      by true e r = let q : k ≡ l = cc in subst (TidyBelow most) q h
      by false e r = r e

  abbrev TidyFirst : List ℕ × ℕ → Type 0
  TidyFirst x = TidyBelow most x.0

  module _ (ns : Names) (t : AllTidy most ns) where
    tidy_old : Gives (λ x. TidyBelow most x.1) (old_name ns)
    unfolding old_name
    tidy_old =
        gives_after (λ x. TidyBelow most x.1) name _ λ u.
        gives_bind (TidyBelow most) (λ x. TidyBelow most x.1) _ _ (gives_known (TidyBelow most) _ _ _ (λ l e. find_tidy ns t u.word l e)) λ l q.
        gives_give (λ x. TidyBelow most x.1) _ q

    module _ (inner : ℕ → Reader (List ℕ)) (h : (p : ℕ) → Gives (TidyBelow most) (inner p)) where
      pub tidy_term : Gives (λ x. TidyBelow most x.0) (term inner ns)
      unfolding term
      tidy_term =
          gives_ahead TidyFirst "(" _ _
          (gives_after TidyFirst _ _ λ p. gives_bind (TidyBelow most) TidyFirst _ _ (h p) λ g q. gives_after TidyFirst _ _ λ r. gives_give TidyFirst _ q)
          (gives_bind (λ x. TidyBelow most x.1) TidyFirst _ _ tidy_old λ x q. gives_give TidyFirst _ q)

      tidy_joined : (plus : Bool) (g x : List ℕ) (q : ℕ) → TidyBelow most g → TidyBelow most x → Gives (TidyBelow most) (joined plus g x q)
      unfolding joined
      tidy_joined true g x q u v =
          gives_bind (λ z. meets x g ≡ false) (TidyBelow most) _ _ (gives_if _ _ _) λ z e. gives_give (TidyBelow most) _ (tidy_append u v e)
      tidy_joined false g x q u v = gives_after (TidyBelow most) _ _ λ z. gives_give (TidyBelow most) _ (tidy_without x u)

      pub tidy_turn : (g : List ℕ) → TidyBelow most g → Gives (TidyBelow most) (more inner ns g)
      unfolding more
      tidy_turn g u =
          gives_after (TidyBelow most) _ _ λ plus.
          gives_bind TidyFirst (TidyBelow most) _ _ tidy_term λ x q. tidy_joined plus g x.0 x.1 u q

      tidy_terms : Gives (TidyBelow most) (terms inner ns)
      unfolding terms
      tidy_terms = gives_bind TidyFirst (TidyBelow most) _ _ tidy_term λ x q. gives_while (TidyBelow most) _ (more inner ns) tidy_turn x.0 q

    pub tidy_bracket : (d p : ℕ) → Gives (TidyBelow most) (bracket d ns p)
    unfolding bracket
    tidy_bracket zero p = record { all = λ ts a us e. (let z : ◌≡◌ {A = ℕ} 0 1 = cc in absurd (omega arith)) }
    tidy_bracket (suc d) p = tidy_terms (bracket d ns) (tidy_bracket d)

    tidy_expression : Gives (TidyBelow most) (expression ns)
    unfolding expression
    tidy_expression = tidy_terms (bracket _ ns) (tidy_bracket _)

-- ---- SignalGroups

-- ms are the names ns and groups behind them, where n signals are declared
pub record Grown (most n : ℕ) (ns ms : Names) : Type 0 where
  pub tidy : AllTidy most ms
  pub added : Names
  pub same : ms ≡ ns ++ added
  pub few : length ms ≤ n + groups_most

append-nil : (ns : Names) → ns ++ [] ≡ ns
append-nil [] = refl
append-nil (x ∷ ns) = ap (λ (l : Names). x ∷ l) (append-nil ns)

module _ (most n : ℕ) (ns : Names) where
  pub grown_group : (ms : Names) → Grown most n ns ms → Gives (Grown most n ns) (group n ms)
  unfolding group_up_to
  grown_group ms h =
      gives_after P _ _ λ t.
      gives_bind (λ u. leb (n + groups_most) (length ms) ≡ false) P _ _ (gives_if _ _ _) λ u e.
      gives_after P _ _ λ p.
      gives_after P _ _ λ q.
      gives_bind (TidyBelow most) P _ _ (tidy_expression most ms h.tidy) λ g k.
      gives_after P _ _ λ q.
      gives_after P _ _ λ u.
      gives_after P _ _ λ p.
      gives_give P _ (record {
        tidy = tidy_more t h.tidy k;
        added = h.added ++ (t, g) ∷ [];
        same = ap (λ (l : Names). l ++ (t, g) ∷ []) h.same ∙ append_assoc ns h.added ((t, g) ∷ []);
        few = omega (arith, leb-false (n + groups_most) (length ms) e, length-append ms ((t, g) ∷ []));
      })
    where
      P : Names → Type 0
      P = Grown most n ns

  pub ungrown : AllTidy most ns → length ns ≤ n + groups_most → Grown most n ns ns
  ungrown h e = record { tidy = h; added = []; same = sym (append-nil ns); few = e }

pub grown_groups : (most : ℕ) (ns : Names) → AllTidy most ns → Gives (Grown most (length ns) ns) (groups ns)
unfolding groups_up_to
grown_groups most ns h =
    gives_after P _ _ λ p.
    gives_after P _ _ λ q.
    gives_until P "}" (group (length ns)) (grown_group most (length ns) ns) ns (ungrown most (length ns) ns h (omega arith))
  where
    P : Names → Type 0
    P = Grown most (length ns) ns

-- ---- Signals

-- names that stand for one signal each, numbered from i on
pub data Single : ℕ → Names → Type 0 where
  no_more : {i : ℕ} → Single i []
  one : {i : ℕ} {t : Tok} {l : List ℕ} {ns : Names} → l ≡ i ∷ [] → Single (suc i) ns → Single i ((t, l) ∷ ns)

single_more : {i : ℕ} {ns : Names} (t : Tok) → Single i ns → Single i (ns ++ (t, (i + length ns) ∷ []) ∷ [])
single_more {i} t no_more = one (ap (λ (n : ℕ). n ∷ []) (add-zero i)) no_more
single_more {i} t (one {ns = ns} e h) =
    one e (subst (λ (n : ℕ). Single (suc i) (ns ++ (t, n ∷ []) ∷ [])) (suc-add i (length ns) ∙ sym (add-suc i (length ns))) (single_more t h))

single_tidy : {i most : ℕ} {ns : Names} → Single i ns → i + length ns ≤ most → AllTidy most ns
single_tidy no_more e = none
single_tidy {i} {most} (one f h) e = another (subst (TidyBelow most) (sym f) (tidy_single (omega arith))) (single_tidy h (omega arith))

-- at most so many signals, and each stands for its own number
pub record Numbered (ns : Names) : Type 0 where
  pub single : Single 0 ns
  pub few : length ns ≤ signals_most

pub numbered_tidy : {ns : Names} → Numbered ns → AllTidy (length ns) ns
numbered_tidy h = single_tidy h.single (omega arith)

pub numbered_signal : (ns : Names) → Numbered ns → Gives Numbered (signal ns)
unfolding signal_up_to
numbered_signal ns h =
    gives_after Numbered _ _ λ t.
    gives_bind (λ u. leb signals_most (length ns) ≡ false) Numbered _ _ (gives_if _ _ _) λ u e.
    gives_after Numbered _ _ λ p.
    gives_after Numbered _ _ λ q.
    gives_give Numbered _ (record {
      single = subst (λ (n : ℕ). Single 0 (ns ++ (t, n ∷ []) ∷ [])) (zero-add (length ns)) (single_more t h.single);
      few = omega (arith, leb-false signals_most (length ns) e, length-append ns ((t, length ns ∷ []) ∷ []));
    })

pub no_signal : Numbered []
no_signal = record { single = no_more; few = omega arith }

pub numbered_signals : Gives Numbered signals
unfolding signals_up_to
numbered_signals =
    gives_after Numbered _ _ λ p.
    gives_after Numbered _ _ λ q.
    gives_bind Numbered Numbered _ _ (numbered_signal [] no_signal) λ ns h. gives_until Numbered "}" signal numbered_signal ns h

-- ---- both blocks

-- the signals, and all names: each signal stands for its own number, and every name for signals that differ
pub record Declared (ss ns : Names) : Type 0 where
  pub signals : Numbered ss
  pub names : Grown (length ss) (length ss) ss ns

pub declared_front : Gives (λ x. Declared x.0 x.1) front
unfolding front option
declared_front =
    gives_bind Numbered P _ _ numbered_signals λ ss h.
    gives_bind (Grown (length ss) (length ss) ss) P _ _
    (gives_ahead (Grown (length ss) (length ss) ss) "SignalGroups" _ _ (grown_groups (length ss) ss (numbered_tidy h))
    (gives_give _ ss (ungrown (length ss) (length ss) ss (numbered_tidy h) (omega arith)))) λ ns k.
    gives_give P (ss, ns) (record { signals = h; names = k })
  where
    P : Names × Names → Type 0
    P x = Declared x.0 x.1
