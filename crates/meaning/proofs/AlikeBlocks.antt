-- Names, Signals, SignalGroups and Timing on two streams with the same words up to a border.
use mathlib.Core.Path.{◌≡◌, refl, sym, ap, ap₂, ◌∙◌, subst}
use Prim.Native.Nat.{ℕ, zero, suc}
use Prim.Native.String.{String}
use native.Mathlib.Omega.{arith}
use mathlib.Core.Bool.{Bool, true, false, not, ◌&&◌, ◌||◌}
use mathlib.Core.Option.{Option, some}
use mathlib.Core.List.{List, [], ◌∷◌, ◌++◌}
use lib.ListN.{length}
use lib.Dec.{leb}
use Rattle.tokens.specs.Written.{bytes, same}
use Rattle.tokens.specs.Bytes.{between, digit}
use Rattle.tokens.specs.Tokens.{Tok, Toks}
use Rattle.meaning.specs.Bounds.{entry_most, brackets_most}
use Rattle.meaning.specs.Lists.{has, repeats}
use Rattle.meaning.specs.Reader.{Reader, ◌>>=◌, give, until}
use Rattle.meaning.specs.Names.{reserved, among, is_name, name, due_among, find, new_name, old_name, value, number, number_in}
use Rattle.meaning.specs.Signals.{Names, directions, signal, signals, signals_up_to, signal_up_to}
use Rattle.meaning.specs.Groups.{term, sign, sign_ahead, joined, more, terms, bracket, expression, group, groups, groups_up_to, group_up_to}
use Rattle.meaning.specs.Timing.{Wave, Tables, picoseconds, quoted, Signed, plus, minus, time_of, signed_quoted, event_letter, letter_due, alternative, letters, Events, one_event, event, taken, blanks, waves_for, entry, waveforms, table, timing}
use Rattle.meaning.proofs.Choices.{◌also◌}
use Rattle.meaning.proofs.Alike.{Border, Like, like_ahead, Alike, Anyhow, Equal, SameWord, alike_bind, alike_equal, alike_at, alike_give, alike_if, alike_known, alike_within, never_bind, never_then, never_if, never_known, never_within, never_refuse, alike_never, alike_any, alike_word, alike_due, alike_choose, alike_test, alike_ahead, alike_while, alike_until}

-- ---- lists of names with what they stand for

abbrev pub Paired : {A : Type 0} → (A → A → Type 0) → List (Tok × A) → List (Tok × A) → Type 0
Paired R [] [] = Unit {0}
Paired R [] (y ∷ ys) = ⊥
Paired R (x ∷ xs) [] = ⊥
Paired R (x ∷ xs) (y ∷ ys) = ((x.0.word ≡ y.0.word) × R x.1 y.1) × Paired R xs ys

module _ {A : Type 0} (R : A → A → Type 0) where
  pub paired_more : (xs ys : List (Tok × A)) → Paired R xs ys → (t u : Tok) → SameWord t u → (a b : A) → R a b → Paired R (xs ++ (t, a) ∷ []) (ys ++ (u, b) ∷ [])
  paired_more [] [] h t u e a b r = ((e, r), tt)
  paired_more [] (y ∷ ys) h t u e a b r = absurd h
  paired_more (x ∷ xs) [] h t u e a b r = absurd h
  paired_more (x ∷ xs) (y ∷ ys) h t u e a b r = (h.0, paired_more xs ys h.1 t u e a b r)

  pub paired_length : (xs ys : List (Tok × A)) → Paired R xs ys → length xs ≡ length ys
  paired_length [] [] h = refl
  paired_length [] (y ∷ ys) h = absurd h
  paired_length (x ∷ xs) [] h = absurd h
  paired_length (x ∷ xs) (y ∷ ys) h = ap suc (paired_length xs ys h.1)

  pub paired_find : (xs ys : List (Tok × A)) → Paired R xs ys → (w : List ℕ) (a b : A) → find xs w ≡ some a → find ys w ≡ some b → R a b
  unfolding find
  paired_find [] ys h w a b e d = let z : ◌≡◌ {A = ℕ} 0 1 = cc in absurd (omega arith)
  paired_find (x ∷ xs) [] h w a b e d = absurd h
  paired_find (x ∷ xs) (y ∷ ys) h w a b e d =
      by (same x.0.word w) (same y.0.word w) (ap (λ (v : List ℕ). same v w) h.0.0) e d (paired_find xs ys h.1 w a b)
    where
      by : (p q : Bool) → p ≡ q → ◌≡◌ {A = Option A} (elim p [ true ↦ some x.1 | false ↦ find xs w ]) (some a)
          → ◌≡◌ {A = Option A} (elim q [ true ↦ some y.1 | false ↦ find ys w ]) (some b)
          → (find xs w ≡ some a → find ys w ≡ some b → R a b) → R a b
      by true true z e d ih =
          let i : x.1 ≡ a = cc in
          let j : y.1 ≡ b = cc in
          subst (λ (v : A). R a v) j (subst (λ (v : A). R v y.1) i h.0.1)
      by false false z e d ih = ih e d
      by true false z e d ih = let z : ◌≡◌ {A = ℕ} 0 1 = cc in absurd (omega arith)
      by false true z e d ih = let z : ◌≡◌ {A = ℕ} 0 1 = cc in absurd (omega arith)

-- what is next is a sign on both
like_signs : (B : Border) (i : ℕ) (ts us : Toks) → Like B i ts us → sign_ahead ts ≡ sign_ahead us
unfolding sign_ahead
like_signs B i ts us l = ap₂ (λ (x y : Bool). x || y) (like_ahead B (bytes "+") i ts us l) (like_ahead B (bytes "-") i ts us l)

-- the events of an entry for the characters cs
abbrev events : List ℕ → List Wave → List ℕ → Reader (List Wave)
events sigs ws cs = do
  e ← event (length cs) (blanks cs, 0)
  es ← until "}" (event (length cs)) e
  give (ws ++ waves_for sigs cs es.0)

module _ {B : Border} where
  -- ---- names and numbers

  pub alike_name : {c : Bool} → Alike B c SameWord name name
  unfolding name bytes is_name has digit between among reserved same
  alike_name =
      alike_word (λ t e. never_bind _ _ (never_if _ _ _ (ap (λ (w : List ℕ). not (is_name w)) e))) λ t u e.
      alike_bind (alike_if _ _ _ _ _ _) λ x y q. alike_give _ _ e

  pub alike_new : {c : Bool} {A : Type 0} (xs ys : List (Tok × A)) → Alike B c SameWord (new_name xs) (new_name ys)
  unfolding new_name
  alike_new xs ys = alike_bind alike_name λ t u e. alike_bind (alike_if _ _ _ _ _ _) λ x y q. alike_give _ _ e

  pub alike_old : {c : Bool} {A : Type 0} (R : A → A → Type 0) (xs ys : List (Tok × A)) → Paired R xs ys
      → Alike B c (λ (x y : Tok × A). SameWord x.0 y.0 × R x.1 y.1) (old_name xs) (old_name ys)
  unfolding old_name
  alike_old R xs ys h =
      alike_bind alike_name λ t u e. alike_bind
      (alike_known _ _ _ _ _ _ λ a b p q. paired_find R xs ys h t.word a b p (subst (λ (w : List ℕ). find ys w ≡ some b) (sym e) q))
      λ a b r. alike_give _ _ (e, r)

  pub alike_among : {c : Bool} (ks : List String) → among ks (bytes "Pattern") ≡ false → Alike B c Anyhow (due_among ks) (due_among ks)
  unfolding due_among
  alike_among ks o =
      alike_any (λ t e. never_bind _ _ (never_if _ _ _ (ap (λ (w : List ℕ). not (among ks w)) e ∙ ap not o))) λ t u e.
      alike_bind (alike_if _ _ _ _ _ _) λ x y q. alike_give _ _ tt

  pub alike_number : {c : Bool} (a b : ℕ) → Alike B c Equal (number_in a b) (number_in a b)
  unfolding number_in bytes number value digit between
  alike_number a b = alike_word (λ t e. never_within _ _ _ _ (ap number e)) λ t u e. alike_within _ _ _ _ _ _ (ap number e)

  -- ---- Signals

  pub alike_signal : {c : Bool} (ns ms : Names) → Paired Equal ns ms → Alike B c (Paired Equal) (signal ns) (signal ms)
  unfolding signal_up_to bytes same among directions
  alike_signal ns ms h =
      alike_bind (alike_new ns ms) λ t u e. alike_bind (alike_if _ _ _ _ _ _) λ x y q. alike_bind (alike_among directions refl) λ i j k. alike_bind (alike_due _ refl) λ l m o.
      alike_give _ _ (paired_more Equal ns ms h t u e _ _ (ap (λ (n : ℕ). n ∷ []) (paired_length Equal ns ms h)))

  pub alike_signals : Alike B false (Paired Equal) signals signals
  unfolding signals_up_to bytes same
  alike_signals =
      alike_bind (alike_due _ refl) λ x y q. alike_bind (alike_due _ refl) λ i j k.
      alike_bind (alike_signal [] [] tt) λ ns ms h. alike_until "}" refl (λ x y r. alike_signal x y r) ns ms h

  -- ---- SignalGroups

  alike_joined : (plus : Bool) (g x : List ℕ) (p q : ℕ) → Alike B false Equal (joined plus g x p) (joined plus g x q)
  unfolding joined
  alike_joined true g x p q = alike_bind (alike_if _ _ _ _ _ _) λ u v w. alike_give _ _ refl
  alike_joined false g x p q = alike_bind (alike_if _ _ _ _ _ _) λ u v w. alike_give _ _ refl

  alike_sign : {c : Bool} → Alike B c Equal sign sign
  unfolding sign bytes same
  alike_sign = alike_choose _ _ ((refl, refl, λ p q. alike_give _ _ refl) also (refl, refl, λ p q. alike_give _ _ refl) also tt)

  module _ (inside within : ℕ → Reader (List ℕ)) (h : (p q : ℕ) → Alike B false Equal (inside p) (within q)) (ns ms : Names) (k : Paired Equal ns ms) where
    alike_term : Alike B false (λ (x y : List ℕ × ℕ). x.0 ≡ y.0) (term inside ns) (term within ms)
    unfolding term bytes same
    alike_term =
        alike_ahead "("
        (alike_bind (alike_due _ refl) λ p q u. alike_bind (h p q) λ x y e. alike_bind (alike_due _ refl) λ i j v. alike_give _ _ e)
        (alike_bind (alike_old Equal ns ms k) λ x y e. alike_give _ _ e.1)

    alike_more : (g d : List ℕ) → g ≡ d → Alike B true Equal (more inside ns g) (more within ms d)
    unfolding more
    alike_more g d e =
        alike_equal alike_sign λ plus. alike_bind alike_term λ x y q.
        rw (e, q) (alike_joined plus d y.0 x.1 y.1)

    alike_terms : Alike B false Equal (terms inside ns) (terms within ms)
    unfolding terms
    alike_terms = alike_bind alike_term λ x y q. alike_while (like_signs B) alike_more x.0 y.0 q

  alike_bracket : (d : ℕ) (ns ms : Names) → Paired Equal ns ms → (p q : ℕ) → Alike B false Equal (bracket d ns p) (bracket d ms q)
  unfolding bracket
  alike_bracket zero ns ms h p q = alike_never never_refuse
  alike_bracket (suc d) ns ms h p q = alike_terms (bracket d ns) (bracket d ms) (alike_bracket d ns ms h) ns ms h

  alike_group : (n m : ℕ) (ns ms : Names) → Paired Equal ns ms → Alike B false (Paired Equal) (group n ns) (group m ms)
  unfolding group_up_to expression bytes same
  alike_group n m ns ms h =
      alike_bind (alike_new ns ms) λ t u e. alike_bind (alike_if _ _ _ _ _ _) λ x y q. alike_bind (alike_due _ refl) λ x y q. alike_bind (alike_due _ refl) λ x y q.
      alike_bind (alike_terms (bracket brackets_most ns) (bracket brackets_most ms) (alike_bracket brackets_most ns ms h) ns ms h) λ g d r.
      alike_bind (alike_due _ refl) λ x y q. alike_bind (alike_if _ _ _ _ _ _) λ x y q. alike_bind (alike_due _ refl) λ x y q.
      alike_give _ _ (paired_more Equal ns ms h t u e g d r)

  pub alike_groups : (ns ms : Names) → Paired Equal ns ms → Alike B false (Paired Equal) (groups ns) (groups ms)
  unfolding groups_up_to bytes same
  alike_groups ns ms h =
      alike_bind (alike_due _ refl) λ x y q. alike_bind (alike_due _ refl) λ x y q. alike_until "}" refl (alike_group (length ns) (length ms)) ns ms h

  -- ---- Timing

  alike_quoted : (a : ℕ) → Alike B false Equal (quoted a) (quoted a)
  unfolding quoted bytes same picoseconds digit between
  alike_quoted a =
      alike_bind (alike_due _ refl) λ x y q. alike_word (λ t e. never_bind _ _ (never_within _ _ _ _ (ap picoseconds e))) λ t u e.
      alike_equal (alike_within _ _ _ _ _ _ (ap picoseconds e)) λ n. alike_bind (alike_due _ refl) λ x y q. alike_give _ _ refl

  alike_time : (sign : ℕ → Signed) → Alike B false Equal (time_of sign) (time_of sign)
  unfolding time_of bytes same picoseconds digit between
  alike_time sign =
      alike_word (λ t e. never_bind _ _ (never_within _ _ _ _ (ap picoseconds e))) λ t u e.
      alike_equal (alike_within _ _ _ _ _ _ (ap picoseconds e)) λ n. alike_give _ _ refl

  alike_signed : Alike B false Equal signed_quoted signed_quoted
  unfolding signed_quoted bytes same
  alike_signed =
      alike_bind (alike_due _ refl) λ x y q.
      alike_equal (alike_ahead "-" (alike_bind (alike_due _ refl) λ x y q. alike_time minus) (alike_time plus)) λ t.
      alike_bind (alike_due _ refl) λ x y q. alike_give _ _ refl

  alike_letter : Alike B false Equal letter_due letter_due
  unfolding letter_due bytes event_letter
  alike_letter =
      alike_any (λ t e. never_known _ _ _ (ap event_letter e)) λ t u e.
      alike_known _ _ _ _ _ _ λ a b p q. (let z : some a ≡ some b = sym p ∙ ap event_letter e ∙ q in let k : a ≡ b = cc in k)

  alike_alternative : (es : List ℕ) → Alike B true Equal (alternative es) (alternative es)
  unfolding alternative bytes same
  alike_alternative es = alike_bind (alike_due _ refl) λ x y q. alike_equal alike_letter λ e. alike_give _ _ refl

  alike_letters : Alike B false Equal letters letters
  unfolding letters
  alike_letters =
      alike_equal alike_letter λ e. alike_while (like_ahead B (bytes "/"))
      (alike_at alike_alternative) (e ∷ []) (e ∷ []) refl

  alike_one : (n : ℕ) (s : Events) → Alike B false Equal (one_event n s) (one_event n s)
  unfolding one_event bytes same
  alike_one n s =
      alike_equal alike_signed λ t. alike_equal alike_letters λ es. alike_bind (alike_due _ refl) λ x y q. alike_bind (alike_if _ _ _ _ _ _) λ x y q.
      alike_equal (alike_known _ _ _ _ _ _ λ a b p q. (let z : some a ≡ some b = sym p ∙ q in let k : a ≡ b = cc in k)) λ cs. alike_give _ _ refl

  alike_event : (n : ℕ) (s : Events) → Alike B false Equal (event n s) (event n s)
  unfolding event
  alike_event n s =
      alike_test (λ i ts us l. ap (λ (x : Bool). x && leb entry_most s.1) (like_ahead B (bytes "'") i ts us l))
      (alike_never (never_then _ _ λ p. never_refuse)) (alike_one n s)

  alike_events : (sigs : List ℕ) (ws : List Wave) (cs : List ℕ) → Alike B false Equal (events sigs ws cs) (events sigs ws cs)
  unfolding bytes same
  alike_events sigs ws cs =
      alike_equal (alike_event (length cs) (blanks cs, 0)) λ e.
      alike_equal (alike_until "}" refl (alike_at (alike_event (length cs))) e e refl) λ es.
      alike_give _ _ refl

  alike_entry : (sigs : List ℕ) (ws : List Wave) → Alike B false Equal (entry sigs ws) (entry sigs ws)
  unfolding entry bytes same repeats has
  alike_entry sigs ws =
      alike_word (λ t e. never_then _ _ λ u. never_bind _ _ (never_if _ _ _ (ap (λ (w : List ℕ). repeats w || taken sigs w ws) e))) λ t u e.
      alike_bind (alike_if _ _ _ _ _ _) λ x y q. alike_bind (alike_if _ _ _ _ _ _) λ x y q. alike_bind (alike_if _ _ _ _ _ _) λ x y q.
      alike_bind (alike_due _ refl) λ x y q.
      alike_at (alike_events sigs ws) t.word u.word e

  alike_waveforms : (ns ms : Names) → Paired Equal ns ms → (ws : List Wave) → Alike B false Equal (waveforms ns ws) (waveforms ms ws)
  unfolding waveforms bytes same
  alike_waveforms ns ms h ws =
      alike_bind (alike_old Equal ns ms h) λ x y e. alike_bind (alike_due _ refl) λ i j k.
      alike_until "}" refl (λ v w q. alike_at (λ g. alike_at (alike_entry g) v w q) x.1 y.1 e.1) ws ws refl

  alike_table : (ns ms : Names) → Paired Equal ns ms → (ta tb : Tables) → Paired Equal ta tb → Alike B false (Paired Equal) (table ns ta) (table ms tb)
  unfolding table bytes same
  alike_table ns ms h ta tb r =
      alike_bind (alike_due _ refl) λ x y q. alike_bind (alike_if _ _ _ _ _ _) λ x y q. alike_bind (alike_new ta tb) λ t u e.
      alike_bind (alike_due _ refl) λ x y q. alike_bind (alike_due _ refl) λ x y q. alike_equal (alike_quoted 1) λ n.
      alike_bind (alike_due _ refl) λ x y q. alike_bind (alike_due _ refl) λ x y q. alike_bind (alike_due _ refl) λ x y q.
      alike_equal (alike_until "}" refl (alike_at (alike_waveforms ns ms h)) [] [] refl) λ ws.
      alike_bind (alike_due _ refl) λ x y q. alike_give _ _ (paired_more Equal ta tb r t u e _ _ refl)

  pub alike_timing : (ns ms : Names) → Paired Equal ns ms → Alike B false (Paired Equal) (timing ns) (timing ms)
  unfolding timing bytes same
  alike_timing ns ms h =
      alike_bind (alike_due _ refl) λ x y q. alike_bind (alike_due _ refl) λ x y q.
      alike_bind (alike_table ns ms h [] [] tt) λ ta tb r. alike_until "}" refl (alike_table ns ms h) ta tb r
